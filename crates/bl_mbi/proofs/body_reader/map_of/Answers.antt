use Rattle.std.proofs.Common.{arith}
use Rattle.std.proofs.lemmas.Grind.{common_steps}
use Rattle.bl_mbi.specs.Bodies.{map_of}
use Rattle.bl_mbi.proofs.body_reader.map_of.Goals as goal

pub returns-then-body-lt8 : goal.returns-then-body-lt8
unfolding map_of
returns-then-body-lt8 g c = grind (arith, common_steps)

pub returns-then-word-ne-ENTRY_SIZE : goal.returns-then-word-ne-ENTRY_SIZE
unfolding map_of
returns-then-word-ne-ENTRY_SIZE g c = grind (arith, common_steps)

pub returns-then-word-ne0 : goal.returns-then-word-ne0
unfolding map_of
returns-then-word-ne0 g c = grind (arith, common_steps)

pub returns-then-body-ne0 : goal.returns-then-body-ne0
unfolding map_of
returns-then-body-ne0 g c = grind (arith, common_steps)

pub returns : goal.returns
unfolding map_of
returns g c = grind (arith, common_steps)
