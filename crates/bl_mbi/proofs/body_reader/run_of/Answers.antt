use Rattle.std.proofs.Common.{arith}
use Rattle.std.proofs.lemmas.Grind.{common_steps}
use Rattle.bl_mbi.specs.Bodies.{run_of}
use Rattle.bl_mbi.proofs.body_reader.run_of.Goals as goal

pub returns-then-base-length : goal.returns-then-base-length
unfolding run_of
returns-then-base-length c = grind (arith, common_steps)

pub returns-then-word-ne0 : goal.returns-then-word-ne0
unfolding run_of
returns-then-word-ne0 c = grind (arith, common_steps)

pub returns-in_err-kind : goal.returns-in_err-kind
unfolding run_of
returns-in_err-kind c = grind (arith, common_steps)

pub returns : goal.returns
unfolding run_of
returns c = grind (arith, common_steps)
