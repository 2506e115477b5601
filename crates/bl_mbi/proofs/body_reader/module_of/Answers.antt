use Rattle.std.proofs.Common.{◌<◌, arith}
use Rattle.std.proofs.lemmas.Grind.{common_steps}
use Rattle.bl_mbi.specs.Bodies.{module_of}
use Rattle.bl_mbi.proofs.body_reader.module_of.Goals as goal

pub returns-then-body-lt8 : goal.returns-then-body-lt8
unfolding module_of
returns-then-body-lt8 g c = grind (arith, common_steps)

pub returns-then-mod_end-mod_start : goal.returns-then-mod_end-mod_start
unfolding module_of
returns-then-mod_end-mod_start g c =
    let turned : c.word-mod_end.result < c.word-mod_start.result = omega arith in
    grind (arith, common_steps)

pub returns-in_default : goal.returns-in_default
unfolding module_of
returns-in_default g c = grind (arith, common_steps)

pub returns-in_err-copy : goal.returns-in_err-copy
unfolding module_of
returns-in_err-copy g c = grind (arith, common_steps)

pub returns : goal.returns
unfolding module_of
returns g c = grind (arith, common_steps)
