use Rattle.program_say.specs.WalkLines.{module_line}
use Rattle.program_say.proofs.SaidLemmas.{one_more_said, all_said}
use Rattle.program_say.proofs.lines.walk.say_modules.Goals as goal

pub loop-module-preserved : goal.loop-module-preserved
loop-module-preserved g c =
    one_more_said module_line c.args.modules.now c.loop-module.module-index c.module-item.result
    c.args.out.now.items c.loop-module.out.items c.say_module.new.out.items c.loop-module-test.true
    c.module-item.is c.loop-module.invariant c.in_ok-say_module.ensures

pub returns : goal.returns
returns g c =
    all_said module_line c.args.modules.now c.loop-module.module-index c.args.out.now.items
    c.loop-module.out.items c.loop-module-test.false c.loop-module.invariant
