use Rattle.std.proofs.lemmas.List.{take_all}
use Rattle.c_records.proofs.ListLemmas.{one_more_after}
use Rattle.c_abi.proofs.menu_files.add_module_files.Goals as goal

pub loop-module-preserved : goal.loop-module-preserved
loop-module-preserved g c =
    one_more_after c.args.files.now.items c.loop-module.files.items c.push.new.self.items
    c.args.modules.now c.loop-module.module-index _ (λ m. m.file) c.loop-module-test.true
    c.in_ok-push.ensures.items c.loop-module.invariant

pub returns : goal.returns
returns g c =
    rw (take_all c.loop-module.module-index c.args.modules.now c.loop-module-test.false)
    at c.loop-module.invariant
