use Rattle.program_boots.proofs.described_lemmas.NameLemmas.{texts, one_more_module, all_modules}
use Rattle.program_commands.proofs.described.names.add_modules.Goals as goal

pub loop-module-preserved : goal.loop-module-preserved
loop-module-preserved g c =
    one_more_module (texts c.args.names.now.items) (texts c.loop-module.names.items)
    (texts c.add_name.new.names.items) c.args.modules.now c.loop-module.module-index
    c.module-item.result c.as_str.result.now c.loop-module-test.true c.module-item.is
    c.as_str.ensures c.in_ok-add_name.ensures c.loop-module.invariant

pub returns : goal.returns
returns g c =
    all_modules (texts c.args.names.now.items) (texts c.loop-module.names.items)
    c.args.modules.now c.loop-module.module-index c.loop-module-test.false
    c.loop-module.invariant
