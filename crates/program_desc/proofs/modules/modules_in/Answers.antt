use Rattle.std.proofs.Common.{◌∙◌, map}
use Rattle.std.proofs.lemmas.Result.{err_from_is_err_and}
use Rattle.program_desc.specs.TomlValues.{in_table}
use Rattle.program_desc.specs.Entries.{module_in}
use Rattle.program_desc.specs.Views.{module_view}
use Rattle.program_desc.proofs.ItemLemmas.{front_none, one_more, all_read, one_fails}
use Rattle.program_desc.proofs.modules.modules_in.Goals as goal

pub loop-i-init : goal.loop-i-init
loop-i-init g c = rw c.new-modules.ensures.items (front_none _)

pub loop-i-preserved : goal.loop-i-preserved
loop-i-preserved g c =
    let one =
    one_more module_view (in_table module_in) c.args.items.now c.loop-i.i c.index-items-i.result
    c.loop-i.modules.items c.push.new.self.items c.in_ok-module.module
    c.loop-i-test.true c.index-items-i.is c.in_ok-module.ensures c.in_ok-push.ensures.items in
    one ∙ c.loop-i.invariant

pub returns : goal.returns
returns g c =
    all_read (in_table module_in) c.args.items.now c.loop-i.i
    (map module_view c.loop-i.modules.items) c.loop-i-test.false c.loop-i.invariant

pub returns-in_err-module : goal.returns-in_err-module
returns-in_err-module g c =
    let p = err_from_is_err_and c.from_residual.result c.from_residual.ensures.1 in
    rw (p.1, p.2)
    (one_fails _ (in_table module_in) c.args.items.now c.loop-i.i c.index-items-i.result
    (map module_view c.loop-i.modules.items) _ c.loop-i-test.true c.index-items-i.is
    c.in_err-module.ensures c.loop-i.invariant)

pub returns-in_err-push : goal.returns-in_err-push
returns-in_err-push g c =
    let p =
    err_from_is_err_and c.from_residual-in_err-push.result c.from_residual-in_err-push.ensures.1 in
    rw (p.1, p.2) tt
