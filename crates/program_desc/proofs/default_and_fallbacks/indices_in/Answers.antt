use Rattle.std.proofs.Common.{◌∙◌}
use Rattle.std.proofs.lemmas.Result.{err_from_is_err_and}
use Rattle.toml.specs.View.{items_view}
use Rattle.program_desc.specs.TomlValues.{each_item, toml_index}
use Rattle.program_desc.proofs.ItemLemmas.{front_none, one_read, all_read, one_fails}
use Rattle.program_desc.proofs.default_and_fallbacks.indices_in.Goals as goal

pub loop-i-init : goal.loop-i-init
loop-i-init g c = rw c.new-indices.ensures.items (front_none _)

pub loop-i-preserved : goal.loop-i-preserved
loop-i-preserved g c =
    let one =
    one_read (toml_index c.args.count) c.args.items.now c.loop-i.i c.index-items-i.result
    c.loop-i.indices.items c.push.new.self.items c.in_ok-index.index
    c.loop-i-test.true c.index-items-i.is c.in_ok-index.ensures c.in_ok-push.ensures.items in
    let all = each_item (toml_index c.args.count) (items_view c.args.items.now) in
    ◌∙◌ {c = all} one c.loop-i.invariant

pub returns : goal.returns
returns g c =
    all_read (toml_index c.args.count) c.args.items.now c.loop-i.i
    c.loop-i.indices.items c.loop-i-test.false c.loop-i.invariant

pub returns-in_err-index : goal.returns-in_err-index
returns-in_err-index g c =
    let p = err_from_is_err_and c.from_residual.result c.from_residual.ensures.1 in
    rw (p.1, p.2)
    (one_fails _ (toml_index c.args.count) c.args.items.now c.loop-i.i c.index-items-i.result
    c.loop-i.indices.items _ c.loop-i-test.true c.index-items-i.is
    c.in_err-index.ensures c.loop-i.invariant)

pub returns-in_err-push : goal.returns-in_err-push
returns-in_err-push g c =
    let p =
    err_from_is_err_and c.from_residual-in_err-push.result c.from_residual-in_err-push.ensures.1 in
    rw (p.1, p.2) tt
