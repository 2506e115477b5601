use Rattle.std.proofs.Common.{◌∙◌}
use Rattle.std.proofs.lemmas.Result.{err_from_is_err_and}
use Rattle.program_desc.specs.TomlValues.{in_table}
use Rattle.program_desc.specs.DescribedFirmware.{avoided_in}
use Rattle.program_desc.proofs.ItemLemmas.{front_none, one_read, all_read, one_fails}
use Rattle.program_desc.proofs.firmware.avoided.all_avoided_in.Goals as goal

pub loop-i-init : goal.loop-i-init
loop-i-init g c = rw c.new-avoided.ensures.items (front_none _)

pub loop-i-preserved : goal.loop-i-preserved
loop-i-preserved g c =
    let one =
    one_read (in_table avoided_in) c.args.items.now c.loop-i.i c.index-items-i.result
    c.loop-i.avoided.items c.push.new.self.items c.in_ok-range.range
    c.loop-i-test.true c.index-items-i.is c.in_ok-range.ensures c.in_ok-push.ensures.items in
    one ∙ c.loop-i.invariant

pub returns : goal.returns
returns g c =
    all_read (in_table avoided_in) c.args.items.now c.loop-i.i
    c.loop-i.avoided.items c.loop-i-test.false c.loop-i.invariant

pub returns-in_err-range : goal.returns-in_err-range
returns-in_err-range g c =
    let p = err_from_is_err_and c.from_residual.result c.from_residual.ensures.1 in
    rw (p.1, p.2)
    (one_fails _ (in_table avoided_in) c.args.items.now c.loop-i.i c.index-items-i.result
    c.loop-i.avoided.items _ c.loop-i-test.true c.index-items-i.is
    c.in_err-range.ensures c.loop-i.invariant)

pub returns-in_err-push : goal.returns-in_err-push
returns-in_err-push g c =
    let p =
    err_from_is_err_and c.from_residual-in_err-push.result c.from_residual-in_err-push.ensures.1 in
    rw (p.1, p.2) tt
