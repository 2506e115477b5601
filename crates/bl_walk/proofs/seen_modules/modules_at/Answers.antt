use Rattle.std.proofs.Common.{take, sym, arith, ◌<◌, length}
use Rattle.std.proofs.lemmas.List.{take_all, take_more}
use Rattle.bl_walk.proofs.ModuleLemmas.{one_more}
use Rattle.bl_walk.proofs.seen_modules.modules_at.Goals as goal

pub loop-told-preserved : goal.loop-told-preserved
loop-told-preserved g c =
    let told = c.told-item.result in
    let at = c.loop-told.told-index in
    let ms = c.args.modules.now in
    let lt : at < length ms = omega arith in
    let more = take_more ms at told lt in
    let item = sym c.told-item.is in
    rw (more, c.in_ok-push.ensures.items, item)
    (one_more c.args.image.now.parts (take at ms) c.loop-told.seen.items told
    c.in_ok-module_at.field-0 c.loop-told.invariant c.in_ok-module_at.ensures.ok)

pub module_at-requires-clause-forward : goal.module_at-requires-clause-forward
module_at-requires-clause-forward g c =
    let told = c.told-item.result in
    let lt : c.loop-told.told-index < length c.args.modules.now = omega arith in
    let is = rw (← c.told-item.is) at (c.requires.forward c.loop-told.told-index told lt) in
    is.forward

pub module_at-requires-clause-followed : goal.module_at-requires-clause-followed
module_at-requires-clause-followed g c =
    let told = c.told-item.result in
    let lt : c.loop-told.told-index < length c.args.modules.now = omega arith in
    rw (← c.told-item.is) at (c.requires.followed c.loop-told.told-index told lt)

pub returns : goal.returns
returns g c =
    let all = take_all c.loop-told.told-index c.args.modules.now c.loop-told-test.false in
    record { ok = rw all at c.loop-told.invariant; fault = tt }
