use Rattle.std.proofs.Common.{◌+◌, ◌*◌, ◌<◌, ◌≤◌, length, subst, sym, arith}
use Rattle.std.proofs.lemmas.Grind.{common_steps}
use Rattle.std.proofs.lemmas.List.{get_or_read}
use Rattle.bl_stage.specs.Staged.{Staging}
use Rattle.bl_stage.proofs.stage.Stage.address_of.Goals as goal

pub returns-clause-is : goal.returns-clause-is
returns-clause-is g c = grind (arith, common_steps)

pub overflow_mul-result : goal.overflow_mul-result
overflow_mul-result g c =
    let frames = c.self.inside.frames.items in
    let held = c.self.invariant.held in
    let within : c.args.slot < length frames =
    subst (λ (s : Staging). c.args.slot < length s.frames) (sym c.self.view_is) c.requires in
    let read = get_or_read frames _ _ within c.index.ensures 0 in
    let high = held.high c.args.slot within in
    omega (arith, read, high, c.self.invariant.end, c.self.invariant.small)

pub returns-clause-low : goal.returns-clause-low
returns-clause-low g c =
    let frames = c.self.inside.frames.items in
    let held = c.self.invariant.held in
    let within : c.args.slot < length frames =
    subst (λ (s : Staging). c.args.slot < length s.frames) (sym c.self.view_is) c.requires in
    let read = get_or_read frames _ _ within c.index.ensures 0 in
    let low = held.low c.args.slot within in
    subst (λ (s : Staging). s.pool.start ≤ 4096 * c.index.result.now) c.self.view_is
    (omega (arith, read, low, c.self.invariant.start))

pub returns-clause-high : goal.returns-clause-high
returns-clause-high g c =
    let frames = c.self.inside.frames.items in
    let held = c.self.invariant.held in
    let within : c.args.slot < length frames =
    subst (λ (s : Staging). c.args.slot < length s.frames) (sym c.self.view_is) c.requires in
    let read = get_or_read frames _ _ within c.index.ensures 0 in
    let high = held.high c.args.slot within in
    subst (λ (s : Staging). 4096 * c.index.result.now + 4096 ≤ s.pool.end) c.self.view_is
    (omega (arith, read, high, c.self.invariant.end))
