use Rattle.std.proofs.Common.{◌+◌, ◌≤◌, ◌≡◌, length, rules, refl}
use Rattle.bl_mem.proofs.FrameLemmas.{lent}
use Rattle.bl_mem.proofs.sparse_frames.SparseFrames.lend.Goals as goal

pub returns-then-are_together : goal.returns-then-are_together
returns-then-are_together g c =
    let kept : c.deref.result.now ≡ c.args.self.now.kept = search rules in
    let within : c.start-start.result + c.args.count ≤ length c.args.self.now.kept =
    let len = c.start-start.ensures.inside in search rules in
    rw kept
    (lent c.args.self.now c.args.at c.in-Some.slot c.args.count c.start-start.result
    (c.if-are_together.ensures refl) c.start-start.ensures.exact within)
