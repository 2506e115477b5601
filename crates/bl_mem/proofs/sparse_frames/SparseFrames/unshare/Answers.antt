use Rattle.std.proofs.Common.{◌≡◌, sym, subst, inl, inr}
use Rattle.bl_mem.specs.declared.frame_state.FrameState.TheVariants.{Lent, Borrowed}
use Rattle.bl_mem.specs.SparseFrames.{SparseFramesFacts, frame_numbered}
use Rattle.bl_mem.specs.internal.FrameSlots.{ArePair}
use Rattle.bl_mem.proofs.sparse_frames.SparseFrames.unshare.Goals as goal

pub leave-requires : goal.leave-requires
leave-requires g c =
    let number = c.args.number in
    let slot = c.in-Lent.slot in
    let to = c.in-Lent.to in
    subst (λ (facts : SparseFramesFacts). ArePair facts number to slot) c.self.view_is
    (let here =
    subst (λ (facts : SparseFramesFacts). frame_numbered facts number ≡ Lent slot to)
    (sym c.self.view_is) (sym c.in-Lent.ensures) in
    inl (here, c.self.invariant.paired.lends number to slot here))

pub leave-requires-in-Borrowed : goal.leave-requires-in-Borrowed
leave-requires-in-Borrowed g c =
    let number = c.args.number in
    let slot = c.in-Borrowed.slot in
    let from = c.in-Borrowed.from in
    subst (λ (facts : SparseFramesFacts). ArePair facts number from slot) c.self.view_is
    (let here =
    subst (λ (facts : SparseFramesFacts). frame_numbered facts number ≡ Borrowed slot from)
    (sym c.self.view_is) (sym c.in-Borrowed.ensures) in
    inr (here, c.self.invariant.paired.borrows number from slot here))
