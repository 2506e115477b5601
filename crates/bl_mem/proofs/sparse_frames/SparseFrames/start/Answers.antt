use Rattle.std.proofs.Common.{◌≡◌, Some, sym, subst, get_or, ◌/◌, arith}
use Rattle.bl_mem.specs.declared.frame_state.FrameState.TheVariants.{Bare}
use Rattle.bl_mem.specs.SparseFrames.{SparseFramesFacts, frame_numbered}
use Rattle.bl_mem.specs.FrameState.{slot_read}
use Rattle.bl_mem.proofs.PairLemmas.{reads_inside}
use Rattle.bl_mem.proofs.sparse_frames.SparseFrames.start.Goals as goal

pub returns-clause-inside : goal.returns-clause-inside
returns-clause-inside g c =
    let reads : slot_read (get_or c.self.inside.table.items (c.args.at / 4096) Bare)
    ≡ Some c.args.slot =
    subst
    (λ (facts : SparseFramesFacts). slot_read (frame_numbered facts (c.args.at / 4096))
    ≡ Some c.args.slot)
    (sym c.self.view_is) c.requires in
    let fits =
    reads_inside c.self.inside.table.items _ _ _ (c.args.at / 4096) c.args.slot c.self.invariant
    reads in
    rw (← c.self.view_is) (omega (arith, fits))
