use Rattle.std.proofs.Common.{◌≡◌, ◌*◌, ◌/◌, subst, sym, true, arith}
use Rattle.bl_mem.specs.FrameState.{has_room}
use Rattle.bl_mem.specs.SparseFrames.{frame_numbered}
use Rattle.bl_mem.proofs.sparse_frames.SparseFrames.clear.Goals as goal

pub clear_alone-requires : goal.clear_alone-requires
clear_alone-requires g c =
    let number : (4096 * c.args.number) / 4096 ≡ c.args.number = omega arith in
    record {
      held =
          subst (λ n. has_room (frame_numbered c.unshare.new.self n) ≡ true) number
          (c.unshare.ensures.room (4096 * c.args.number)
          (subst (λ n. has_room (frame_numbered c.args.self.now n) ≡ true) (sym number)
          c.requires.held));
      alone = c.unshare.ensures.alone;
    }
