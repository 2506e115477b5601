use Rattle.std.proofs.Common.{◌≡◌, ◌∙◌, ◌*◌, ◌/◌, arith, inl, inr, true, subst, sym}
use Rattle.std.proofs.lemmas.Bool.{cases_lt}
use Rattle.bl_mem.specs.FrameState.{has_room}
use Rattle.bl_mem.specs.SparseFrames.{frame_numbered}
use Rattle.bl_mem.proofs.sparse_frames.SparseFrames.hold.Goals as goal

pub loop-at-preserved : goal.loop-at-preserved
loop-at-preserved g c =
    let before = c.loop-at.invariant in
    let next = c.in_ok-at.ensures in
    record {
      from = omega (arith, before.from, next.made.more);
      within = next.made.within;
      size = omega (arith, before.size, next.size);
      same = λ a. next.kept.same a ∙ before.same a;
      kept = λ a had. next.kept.kept a (before.kept a had);
      made = λ n low high. elim (cases_lt n c.loop-at.at) [
        | inl below ↦
            let number : (4096 * n) / 4096 ≡ n = omega arith in
            subst (λ m. has_room (frame_numbered c.hold_next.new.self m) ≡ true) number
            (next.kept.kept (4096 * n)
            (subst (λ m. has_room (frame_numbered c.loop-at.self m) ≡ true) (sym number)
            (before.made n low below)))
        | inr above ↦ next.made.made n above high
      ];
    }
