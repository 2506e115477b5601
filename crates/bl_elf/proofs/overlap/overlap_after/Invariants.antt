use Rattle.std.proofs.Common.{◌≡◌, ◌<◌, ℕ, false}
use Rattle.bl_elf.specs.ProgramHeaders.{segments_overlap_at}
use Rattle.bl_elf.proofs.overlap.overlap_after.Given as goal

-- no program header so far, after the i-th, shares a byte with it
abbrev pub invariant-loop-j : goal.invariant-loop-j
invariant-loop-j g l =
    (k : ℕ) → l.i < k → k < l.j → segments_overlap_at (g.V.ByteView.bytes l.view) l.i k ≡ false
