use Rattle.std.proofs.Common.{◌<◌, ℕ}
use Rattle.bl_elf.specs.Elf.{OverlapsNoLater}
use Rattle.bl_elf.proofs.overlap.check_overlaps.Given as goal

-- no program header so far shares a byte with a later one
abbrev pub invariant-loop-i : goal.invariant-loop-i
invariant-loop-i g l = (k : ℕ) → k < l.i → OverlapsNoLater (g.V.ByteView.bytes l.view) k
