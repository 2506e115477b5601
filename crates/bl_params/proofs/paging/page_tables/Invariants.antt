use Rattle.std.proofs.Common.{◌≡◌, ◌<◌, ◌*◌, ℕ, length, slice_index}
use Rattle.bl_params.specs.Paging.{paging_frame}
use Rattle.bl_params.proofs.paging.page_tables.Given as goal

-- the words so far are written
abbrev pub invariant-loop-index : goal.invariant-loop-index
invariant-loop-index l = record {
  long : length l.out ≡ 4096;
  told : (k : ℕ) → k < 8 * l.index
      → slice_index l.out k ≡ slice_index (paging_frame l.base l.frame) k;
}
