-- The block that a relocatable kernel's part is loaded from.
use Rattle.std.proofs.Common.{◌≡◌, ◌<◌, ◌≤◌, ◌+◌, ◌^◌, ℕ, List, length, get_or, Option, Some, arith}
use Rattle.std.proofs.Common.{sym, ap, subst, ◌∙◌, All, AllPairs}
use Rattle.bl_mem.specs.declared.segment.Segment.{Segment}
use Rattle.bl_mb2head.specs.declared.relocation.Relocation.{Relocation}
use Rattle.bl_load.specs.KernelBlock.{low_of, high_of, span_of, block_of}
use Rattle.bl_load.specs.internal.ReadMultiboot2Kernels.{AreLoadable}
use Rattle.bl_plan.specs.AddressOrder.{segment_key, segments_in_order}
use Rattle.bl_load.specs.Parts.{kernel_content}
use Rattle.bl_load.specs.Loadable.{IsCopyable, SegmentsAscend}
use Rattle.bl_load.specs.internal.Placing.{HasKernelLength}
use Rattle.bl_plan.proofs.OrderLemmas.{in_order_all}
use Rattle.bl_plan.proofs.OrderCountLemmas.{length-in_order}
use Rattle.bl_load.proofs.SpanLemmas.{same_span}
use Rattle.bl_load.proofs.SortedLemmas.{same_block, ascending_ascends, low_below, high_above_all}

-- the content is the kernel's
pub block_content : (file : List ℕ) (segments items : List Segment) (r : Relocation)
    (relocation : Option Relocation) (i : ℕ)
    → AreLoadable file segments → items ≡ segments_in_order segments → relocation ≡ Some r
    → block_of file items ≡ kernel_content file segments relocation i
block_content file segments items r relocation i h items_are is =
    ap (block_of file) items_are ∙ same_block file segments h.some h.apart
    ∙ sym (ap (λ (o : Option Relocation). kernel_content file segments o i) is)

length_as_span : (segments : List Segment) (relocation : Option Relocation) (r : Relocation)
    (i count : ℕ) → relocation ≡ Some r → HasKernelLength segments relocation i count
    → count ≡ span_of segments
length_as_span segments relocation r i count is h =
    subst (λ (o : Option Relocation). HasKernelLength segments o i count) is h

-- each of its segments can be copied
all_copied : (file : List ℕ) (segments : List Segment) → AreLoadable file segments
    → span_of segments ≤ 2 ^ 32 → All (IsCopyable (length file)) segments
all_copied file segments h small k d within =
    let s = get_or segments k d in
    let above : s.address + s.memsz ≤ high_of segments = high_above_all segments k d within in
    let below : low_of segments ≤ s.address = low_below segments k d within in
    let low : s.address < 2 ^ 32 = h.low k d within in
    record {
      filled = h.filled k d within;
      fits = h.fits k d within;
      inside = λ some. h.in_file k d within some;
      low = omega arith;
    }

pub block_copied : (file : List ℕ) (segments items : List Segment) (relocation : Option Relocation)
    (r : Relocation) (i count : ℕ) → AreLoadable file segments → items ≡ segments_in_order segments
    → relocation ≡ Some r
    → HasKernelLength segments relocation i count → count ≤ 2 ^ 32
    → All (IsCopyable (length file)) items
block_copied file segments items relocation r i count h items_are is long small =
    let span = length_as_span segments relocation r i count is long in
    subst (λ (ss : List Segment). All (IsCopyable (length file)) ss) (sym items_are)
    (in_order_all segment_key (IsCopyable (length file)) segments
    (all_copied file segments h (omega arith)))

pub block_ascends : (file : List ℕ) (segments items : List Segment) → AreLoadable file segments
    → items ≡ segments_in_order segments → AllPairs SegmentsAscend items
block_ascends file segments items h items_are =
    subst (λ (ss : List Segment). AllPairs SegmentsAscend ss) (sym items_are)
    (ascending_ascends segments h.filled h.apart)

pub block_some : (file : List ℕ) (segments items : List Segment) → AreLoadable file segments
    → items ≡ segments_in_order segments → 1 ≤ length items
block_some file segments items h items_are =
    let e = ap (λ (ss : List Segment). length ss) items_are in
    let f = length-in_order segment_key segments in let some = h.some in omega arith

pub block_short : (file : List ℕ) (segments items : List Segment) (relocation : Option Relocation)
    (r : Relocation) (i count : ℕ) → AreLoadable file segments → items ≡ segments_in_order segments
    → relocation ≡ Some r
    → HasKernelLength segments relocation i count → span_of items ≤ count
block_short file segments items relocation r i count h items_are is long =
    let span = length_as_span segments relocation r i count is long in
    let e = ap span_of items_are in
    let f = same_span segments h.some in omega arith
