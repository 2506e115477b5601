-- The parts of a kernel don't overlap one another.
use Rattle.std.proofs.Common.{◌≡◌, ◌+◌, ℕ, suc, List, [], ◌∷◌, ◌++◌, get_or, Option, Some, None}
use Rattle.std.proofs.Common.{arith, refl, subst, All, AllPairs, inl, inr, nat_eq}
use Rattle.std.proofs.lemmas.List.Elements.{All-nil, All-head, All-tail}
use Rattle.std.proofs.lemmas.Bool.{cond_both}
use Rattle.std.specs.declared.ops.Range.{Range}
use Rattle.bl_mem.specs.declared.segment.Segment.{Segment}
use Rattle.bl_mem.specs.Memory.{IsIn}
use Rattle.bl_map.specs.MachineFacts.{MachineFacts}
use Rattle.bl_elf.specs.Elf.{AreApartSegments}
use Rattle.bl_mb2head.specs.declared.relocation.Relocation.{Relocation}
use Rattle.bl_plan.specs.Permitted.{AreUntaken}
use Rattle.bl_plan.specs.PlannerFacts.{put_in}
use Rattle.bl_plan.specs.Placed.{IsFirstPlaceFault, HasChoiceFault, row_place, place_range}
use Rattle.bl_plan.specs.declared.part.Choice.TheVariants.{Fixed, Lowest, Highest, Preferred}
use Rattle.bl_plan.specs.declared.fault.PlanFault.TheVariants.{Overlap}
use Rattle.bl_plan.specs.declared.part.Row.{Row}
use Rattle.bl_plan.specs.declared.part.Role.TheVariants.{Kernel}
use Rattle.bl_plan.proofs.PutLemmas.{All-put_in}
use Rattle.bl_load.specs.EntryValue.{EntryValue}
use Rattle.bl_load.specs.KernelReading.{multiboot2}
use Rattle.bl_load.specs.Multiboot2Kernel.{Multiboot2KernelFacts}
use Rattle.bl_load.specs.KernelBlock.{low_of, span_of}
use Rattle.bl_load.specs.Rows.{segment_rows, align_of, block_choice, kernel_rows, information_row}
use Rattle.bl_load.specs.Rows.{rows_of, module_rows}
use Rattle.bl_plan.proofs.OrderLemmas.{AreRelated, pairs_related}

-- no address of a segment is taken
abbrev IsFreeSegment : List (Range ℕ) → Segment → Type 0
IsFreeSegment taken s = AreUntaken taken s.address (s.address + s.memsz)

-- where a segment was placed, those apart from it stay free
stays_free : (taken : List (Range ℕ)) (s t : Segment) (row : Row) → row.length ≡ s.memsz
    → AreApartSegments s t → IsFreeSegment taken t
    → IsFreeSegment (put_in (place_range (row_place row s.address)) taken) t
stays_free taken s t row size apart free = λ a low high.
    All-put_in (λ r. ¬ IsIn r a) (place_range (row_place row s.address)) taken
    (λ here. apart a (omega (arith, here.0), omega (arith, here.1)) (low, high))
    (free a low high)

-- segments that are apart and free have no overlap before what is placed after them
segments_no_overlap : (facts : MachineFacts) (taken : List (Range ℕ)) (k : ℕ)
    (segments : List Segment) (rest : List Row) → All (IsFreeSegment taken) segments
    → AreRelated AreApartSegments segments
    → ((more : List (Range ℕ)) → IsFirstPlaceFault facts more rest Overlap → ⊥)
    → IsFirstPlaceFault facts taken (segment_rows k segments ++ rest) Overlap → ⊥
segments_no_overlap facts taken k [] rest free apart none h = none taken h
segments_no_overlap facts taken k (s ∷ segments) rest free apart none (inl here) =
    here.2 (All-head (IsFreeSegment taken) s segments free)
segments_no_overlap facts taken k (s ∷ segments) rest free apart none (inr later) =
    let row : Row =
    record { role = Kernel; index = k; length = s.memsz; choice = Fixed s.address } in
    segments_no_overlap facts (put_in (place_range (row_place row s.address)) taken) (suc k)
    segments
    rest
    (λ i d within.
    stays_free taken s (get_or segments i d) row refl (apart.0 i d within)
    (All-tail (IsFreeSegment taken) s segments free i d within))
    apart.1 none
    (subst
    (λ (a : ℕ).
    IsFirstPlaceFault facts (put_in (place_range (row_place row a)) taken)
    (segment_rows (suc k) segments ++ rest) Overlap) later.1.0 later.2)

information_no_overlap : (facts : MachineFacts) (value : EntryValue)
    (relocation : Option Relocation) (taken : List (Range ℕ))
    → IsFirstPlaceFault facts taken (information_row facts value relocation ∷ []) Overlap → ⊥
information_no_overlap facts value relocation taken (inl here) = here
information_no_overlap facts value relocation taken (inr later) = later.2

-- what is placed at the lowest address overlaps nothing
tail_no_overlap : (facts : MachineFacts) (value : EntryValue) (relocation : Option Relocation)
    (k : ℕ) (lines : List (List ℕ)) (taken : List (Range ℕ))
    → IsFirstPlaceFault facts taken
    (module_rows value.files k lines ++ information_row facts value relocation ∷ []) Overlap → ⊥
tail_no_overlap facts value relocation k [] taken h =
    information_no_overlap facts value relocation taken h
tail_no_overlap facts value relocation k (line ∷ lines) taken (inl here) = here
tail_no_overlap facts value relocation k (line ∷ lines) taken (inr later) =
    tail_no_overlap facts value relocation (suc k) lines _ later.2

block_no_overlap : (facts : MachineFacts) (taken : List (Range ℕ)) (count : ℕ) (r : Relocation)
    (linked : ℕ) → HasChoiceFault facts taken count (block_choice r linked) Overlap → ⊥
block_no_overlap facts taken count r linked =
    cond_both (nat_eq r.preference 1) (Lowest (align_of r) r.min_addr r.max_addr)
    _ (λ choice. HasChoiceFault facts taken count choice Overlap → ⊥) (λ _ h. h)
    (λ _.
    cond_both (nat_eq r.preference 2) (Highest (align_of r) r.min_addr r.max_addr)
    (Preferred linked (align_of r) r.min_addr r.max_addr)
    (λ choice. HasChoiceFault facts taken count choice Overlap → ⊥) (λ _ h. h) (λ _ h. h))

rows_no_overlap : (facts : MachineFacts) (value : EntryValue) (segments : List Segment)
    (relocation : Option Relocation) → AllPairs AreApartSegments segments
    → IsFirstPlaceFault facts []
    (kernel_rows segments relocation
    ++ (module_rows value.files 0 value.module_lines
    ++ information_row facts value relocation ∷ [])) Overlap → ⊥
rows_no_overlap facts value segments None apart h =
    segments_no_overlap facts [] 0 segments
    (module_rows value.files 0 value.module_lines ++ information_row facts value None ∷ [])
    (λ k d within a low high. All-nil (λ r. ¬ IsIn r a))
    (pairs_related AreApartSegments segments apart)
    (tail_no_overlap facts value None 0 value.module_lines) h
rows_no_overlap facts value segments (Some r) apart (inl here) =
    block_no_overlap facts [] (span_of segments) r (low_of segments) here
rows_no_overlap facts value segments (Some r) apart (inr later) =
    tail_no_overlap facts value (Some r) 0 value.module_lines _ later.2

-- so the first fault of a kernel whose segments share no byte is no overlap
pub no_overlap : (facts : MachineFacts) (value : EntryValue) (kernel : Multiboot2KernelFacts)
    → AllPairs AreApartSegments kernel.segments
    → IsFirstPlaceFault facts [] (rows_of facts value (multiboot2 kernel)) Overlap → ⊥
no_overlap facts value kernel apart h =
    rows_no_overlap facts value kernel.segments kernel.relocation apart h
