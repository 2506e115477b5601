-- What the places of an entry's rows have.
use Rattle.std.proofs.Common.{◌++◌, ◌≡◌, ◌<◌, ◌≤◌, ◌+◌, ℕ, suc, List, [], ◌∷◌, length, get_or}
use Rattle.std.proofs.Common.{Option, Some, None, arith, refl, sym, ap, subst, ◌∙◌, All}
use Rattle.std.proofs.lemmas.List.{get_or_default}
use Rattle.std.proofs.lemmas.List.Elements.{All-nil, All-cons, All-head, All-tail, All-append}
use Rattle.std.specs.declared.ops.Range.{Range}
use Rattle.bl_mem.specs.declared.segment.Segment.{Segment}
use Rattle.bl_map.specs.MachineFacts.{MachineFacts}
use Rattle.bl_mb2head.specs.declared.relocation.Relocation.{Relocation}
use Rattle.bl_plan.specs.PlannerFacts.{put_in}
use Rattle.bl_plan.specs.Placed.{ArePlaced, row_place, place_range}
use Rattle.bl_plan.specs.declared.part.Choice.TheVariants.{Fixed}
use Rattle.bl_plan.specs.declared.part.Row.{Row}
use Rattle.bl_plan.specs.declared.part.Place.{Place}
use Rattle.bl_plan.specs.declared.part.Role.TheVariants.{Kernel}
use Rattle.bl_load.specs.EntryValue.{EntryValue}
use Rattle.bl_load.specs.KernelReading.{multiboot2}
use Rattle.bl_load.specs.Multiboot2Kernel.{Multiboot2KernelFacts}
use Rattle.bl_load.specs.KernelBlock.{low_of, span_of}
use Rattle.bl_load.specs.Rows.{segment_rows, block_choice, kernel_rows, information_row, rows_of}
use Rattle.bl_load.specs.Rows.{module_rows}
use Rattle.bl_load.specs.Parts.{no_segment}
use Rattle.bl_load.specs.internal.Placing.{HasKernelLength, HasRowLength}

-- ---- each place has what its row has

-- what holds of a row wherever it is placed
abbrev pub Anywhere : (Place → Type 0) → Row → Type 0
Anywhere P row = (a : ℕ) → P (row_place row a)

pub each_place : (facts : MachineFacts) (P : Place → Type 0) (taken : List (Range ℕ))
    (rows : List Row) (places : List Place) → All (Anywhere P) rows
    → ArePlaced facts taken rows places → All P places
each_place facts P taken [] [] each placed = All-nil P
each_place facts P taken [] (p ∷ places) each placed = absurd placed
each_place facts P taken (row ∷ rows) [] each placed = absurd placed
each_place facts P taken (row ∷ rows) (p ∷ places) each placed =
    All-cons P p places (subst P (sym placed.1) (All-head (Anywhere P) row rows each p.address))
    (each_place facts P (put_in (place_range p) taken) rows places
    (All-tail (Anywhere P) row rows each) placed.2)

-- these segments are those from the k-th on
abbrev AreFrom : List Segment → ℕ → List Segment → Type 0
AreFrom all k segments =
    (i : ℕ) (d : Segment) → i < length segments
    → (k + i < length all) × (get_or all (k + i) no_segment ≡ get_or segments i d)

segment_rows_rowed : (facts : MachineFacts) (value : EntryValue) (kernel : Multiboot2KernelFacts)
    (k : ℕ)
    (segments : List Segment) → kernel.relocation ≡ None → AreFrom kernel.segments k segments
    → All (Anywhere (HasRowLength facts value (multiboot2 kernel))) (segment_rows k segments)
segment_rows_rowed facts value kernel k [] fixed from =
    All-nil (Anywhere (HasRowLength facts value (multiboot2 kernel)))
segment_rows_rowed facts value kernel k (s ∷ segments) fixed from =
    let first = from 0 s (omega arith) in
    let same : k + 0 ≡ k = omega arith in
    let is : get_or kernel.segments k no_segment ≡ s =
    ap (λ (n : ℕ). get_or kernel.segments n no_segment) (sym same) ∙ first.1 in
    let size = ap (λ (t : Segment). t.memsz) is in
    let has : HasKernelLength kernel.segments None k s.memsz = (omega (arith, first.0), sym size) in
    All-cons (Anywhere (HasRowLength facts value (multiboot2 kernel)))
    (record { role = Kernel; index = k; length = s.memsz; choice = Fixed s.address })
    (segment_rows (suc k) segments)
    (λ a.
    subst (λ (r : Option Relocation). HasKernelLength kernel.segments r k s.memsz) (sym fixed)
    has)
    (segment_rows_rowed facts value kernel (suc k) segments fixed
    (λ i d within. let next = from (suc i) d (omega arith) in
    let on : k + suc i ≡ suc k + i = omega arith in
    (omega (arith, next.0), ap (λ (n : ℕ). get_or kernel.segments n no_segment) (sym on) ∙ next.1)))

kernel_rows_rowed : (facts : MachineFacts) (value : EntryValue) (kernel : Multiboot2KernelFacts)
    (relocation : Option Relocation) → kernel.relocation ≡ relocation
    → All (Anywhere (HasRowLength facts value (multiboot2 kernel)))
    (kernel_rows kernel.segments relocation)
kernel_rows_rowed facts value kernel None is =
    segment_rows_rowed facts value kernel 0 kernel.segments is
    (λ i d within. let same : 0 + i ≡ i = omega arith in (
      omega arith,
      ap (λ (n : ℕ). get_or kernel.segments n no_segment) same
          ∙ get_or_default kernel.segments i no_segment d within,
    ))
kernel_rows_rowed facts value kernel (Some r) is =
    All-cons (Anywhere (HasRowLength facts value (multiboot2 kernel)))
    (record {
      role = Kernel;
      index = 0;
      length = span_of kernel.segments;
      choice = block_choice r (low_of kernel.segments);
    }) []
    (λ a.
    subst
    (λ (o : Option Relocation).
    HasKernelLength kernel.segments o 0 (span_of kernel.segments)) (sym is) refl)
    (All-nil (Anywhere (HasRowLength facts value (multiboot2 kernel))))

module_rows_rowed : (facts : MachineFacts) (value : EntryValue) (kernel : Multiboot2KernelFacts)
    (k : ℕ)
    (lines : List (List ℕ)) → k + length lines ≤ length value.module_lines
    → All (Anywhere (HasRowLength facts value (multiboot2 kernel))) (module_rows value.files k lines)
module_rows_rowed facts value kernel k [] most =
    All-nil (Anywhere (HasRowLength facts value (multiboot2 kernel)))
module_rows_rowed facts value kernel k (line ∷ lines) most =
    All-cons (Anywhere (HasRowLength facts value (multiboot2 kernel)))
    _ (module_rows value.files (suc k) lines) (λ a. (omega (arith, most), refl))
    (module_rows_rowed facts value kernel (suc k) lines (omega (arith, most)))

rows_rowed : (facts : MachineFacts) (value : EntryValue) (kernel : Multiboot2KernelFacts)
    → All (Anywhere (HasRowLength facts value (multiboot2 kernel)))
    (rows_of facts value (multiboot2 kernel))
rows_rowed facts value kernel =
    All-append (Anywhere (HasRowLength facts value (multiboot2 kernel)))
    (kernel_rows kernel.segments kernel.relocation)
    (module_rows value.files 0 value.module_lines
    ++ information_row facts value kernel.relocation ∷ [])
    (kernel_rows_rowed facts value kernel kernel.relocation refl)
    (All-append (Anywhere (HasRowLength facts value (multiboot2 kernel)))
    (module_rows value.files 0 value.module_lines)
    (information_row facts value kernel.relocation ∷ [])
    (module_rows_rowed facts value kernel 0 value.module_lines (omega arith))
    (All-cons (Anywhere (HasRowLength facts value (multiboot2 kernel)))
    (information_row facts value kernel.relocation) [] (λ a. refl)
    (All-nil (Anywhere (HasRowLength facts value (multiboot2 kernel))))))

-- each place has the length that its role and its index ask for
pub each_rowed : (facts : MachineFacts) (value : EntryValue) (kernel : Multiboot2KernelFacts)
    (taken : List (Range ℕ)) (places : List Place)
    → ArePlaced facts taken (rows_of facts value (multiboot2 kernel)) places
    → All (HasRowLength facts value (multiboot2 kernel)) places
each_rowed facts value kernel taken places placed =
    each_place facts (HasRowLength facts value (multiboot2 kernel)) taken
    (rows_of facts value (multiboot2 kernel)) places (rows_rowed facts value kernel) placed
