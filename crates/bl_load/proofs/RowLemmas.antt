-- What the rows of an entry have.
use Rattle.std.proofs.Common.{◌++◌, ◌≡◌, ◌<◌, ◌≤◌, ℕ, suc, List, [], ◌∷◌, length, Option, Some}
use Rattle.std.proofs.Common.{None, arith, refl, ap, All, nat_eq, length-append}
use Rattle.std.proofs.lemmas.List.Elements.{All-nil, All-cons, All-head, All-tail, All-append}
use Rattle.std.proofs.lemmas.Bool.{cond_both}
use Rattle.std.proofs.lemmas.Bool.Decides.{nat_tests}
use Rattle.std.specs.declared.ops.Range.{Range}
use Rattle.bl_mem.specs.declared.segment.Segment.{Segment}
use Rattle.bl_map.specs.MachineFacts.{MachineFacts}
use Rattle.bl_mb2head.specs.declared.relocation.Relocation.{Relocation}
use Rattle.bl_mbi.specs.InfoToWriteFacts.{InfoToWriteFacts, info_size}
use Rattle.bl_plan.specs.Placed.{ArePlaced, HasPositiveAlignment, IsWellFormedRow}
use Rattle.bl_plan.specs.declared.part.Choice.TheVariants.{Fixed, Lowest, Highest, Preferred}
use Rattle.bl_plan.specs.declared.part.Place.{Place}
use Rattle.bl_plan.specs.declared.part.Role.TheVariants.{Kernel}
use Rattle.bl_plan.proofs.PlaceLaws.{as_many}
use Rattle.std.specs.Prelude.{min, max}
use Rattle.bl_plan.specs.declared.part.Row.{Row}
use Rattle.bl_load.specs.EntryValue.{EntryValue, module_file}
use Rattle.bl_load.specs.internal.Placing.{length_cap, capped_module_rows, capped_multiboot2_rows}
use Rattle.bl_load.specs.KernelReading.{multiboot2}
use Rattle.bl_load.specs.Multiboot2Kernel.{Multiboot2KernelFacts}
use Rattle.bl_load.specs.internal.ReadMultiboot2Kernels.{AreLoadable}
use Rattle.bl_load.specs.KernelBlock.{low_of, high_of, span_of}
use Rattle.bl_map.specs.PoolFrames.{round_up_to_frames}
use Rattle.bl_load.specs.Rows.{segment_rows, align_of, block_choice, kernel_rows, information_of}
use Rattle.bl_load.specs.Rows.{information_row, rows_of, module_rows}
use Rattle.bl_load.proofs.SortedLemmas.{low_below, high_above_all}

-- ---- each row has some bytes and a choice

segment_rows_are : (k : ℕ) (segments : List Segment) → All (λ s. 1 ≤ s.memsz) segments
    → All IsWellFormedRow (segment_rows k segments)
segment_rows_are k [] filled = All-nil IsWellFormedRow
segment_rows_are k (s ∷ segments) filled =
    All-cons IsWellFormedRow (record { role = Kernel; index = k; length = s.memsz; choice = Fixed s.address })
    (segment_rows (suc k) segments)
    (record { filled = All-head (λ (t : Segment). 1 ≤ t.memsz) s segments filled; choice = tt })
    (segment_rows_are (suc k) segments (All-tail (λ (t : Segment). 1 ≤ t.memsz) s segments filled))

-- segments that take memory span some
pub some_span : (segments : List Segment) → 1 ≤ length segments → All (λ s. 1 ≤ s.memsz) segments
    → low_of segments < high_of segments
some_span [] some filled = absurd (omega arith)
some_span (s ∷ segments) some filled =
    let here = All-head (λ (t : Segment). 1 ≤ t.memsz) s segments filled in
    let low = low_below (s ∷ segments) 0 s (omega arith) in
    let high = high_above_all (s ∷ segments) 0 s (omega arith) in
    omega arith

some_align : (r : Relocation) → 1 ≤ align_of r
some_align r =
    cond_both (nat_eq r.align 0) 1 r.align (λ n. 1 ≤ n) (λ _. omega arith)
    (λ e. grind (arith, nat_tests))

block_choice_is : (r : Relocation) (linked : ℕ) → HasPositiveAlignment (block_choice r linked)
block_choice_is r linked =
    let some = some_align r in
    cond_both (nat_eq r.preference 1) (Lowest (align_of r) r.min_addr r.max_addr) _
    HasPositiveAlignment
    (λ _. some)
    (λ _.
    cond_both (nat_eq r.preference 2) (Highest (align_of r) r.min_addr r.max_addr)
    (Preferred linked (align_of r) r.min_addr r.max_addr) HasPositiveAlignment (λ _. some)
    (λ _. some))

pub some_frames : (n : ℕ) → 1 ≤ n → n ≤ round_up_to_frames n
some_frames n some = omega arith

some_info : (info : InfoToWriteFacts) → 1 ≤ info_size info
some_info info = omega arith

kernel_rows_are : (segments : List Segment) (relocation : Option Relocation) → 1 ≤ length segments
    → All (λ s. 1 ≤ s.memsz) segments → All IsWellFormedRow (kernel_rows segments relocation)
kernel_rows_are segments None some filled = segment_rows_are 0 segments filled
kernel_rows_are segments (Some r) some filled =
    let span = some_span segments some filled in
    All-cons IsWellFormedRow
    (record {
      role = Kernel;
      index = 0;
      length = span_of segments;
      choice = block_choice r (low_of segments);
    }) []
    (record { filled = omega arith; choice = block_choice_is r (low_of segments) }) (All-nil IsWellFormedRow)

information_row_is : (facts : MachineFacts) (value : EntryValue) (relocation : Option Relocation)
    → IsWellFormedRow (information_row facts value relocation)
information_row_is facts value relocation =
    let size = some_info (information_of facts value relocation []) in
    let frames = some_frames (info_size (information_of facts value relocation [])) size in
    record { filled = omega arith; choice = omega arith }

module_rows_are : (files : List (List ℕ)) (k : ℕ) (lines : List (List ℕ))
    → All IsWellFormedRow (module_rows files k lines)
module_rows_are files k [] = All-nil IsWellFormedRow
module_rows_are files k (line ∷ lines) =
    let frames = some_frames (max (length (module_file files k)) 1) (omega arith) in
    All-cons IsWellFormedRow _ (module_rows files (suc k) lines)
    (record { filled = omega arith; choice = omega arith })
    (module_rows_are files (suc k) lines)

told_rows_are : (files : List (List ℕ)) (k : ℕ) (lines : List (List ℕ))
    → All IsWellFormedRow (capped_module_rows files k lines)
told_rows_are files k [] = All-nil IsWellFormedRow
told_rows_are files k (line ∷ lines) =
    let frames =
    some_frames (max (min (length (module_file files k)) length_cap) 1) (omega arith) in
    All-cons IsWellFormedRow _ (capped_module_rows files (suc k) lines)
    (record { filled = omega arith; choice = omega arith }) (told_rows_are files (suc k) lines)

-- modules and the information
behind_kernel : (facts : MachineFacts) (value : EntryValue) (relocation : Option Relocation)
    (rows : List Row) → All IsWellFormedRow rows
    → All IsWellFormedRow (rows ++ information_row facts value relocation ∷ [])
behind_kernel facts value relocation rows are =
    All-append IsWellFormedRow rows (information_row facts value relocation ∷ []) are
    (All-cons IsWellFormedRow (information_row facts value relocation) []
    (information_row_is facts value relocation) (All-nil IsWellFormedRow))

-- the rows of a kernel whose segments take memory are rows of some bytes
pub kernel_rows_are_rows : (facts : MachineFacts) (value : EntryValue)
    (kernel : Multiboot2KernelFacts)
    → 1 ≤ length kernel.segments → All (λ s. 1 ≤ s.memsz) kernel.segments
    → All IsWellFormedRow (rows_of facts value (multiboot2 kernel))
kernel_rows_are_rows facts value kernel some filled =
    All-append IsWellFormedRow (kernel_rows kernel.segments kernel.relocation)
    (module_rows value.files 0 value.module_lines
    ++ information_row facts value kernel.relocation ∷ [])
    (kernel_rows_are kernel.segments kernel.relocation some filled)
    (behind_kernel facts value kernel.relocation (module_rows value.files 0 value.module_lines)
    (module_rows_are value.files 0 value.module_lines))

-- and so are the rows as the code tells them
pub told_rows_are_rows : (file : List ℕ) (facts : MachineFacts) (value : EntryValue)
    (kernel : Multiboot2KernelFacts) → AreLoadable file kernel.segments
    → All IsWellFormedRow (capped_multiboot2_rows facts value kernel)
told_rows_are_rows file facts value kernel loadable =
    All-append IsWellFormedRow (kernel_rows kernel.segments kernel.relocation)
    (capped_module_rows value.files 0 value.module_lines ++ information_row facts value kernel.relocation
    ∷ [])
    (kernel_rows_are kernel.segments kernel.relocation loadable.some loadable.filled)
    (behind_kernel facts value kernel.relocation (capped_module_rows value.files 0 value.module_lines)
    (told_rows_are value.files 0 value.module_lines))

pub rows_are_rows : (file : List ℕ) (facts : MachineFacts) (value : EntryValue)
    (kernel : Multiboot2KernelFacts) → AreLoadable file kernel.segments
    → All IsWellFormedRow (rows_of facts value (multiboot2 kernel))
rows_are_rows file facts value kernel loadable =
    kernel_rows_are_rows facts value kernel loadable.some loadable.filled

-- ---- how many they are

pub length-segment_rows : (k : ℕ) (segments : List Segment)
    → length (segment_rows k segments) ≡ length segments
length-segment_rows k [] = refl
length-segment_rows k (s ∷ segments) = ap (λ (n : ℕ). suc n) (length-segment_rows (suc k) segments)

few_kernel_rows : (segments : List Segment) (relocation : Option Relocation) → 1 ≤ length segments
    → length segments ≤ 128
    → (1 ≤ length (kernel_rows segments relocation))
    × (length (kernel_rows segments relocation) ≤ 128)
few_kernel_rows segments None some few =
    let e = length-segment_rows 0 segments in (omega arith, omega arith)
few_kernel_rows segments (Some r) some few = (omega arith, omega arith)

pub length-module_rows : (files : List (List ℕ)) (k : ℕ) (lines : List (List ℕ))
    → length (module_rows files k lines) ≡ length lines
length-module_rows files k [] = refl
length-module_rows files k (line ∷ lines) =
    ap (λ (n : ℕ). suc n) (length-module_rows files (suc k) lines)

-- there are at most 193 rows, and as many places
pub few_places : (facts : MachineFacts) (value : EntryValue) (kernel : Multiboot2KernelFacts)
    (taken : List (Range ℕ)) (places : List Place) → 1 ≤ length kernel.segments
    → length kernel.segments ≤ 128 → length value.module_lines ≤ 64
    → ArePlaced facts taken (rows_of facts value (multiboot2 kernel)) places → length places ≤ 193
few_places facts value kernel taken places some segments few placed =
    let e = few_kernel_rows kernel.segments kernel.relocation some segments in
    let m = length-module_rows value.files 0 value.module_lines in
    let behind =
    length-append (module_rows value.files 0 value.module_lines)
    (information_row facts value kernel.relocation ∷ []) in
    let sum =
    length-append (kernel_rows kernel.segments kernel.relocation)
    (module_rows value.files 0 value.module_lines
    ++ information_row facts value kernel.relocation ∷ []) in
    let same = as_many facts taken (rows_of facts value (multiboot2 kernel)) places placed in
    omega (arith, e.0, e.1, m, behind, sum, same, few)
