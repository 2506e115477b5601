-- Where the kernel is entered.
use Rattle.std.proofs.Common.{◌≡◌, ◌<◌, ◌≤◌, ◌+◌, ◌^◌, ℕ, suc, Bool, true, false, List, []}
use Rattle.std.proofs.Common.{◌∷◌, ◌++◌}
use Rattle.std.proofs.Common.{Option, Some, None, arith, refl, sym, ap, subst, All, nat_eq}
use Rattle.std.specs.Prelude.{◌||◌, ◌&&◌}
use Rattle.std.specs.List.{list_any}
use Rattle.std.proofs.lemmas.List.Elements.{All-nil, All-cons, All-head, All-tail}
use Rattle.std.specs.declared.ops.Range.{Range}
use Rattle.bl_mem.specs.declared.segment.Segment.{Segment}
use Rattle.bl_mem.specs.SegmentContents.{segment_holds, is_in_segment}
use Rattle.bl_map.specs.MachineFacts.{MachineFacts}
use Rattle.bl_mb2head.specs.declared.relocation.Relocation.{Relocation}
use Rattle.bl_plan.specs.PlannerFacts.{put_in}
use Rattle.std.proofs.lemmas.Bool.{cond_both}
use Rattle.bl_plan.specs.Placed.{ArePlaced, row_place, place_range}
use Rattle.bl_plan.specs.declared.part.Row.{Row}
use Rattle.bl_plan.specs.declared.part.Place.{Place}
use Rattle.bl_plan.specs.declared.part.Role.TheVariants.{Kernel}
use Rattle.bl_plan.specs.declared.part.Role.{Role}
use Rattle.bl_plan.specs.RoleNumbers.{role_number}
use Rattle.bl_load.specs.EntryValue.{EntryValue}
use Rattle.bl_load.specs.KernelReading.{multiboot2}
use Rattle.bl_load.specs.Multiboot2Kernel.{Multiboot2KernelFacts, IsMultiboot2Kernel}
use Rattle.bl_load.specs.Multiboot2Kernel.{entry_point_fault, effective_entry_point}
use Rattle.bl_load.specs.internal.ReadMultiboot2Kernels.{AreLoadable}
use Rattle.bl_load.specs.KernelBlock.{low_of, high_of, span_of}
use Rattle.bl_load.specs.Rows.{segment_rows, block_choice, kernel_rows, information_row, rows_of}
use Rattle.bl_load.specs.Rows.{module_rows}
use Rattle.bl_load.specs.Parts.{entered_at}
use Rattle.bl_load.specs.Addresses.{address_of}
use Rattle.bl_load.proofs.KernelLaws.{entry_held, held_within, high_below}
use Rattle.bl_load.proofs.SortedLemmas.{low_below, high_above_all}

-- an address that a segment holds lies within the bounds of all
held_between : (segments : List Segment) (a low high : ℕ) → All (λ s. low ≤ s.address) segments
    → All (λ s. s.address + s.memsz ≤ high) segments → list_any (is_in_segment a) segments ≡ true
    → (low ≤ a) × (a < high)
held_between [] a low high above below held = absurd cc
held_between (s ∷ segments) a low high above below held =
    elim (segment_holds s a) as (λ b. segment_holds s a ≡ b → (b || list_any (is_in_segment a) segments) ≡ true
    → (low ≤ a) × (a < high)) [
      | true ↦ λ e h.
          let w = held_within s a e in
          let first = above 0 s (omega arith) in
          let last = below 0 s (omega arith) in
          (omega (arith, w.0), omega (arith, w.1))
      | false ↦
          λ e h.
          held_between segments a low high
          (All-tail (λ (t : Segment). low ≤ t.address) s segments above)
          (All-tail (λ (t : Segment). t.address + t.memsz ≤ high) s segments below) h
    ] refl held

-- the entry of a kernel lies within the bounds of its segments
pub entry_within : {screen : Bool} (file : List ℕ) (kernel : Multiboot2KernelFacts)
    → IsMultiboot2Kernel screen file kernel
    → (low_of kernel.segments ≤ kernel.entry) × (kernel.entry < high_of kernel.segments)
entry_within file kernel is =
    let sound : entry_point_fault kernel.segments (Some kernel.entry) ≡ None =
    subst (λ (e : Option ℕ). entry_point_fault kernel.segments e ≡ None) is.entry
    (subst (λ (ss : List Segment). entry_point_fault ss (effective_entry_point is.header is.facts) ≡ None)
    (sym is.segments) is.sound) in
    held_between kernel.segments kernel.entry (low_of kernel.segments) (high_of kernel.segments)
    (low_below kernel.segments) (high_above_all kernel.segments)
    (entry_held kernel.segments kernel.entry sound)

-- segments at their own addresses end no higher than their places
segments_below : (facts : MachineFacts) (taken : List (Range ℕ)) (k n : ℕ) (segments : List Segment)
    (rest : List Row) (places : List Place)
    → ArePlaced facts taken (segment_rows k segments ++ rest) places
    → All (λ p. p.address + p.length ≤ n) places
    → All (λ s. s.address + s.memsz ≤ n) segments
segments_below facts taken k n [] rest places placed below =
    All-nil (λ (s : Segment). s.address + s.memsz ≤ n)
segments_below facts taken k n (s ∷ segments) rest [] placed below = absurd placed
segments_below facts taken k n (s ∷ segments) rest (p ∷ places) placed below =
    let here = All-head (λ (q : Place). q.address + q.length ≤ n) p places below in
    let at : p.address ≡ s.address = placed.0.0 in
    let size : p.length ≡ s.memsz = ap (λ (q : Place). q.length) placed.1 in
    All-cons (λ (t : Segment). t.address + t.memsz ≤ n) s segments (omega arith)
    (segments_below facts (put_in (place_range p) taken) (suc k) n segments rest places placed.2
    (All-tail (λ (q : Place). q.address + q.length ≤ n) p places below))

abbrev EndsUpTo : ℕ → Place → Type 0
EndsUpTo n p = p.address + p.length ≤ n

-- each stands no higher than any part may end
pub small_address : (role : Role) (i : ℕ) (places : List Place) (n : ℕ) → All (EndsUpTo n) places
    → address_of role i places ≤ n
small_address role i [] n h = omega arith
small_address role i (p ∷ places) n h =
    let first = All-head (EndsUpTo n) p places h in
    cond_both (nat_eq (role_number p.role) (role_number role) && nat_eq p.index i) p.address
    (address_of role i places) (λ a. a ≤ n) (λ _. omega arith)
    (λ _. small_address role i places n (All-tail (EndsUpTo n) p places h))

-- the block is the kernel's only part
block_address : (r : Relocation) (segments : List Segment) (p : Place) (places : List Place)
    → p
    ≡ row_place
    (record {
      role = Kernel;
      index = 0;
      length = span_of segments;
      choice = block_choice r (low_of segments);
    }) p.address
    → address_of Kernel 0 (p ∷ places) ≡ p.address
block_address r segments p places is = ap (λ (q : Place). address_of Kernel 0 (q ∷ places)) is

entry_small_by : (facts : MachineFacts) (file : List ℕ) (value : EntryValue)
    (segments : List Segment) (relocation : Option Relocation) (entry : ℕ) (places : List Place)
    → AreLoadable file segments → low_of segments ≤ entry → entry < high_of segments
    → ArePlaced facts []
    (kernel_rows segments relocation
    ++ (module_rows value.files 0 value.module_lines
    ++ information_row facts value relocation ∷ [])) places
    → All (λ p. p.address + p.length ≤ 0xFFFFF000) places
    → (entry + address_of Kernel 0 places < 2 ^ 64)
    × (entered_at entry segments relocation (address_of Kernel 0 places) < 2 ^ 32)
entry_small_by facts file value segments None entry places loadable above under placed below =
    let high =
    high_below segments 0xFFFFF000
    (segments_below facts [] 0 0xFFFFF000 segments
    (module_rows value.files 0 value.module_lines ++ information_row facts value None
    ∷ []) places placed below) in
    let base = small_address Kernel 0 places 0xFFFFF000 below in
    (omega arith, omega arith)
entry_small_by facts file value segments (Some r) entry [] loadable above under placed below =
    absurd placed
entry_small_by facts file value segments (Some r) entry (p ∷ places) loadable above under placed
    below =
    let here = All-head (λ (q : Place). q.address + q.length ≤ 0xFFFFF000) p places below in
    let size : p.length ≡ span_of segments = ap (λ (q : Place). q.length) placed.1 in
    let at : address_of Kernel 0 (p ∷ places) ≡ p.address =
    block_address r segments p places placed.1 in
    let first =
    low_below segments 0 (record { offset = 0; address = 0; filesz = 0; memsz = 0 })
    loadable.some in
    let small =
    loadable.low 0 (record { offset = 0; address = 0; filesz = 0; memsz = 0 }) loadable.some in
    (omega arith, omega arith)

-- the entry lies in the block, and its sums stay small
pub entry_small : {screen : Bool} (file : List ℕ) (facts : MachineFacts) (value : EntryValue)
    (kernel : Multiboot2KernelFacts)
    (places : List Place) → IsMultiboot2Kernel screen file kernel → AreLoadable file kernel.segments
    → ArePlaced facts [] (rows_of facts value (multiboot2 kernel)) places
    → All (λ p. p.address + p.length ≤ 0xFFFFF000) places
    → (low_of kernel.segments ≤ kernel.entry) × (kernel.entry + address_of Kernel 0 places < 2 ^ 64)
    × (entered_at kernel.entry kernel.segments kernel.relocation (address_of Kernel 0 places)
    < 2 ^ 32)
entry_small file facts value kernel places is loadable placed below =
    let within = entry_within file kernel is in
    let small =
    entry_small_by facts file value kernel.segments kernel.relocation kernel.entry places
    loadable within.0 within.1 placed below in
    (within.0, small.0, small.1)
