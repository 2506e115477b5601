-- A Multiboot2 kernel is entered in one of its places.
use Rattle.std.proofs.Common.{◌≡◌, ◌+◌, ◌-◌, ◌||◌, ◌++◌, ◌∷◌, ℕ, suc, Bool, true, false, List, []}
use Rattle.std.proofs.Common.{Option, Some, None, refl, sym, ap, arith, subst}
use Rattle.std.specs.List.{list_any}
use Rattle.std.proofs.Math.Bool.{or-true}
use Rattle.std.specs.declared.ops.Range.{Range}
use Rattle.bl_map.specs.MachineFacts.{MachineFacts}
use Rattle.bl_mem.specs.SegmentContents.{segment_holds, is_in_segment}
use Rattle.bl_mem.specs.declared.segment.Segment.{Segment}
use Rattle.bl_plan.specs.Placed.{ArePlaced, place_range}
use Rattle.bl_plan.specs.PlannerFacts.{put_in}
use Rattle.bl_plan.specs.declared.part.Place.{Place}
use Rattle.bl_plan.specs.declared.part.Role.TheVariants.{Kernel}
use Rattle.bl_plan.specs.declared.part.Row.{Row}
use Rattle.bl_load.specs.Addresses.{address_of}
use Rattle.bl_load.specs.KernelBlock.{low_of, span_of}
use Rattle.bl_load.specs.Multiboot2Kernel.{Multiboot2KernelFacts, IsMultiboot2Kernel}
use Rattle.bl_load.specs.Multiboot2Kernel.{entry_point_fault, effective_entry_point}
use Rattle.bl_load.specs.Parts.{entered_at}
use Rattle.bl_load.specs.Rows.{segment_rows, kernel_rows}
use Rattle.bl_load.proofs.EntryLemmas.{entry_within}
use Rattle.bl_load.proofs.KernelLaws.{entry_held, held_within}
use Rattle.bl_walk.proofs.EntryPartLemmas.{kernel_holds, holds_by}

-- where segments stand at their own addresses
segments_enter : (facts : MachineFacts) (taken : List (Range ℕ)) (k entry : ℕ)
    (segments : List Segment) (rest : List Row) (places : List Place)
    → ArePlaced facts taken (segment_rows k segments ++ rest) places
    → list_any (is_in_segment entry) segments ≡ true → list_any (kernel_holds entry) places ≡ true
segments_enter facts taken k entry [] rest places placed held = absurd (cc)
segments_enter facts taken k entry (s ∷ segments) rest [] placed held = absurd placed
segments_enter facts taken k entry (s ∷ segments) rest (p ∷ places) placed held =
    let at : p.address ≡ s.address = placed.0.0 in
    let size : p.length ≡ s.memsz = ap (λ (q : Place). q.length) placed.1 in
    let role : p.role ≡ Kernel = ap (λ (q : Place). q.role) placed.1 in
    elim (segment_holds s entry) as (λ b. segment_holds s entry ≡ b
    → (b || list_any (is_in_segment entry) segments) ≡ true
    → (kernel_holds entry p || list_any (kernel_holds entry) places) ≡ true) [
      | true ↦ λ e h. (
          let within = held_within s entry e in
          let here =
          holds_by entry p role (omega (arith, within.0, at))
          (omega (arith, within.1, at, size)) in
          rw here)
      | false ↦ λ e h. (
          let later =
          segments_enter facts (put_in (place_range p) taken) (suc k) entry segments rest places
          placed.2 h in
          rw later (or-true (kernel_holds entry p)))
    ] refl held

-- the entry is that of a segment
entry_is_held : {screen : Bool} (file : List ℕ) (kernel : Multiboot2KernelFacts)
    → IsMultiboot2Kernel screen file kernel → list_any (is_in_segment kernel.entry) kernel.segments ≡ true
entry_is_held file kernel is =
    let sound : entry_point_fault kernel.segments (Some kernel.entry) ≡ None =
    subst (λ (e : Option ℕ). entry_point_fault kernel.segments e ≡ None) is.entry
    (subst (λ (ss : List Segment). entry_point_fault ss (effective_entry_point is.header is.facts) ≡ None)
    (sym is.segments) is.sound) in
    entry_held kernel.segments kernel.entry sound

-- with a relocatable tag or without one: `given` is the kernel's own
module _ {screen : Bool} (facts : MachineFacts) (file : List ℕ) (kernel : Multiboot2KernelFacts)
    (rest : List Row) (is : IsMultiboot2Kernel screen file kernel) where
  -- the block holds the entry that moved with it
  block_holds : (base : ℕ) (p : Place) → p.role ≡ Kernel → p.address ≡ base
      → p.length ≡ span_of kernel.segments
      → kernel_holds (kernel.entry - low_of kernel.segments + base) p ≡ true
  block_holds base p role at size =
      let within = entry_within file kernel is in
      let first = within.0 in
      let last = within.1 in
      holds_by (kernel.entry - low_of kernel.segments + base) p role (omega arith) (omega arith)

  pub entered_place : (places : List Place)
      → ArePlaced facts [] (kernel_rows kernel.segments kernel.relocation ++ rest) places
      → list_any
      (kernel_holds
      (entered_at kernel.entry kernel.segments kernel.relocation
      (address_of Kernel 0 places))) places ≡ true
  entered_place places placed =
      elim kernel.relocation as (λ given.
      ArePlaced facts [] (kernel_rows kernel.segments given ++ rest) places
      → list_any
      (kernel_holds (entered_at kernel.entry kernel.segments given (address_of Kernel 0 places)))
      places ≡ true) [
        | None ↦
            λ at.
            segments_enter facts [] 0 kernel.entry kernel.segments rest places at
            (entry_is_held file kernel is)
        | Some r ↦
            λ at.
            elim places as (λ ps.
            ArePlaced facts [] (kernel_rows kernel.segments (Some r) ++ rest) ps
            → list_any
            (kernel_holds
            (entered_at kernel.entry kernel.segments (Some r) (address_of Kernel 0 ps))) ps
            ≡ true) [
              | [] ↦ λ none. absurd none
              | (p ∷ ps) ↦ λ block. (
                  let base : address_of Kernel 0 (p ∷ ps) ≡ p.address =
                  ap (λ (q : Place). address_of Kernel 0 (q ∷ ps)) block.1 in
                  let role : p.role ≡ Kernel = ap (λ (q : Place). q.role) block.1 in
                  let size : p.length ≡ span_of kernel.segments =
                  ap (λ (q : Place). q.length) block.1 in
                  let here = block_holds (address_of Kernel 0 (p ∷ ps)) p role (sym base) size in
                  rw here)
            ] at
      ] placed
