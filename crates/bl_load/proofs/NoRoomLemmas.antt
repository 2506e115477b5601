-- Rows of files that no machine can hold may be told shorter.
use Rattle.std.proofs.Common.{◌≡◌, ◌<◌, ℕ, suc, List, [], ◌∷◌, ◌++◌, length, arith, ap, subst, ◌⊎◌}
use Rattle.std.proofs.Common.{inl, inr}
use Rattle.std.specs.Prelude.{min, max}
use Rattle.std.proofs.lemmas.Bool.{cases_lt}
use Rattle.std.specs.declared.ops.Range.{Range}
use Rattle.bl_map.specs.MachineFacts.{MachineFacts}
use Rattle.bl_map.specs.Limits.{max_size}
use Rattle.bl_map.specs.PoolFrames.{round_up_to_frames}
use Rattle.bl_plan.specs.Placed.{ArePlaced, IsFirstPlaceFault, IsChosen, HasChoiceFault}
use Rattle.bl_plan.specs.Placed.{IsPlacingFault}
use Rattle.bl_plan.specs.Placed.{row_place, place_range}
use Rattle.bl_plan.specs.PlannerFacts.{put_in}
use Rattle.bl_plan.specs.declared.part.Choice.TheVariants.{Lowest}
use Rattle.bl_plan.specs.declared.fault.PlanFault.{PlanFault}
use Rattle.bl_plan.specs.declared.fault.PlanFault.TheVariants.{NotUsable, Overlap, NoRoom, NoMemory}
use Rattle.bl_plan.specs.declared.part.Place.{Place}
use Rattle.bl_plan.specs.declared.part.Role.TheVariants.{Module}
use Rattle.bl_plan.specs.declared.part.Row.{Row}
use Rattle.bl_load.specs.EntryValue.{EntryValue, module_file}
use Rattle.bl_load.specs.Multiboot2Kernel.{Multiboot2KernelFacts}
use Rattle.bl_load.specs.KernelReading.{multiboot2}
use Rattle.bl_load.specs.Rows.{module_rows, kernel_rows, information_row, rows_of}
use Rattle.bl_load.specs.internal.Placing.{length_cap, capped_length, capped_module_rows}
use Rattle.bl_load.specs.internal.Placing.{capped_multiboot2_rows}

-- ---- rows that no machine has room for

abbrev pub Alike : ℕ → ℕ → Type 0
Alike told length = (told ≡ length) ⊎ ((max_size < told) × (max_size < length))

pub alike_lengths : (size : ℕ) → Alike (capped_length size) (round_up_to_frames (max size 1))
alike_lengths size =
    elim (cases_lt length_cap size) [
      | inl above ↦ inr (omega arith, omega arith)
      | inr at_most ↦
          let same : min size length_cap ≡ size =
          omega arith in inl (ap (λ (n : ℕ). round_up_to_frames (max n 1)) same)
    ]

module _ (facts : MachineFacts) where
  pub no_chosen : (taken : List (Range ℕ)) (align low count a : ℕ) → max_size < count
      → IsChosen facts taken count (Lowest align low max_size) a → ⊥
  no_chosen taken align low count a long chosen = let below = chosen.holds.below in omega arith

  pub no_room : (taken : List (Range ℕ)) (align low count other : ℕ) (fault : PlanFault)
      → max_size < count
      → HasChoiceFault facts taken other (Lowest align low max_size) fault
      → HasChoiceFault facts taken count (Lowest align low max_size) fault
  no_room taken align low count other NotUsable long has = has
  no_room taken align low count other Overlap long has = has
  no_room taken align low count other NoRoom long has =
      λ a permitted. let below = permitted.below in omega arith
  no_room taken align low count other NoMemory long has = has

  told_placed : (files : List (List ℕ)) (rest : List Row) (k : ℕ) (lines : List (List ℕ))
      (taken : List (Range ℕ)) (places : List Place)
      → ArePlaced facts taken (capped_module_rows files k lines ++ rest) places
      → ArePlaced facts taken (module_rows files k lines ++ rest) places
  told_placed files rest k [] taken places placed = placed
  told_placed files rest k (line ∷ lines) taken [] placed = absurd placed
  told_placed files rest k (line ∷ lines) taken (p ∷ places) placed =
      let size = length (module_file files k) in
      let more = told_placed files rest (suc k) lines
      (put_in (place_range p) taken) places placed.2 in
      elim (alike_lengths size) [
        | inl same ↦ (
          subst (λ (n : ℕ). IsChosen facts taken n (Lowest 4096 0x100000 max_size) p.address)
              same placed.0,
          subst
              (λ (n : ℕ).
              p ≡ row_place
              (record {
                role = Module;
                index = k;
                length = n;
                choice = Lowest 4096 0x100000 max_size;
              }) p.address) same placed.1,
          more,
        )
        | inr long ↦
            absurd (no_chosen taken 4096 0x100000 (capped_length size) p.address long.0 placed.0)
      ]

  told_fault : (files : List (List ℕ)) (rest : List Row) (fault : PlanFault) (k : ℕ)
      (lines : List (List ℕ)) (taken : List (Range ℕ))
      → IsFirstPlaceFault facts taken (capped_module_rows files k lines ++ rest) fault
      → IsFirstPlaceFault facts taken (module_rows files k lines ++ rest) fault
  told_fault files rest fault k [] taken has = has
  told_fault files rest fault k (line ∷ lines) taken (inl here) =
      let size = length (module_file files k) in
      elim (alike_lengths size) [
        | inl same ↦
            inl
            (subst (λ (n : ℕ). HasChoiceFault facts taken n (Lowest 4096 0x100000 max_size) fault)
            same here)
        | inr long ↦
            inl
            (no_room taken 4096 0x100000 (round_up_to_frames (max size 1)) (capped_length size)
            fault
            long.1 here)
      ]
  told_fault files rest fault k (line ∷ lines) taken (inr (a, chosen, later)) =
      let size = length (module_file files k) in
      elim (alike_lengths size) [
        | inl same ↦ inr (
          a,
          subst (λ (n : ℕ). IsChosen facts taken n (Lowest 4096 0x100000 max_size) a) same chosen,
          told_fault files rest fault (suc k) lines
              _ (subst
              (λ (n : ℕ).
              IsFirstPlaceFault facts
              (put_in
              (place_range
              (row_place
              (record {
                role = Module;
                index = k;
                length = n;
                choice = Lowest 4096 0x100000 max_size;
              }) a)) taken)
              (capped_module_rows files (suc k) lines ++ rest) fault) same
              later),
        )
        | inr long ↦ absurd (no_chosen taken 4096 0x100000 (capped_length size) a long.0 chosen)
      ]

  -- rows with the same ones before them
  pub behind_placed : (first told rest : List Row)
      → ((taken : List (Range ℕ)) (places : List Place) → ArePlaced facts taken told places
      → ArePlaced facts taken rest places)
      → (taken : List (Range ℕ)) (places : List Place)
      → ArePlaced facts taken (first ++ told) places → ArePlaced facts taken (first ++ rest) places
  behind_placed [] told rest each taken places placed = each taken places placed
  behind_placed (row ∷ first) told rest each taken [] placed = absurd placed
  behind_placed (row ∷ first) told rest each taken (p ∷ places) placed = (
    placed.0,
    placed.1,
    behind_placed first told rest each (put_in (place_range p) taken) places placed.2,
  )

  pub behind_fault : (fault : PlanFault) (first told rest : List Row)
      → ((taken : List (Range ℕ)) → IsFirstPlaceFault facts taken told fault
      → IsFirstPlaceFault facts taken rest fault)
      → (taken : List (Range ℕ)) → IsFirstPlaceFault facts taken (first ++ told) fault
      → IsFirstPlaceFault facts taken (first ++ rest) fault
  behind_fault fault [] told rest each taken has = each taken has
  behind_fault fault (row ∷ first) told rest each taken (inl here) = inl here
  behind_fault fault (row ∷ first) told rest each taken (inr (a, chosen, later)) =
      inr (a, chosen, behind_fault fault first told rest each _ later)

  module _ (value : EntryValue) (kernel : Multiboot2KernelFacts) where
    pub as_placed : (places : List Place)
        → ArePlaced facts [] (capped_multiboot2_rows facts value kernel) places
        → ArePlaced facts [] (rows_of facts value (multiboot2 kernel)) places
    as_placed places placed =
        let rest = information_row facts value kernel.relocation ∷ [] in
        behind_placed (kernel_rows kernel.segments kernel.relocation)
        (capped_module_rows value.files 0 value.module_lines ++ rest)
        (module_rows value.files 0 value.module_lines ++ rest)
        (λ taken ps. told_placed value.files rest 0 value.module_lines taken ps) [] places placed

    as_fault : (fault : PlanFault)
        → IsFirstPlaceFault facts [] (capped_multiboot2_rows facts value kernel) fault
        → IsFirstPlaceFault facts [] (rows_of facts value (multiboot2 kernel)) fault
    as_fault fault has =
        let rest = information_row facts value kernel.relocation ∷ [] in
        behind_fault fault (kernel_rows kernel.segments kernel.relocation)
        (capped_module_rows value.files 0 value.module_lines ++ rest)
        (module_rows value.files 0 value.module_lines ++ rest)
        (λ taken. told_fault value.files rest fault 0 value.module_lines taken) [] has

    pub placing_fault : (fault : PlanFault)
        → IsPlacingFault facts (capped_multiboot2_rows facts value kernel) fault
        → IsPlacingFault facts (rows_of facts value (multiboot2 kernel)) fault
    placing_fault NotUsable has = as_fault NotUsable has
    placing_fault Overlap has = as_fault Overlap has
    placing_fault NoRoom has = as_fault NoRoom has
    placing_fault NoMemory has = tt
