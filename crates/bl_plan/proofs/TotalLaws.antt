-- Rows have places, or a first fault.
use Rattle.std.proofs.Common.{◌≡◌, ◌≢◌, ◌<◌, ◌+◌, ℕ, zero, suc, List, [], ◌∷◌, ◌⊎◌, inl, inr, arith}
use Rattle.std.proofs.Common.{refl, subst}
use Rattle.std.proofs.lemmas.Bool.{cases_lt}
use Rattle.std.specs.declared.ops.Range.{Range}
use Rattle.bl_mem.specs.Least.{IsLeast, IsGreatest}
use Rattle.bl_mem.proofs.LeastLaws.{least_below}
use Rattle.bl_map.specs.MachineFacts.{MachineFacts}
use Rattle.bl_plan.specs.Permitted.{IsPreferred}
use Rattle.bl_plan.specs.Placed.{ArePlaced, IsFirstPlaceFault, IsChosen, HasChoiceFault, row_place}
use Rattle.bl_plan.specs.Placed.{place_range}
use Rattle.bl_plan.specs.PlannerFacts.{put_in}
use Rattle.bl_plan.specs.declared.part.Choice.{Choice}
use Rattle.bl_plan.specs.declared.part.Choice.TheVariants.{Fixed, Lowest, Highest, Preferred}
use Rattle.bl_plan.specs.declared.fault.PlanFault.{PlanFault}
use Rattle.bl_plan.specs.declared.fault.PlanFault.TheVariants.{NotUsable, Overlap, NoRoom, NoMemory}
use Rattle.bl_plan.specs.declared.part.Place.{Place}
use Rattle.bl_plan.specs.declared.part.Row.{Row}
use Rattle.bl_plan.proofs.DecidedLemmas.{IsDecided, all_usable_or_not, all_open_or_not}
use Rattle.bl_plan.proofs.DecidedLemmas.{permitted_or_not, permitted_small}

-- ---- what is chosen of numbers that are small

-- there is a least number with a property, or none has it, where those that have it are small
least_or_none : (P : ℕ → Type 0) → ((k : ℕ) → IsDecided (P k)) → (n : ℕ) → ((k : ℕ) → P k → k < n)
    → ((k : ℕ) × IsLeast P k) ⊎ ((k : ℕ) → ¬ P k)
least_or_none P has n small =
    elim (least_below P has n) [
      | inl none ↦ inr (λ k here. none k (small k here) here)
      | inr some ↦ inl (some.0, some.2)
    ]

-- and so is there a greatest
smaller : (P : ℕ → Type 0) (n : ℕ) → ((k : ℕ) → P k → k < suc n) → (P n → ⊥) → (k : ℕ) → P k → k < n
smaller P n small not_here k here =
    let within = small k here in
    elim (cases_lt k n) [
      | inl below ↦ below
      | inr not_below ↦ let same : k ≡ n = omega arith in absurd (not_here (subst P same here))
    ]

greatest_or_none : (P : ℕ → Type 0) → ((k : ℕ) → IsDecided (P k)) → (n : ℕ)
    → ((k : ℕ) → P k → k < n) → ((k : ℕ) × IsGreatest P k) ⊎ ((k : ℕ) → ¬ P k)
greatest_or_none P has zero small = inr (λ k here. let within = small k here in omega arith)
greatest_or_none P has (suc n) small =
    elim (has n) [
      | inl here ↦
          inl (
            n,
            record {
              holds = here;
              greatest = λ k there. let within = small k there in
                  omega arith;
            },
          )
      | inr not_here ↦ greatest_or_none P has n (smaller P n small not_here)
    ]

preferred_or_none : (P : ℕ → Type 0) → ((k : ℕ) → IsDecided (P k)) → (n : ℕ)
    → ((k : ℕ) → P k → k < n) → (at : ℕ) → ((k : ℕ) × IsPreferred at P k) ⊎ ((k : ℕ) → ¬ P k)
preferred_or_none P has n small at =
    elim (has at) [
      | inl here ↦ inl (at, inl (here, refl))
      | inr not_here ↦ elim (least_or_none P has n small) [
        | inl least ↦ inl (least.0, inr (not_here, least.1))
        | inr none ↦ inr none
      ]
    ]

-- ---- rows

-- an address, or a fault that is no want of memory
abbrev IsMetOrNot : MachineFacts → List (Range ℕ) → ℕ → Choice → Type 0
IsMetOrNot facts taken count choice =
    ((a : ℕ) × IsChosen facts taken count choice a)
    ⊎ ((fault : PlanFault) × (fault ≢ NoMemory) × HasChoiceFault facts taken count choice fault)

-- a choice is met, or it has a fault
chosen_or_fault : (facts : MachineFacts) (taken : List (Range ℕ)) (count : ℕ) (choice : Choice)
    → IsMetOrNot facts taken count choice
chosen_or_fault facts taken count (Fixed at) =
    elim (all_usable_or_not facts at (at + count)) [
      | inr never ↦ inr (NotUsable, (λ e. absurd cc), (λ both. never both.0))
      | inl usable ↦ elim (all_open_or_not facts.firmware.avoided at (at + count)) [
        | inr never ↦ inr (NotUsable, (λ e. absurd cc), (λ both. never both.1))
        | inl unavoided ↦ elim (all_open_or_not taken at (at + count)) [
          | inr never ↦ inr (Overlap, (λ e. absurd cc), (usable, unavoided, never))
          | inl free ↦ inl (at, (refl, usable, unavoided, free))
        ]
      ]
    ]
chosen_or_fault facts taken count (Lowest align low high) =
    elim (least_or_none _ (permitted_or_not facts taken count align low high) (suc high)
    (permitted_small facts taken count align low high)) [
      | inl some ↦ inl some
      | inr none ↦ inr (NoRoom, (λ e. absurd cc), none)
    ]
chosen_or_fault facts taken count (Highest align low high) =
    elim (greatest_or_none _ (permitted_or_not facts taken count align low high) (suc high)
    (permitted_small facts taken count align low high)) [
      | inl some ↦ inl some
      | inr none ↦ inr (NoRoom, (λ e. absurd cc), none)
    ]
chosen_or_fault facts taken count (Preferred at align low high) =
    elim (preferred_or_none _ (permitted_or_not facts taken count align low high) (suc high)
    (permitted_small facts taken count align low high) at) [
      | inl some ↦ inl some
      | inr none ↦ inr (NoRoom, (λ e. absurd cc), none)
    ]

-- rows have places, or one of them is the first that has none
pub placed_or_fault : (facts : MachineFacts) (taken : List (Range ℕ)) (rows : List Row)
    → ((places : List Place) × ArePlaced facts taken rows places)
    ⊎ ((fault : PlanFault) × (fault ≢ NoMemory) × IsFirstPlaceFault facts taken rows fault)
placed_or_fault facts taken [] = inl ([], tt)
placed_or_fault facts taken (row ∷ rows) =
    elim (chosen_or_fault facts taken row.length row.choice) [
      | inr (fault, some, has) ↦ inr (fault, some, inl has)
      | inl (a, chosen) ↦
          elim (placed_or_fault facts (put_in (place_range (row_place row a)) taken) rows) [
            | inl (places, placed) ↦ inl (row_place row a ∷ places, (chosen, refl, placed))
            | inr (fault, some, has) ↦ inr (fault, some, inr (a, chosen, has))
          ]
    ]
