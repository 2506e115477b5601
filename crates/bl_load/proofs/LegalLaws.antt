-- What is handed over is legal.
use Rattle.std.proofs.Common.{◌≡◌, ◌<◌, ◌+◌, ℕ, zero, suc, List, [], ◌∷◌, length, get_or, Some}
use Rattle.std.proofs.Common.{arith, sym, ap, subst, All, AllPairs, inl, inr}
use Rattle.std.specs.List.{remove, slice_get}
use Rattle.std.proofs.lemmas.Option.{same_Some}
use Rattle.std.proofs.lemmas.Bool.{cases_lt}
use Rattle.std.proofs.lemmas.List.{get_or_default}
use Rattle.std.proofs.lemmas.List.Edits.{length-remove, get_or-remove_below, get_or-remove_above}
use Rattle.std.proofs.lemmas.List.Elements.{All-map}
use Rattle.std.specs.declared.ops.Range.{Range}
use Rattle.bl_mem.specs.Memory.{IsIn}
use Rattle.bl_map.specs.MachineFacts.{MachineFacts}
use Rattle.bl_plan.specs.Permitted.{AreUntaken, IsPermitted, IsPreferred}
use Rattle.bl_plan.specs.Placed.{ArePlaced, IsChosen, IsApart, place_range}
use Rattle.bl_plan.specs.PlannerFacts.{put_in}
use Rattle.bl_plan.specs.declared.part.Choice.{Choice}
use Rattle.bl_plan.specs.declared.part.Choice.TheVariants.{Fixed, Lowest, Highest, Preferred}
use Rattle.bl_plan.specs.declared.part.Row.{Row}
use Rattle.bl_plan.specs.declared.part.Place.{Place}
use Rattle.bl_plan.proofs.PlaceLaws.{of_rows, all_apart}
use Rattle.bl_load.specs.EntryValue.{EntryValue}
use Rattle.bl_load.specs.Rows.{rows_of}
use Rattle.bl_load.specs.Handover.{Handover}
use Rattle.bl_load.specs.Parts.{IsHandover}
use Rattle.bl_load.specs.Legal.{IsAllowed, AreAllowed, other_ranges, IsLegal}

-- what holds of each element but the i-th holds of each that is left without it
All-remove : {X : Type 0} (P : X → Type 0) (xs : List X) (i : ℕ) → i < length xs
    → ((k : ℕ) (d : X) → k < length xs → ¬ (k ≡ i) → P (get_or xs k d)) → All P (remove xs i)
All-remove P xs i within each k d left =
    let size = length-remove xs i within in
    elim (cases_lt k i) [
      | inl below ↦
          subst P (sym (get_or-remove_below xs i d k below within))
          (each k d (omega arith) (λ e. omega arith))
      | inr above ↦
          subst P (sym (get_or-remove_above xs i d k above within))
          (each (k + 1) d (omega arith) (λ e. omega arith))
    ]

-- places that are apart leave the range of each free
others_open : (places : List Place) (i : ℕ) (d : Place) → i < length places
    → AllPairs IsApart places
    → AreUntaken (other_ranges places i) (get_or places i d).address
    ((get_or places i d).address + (get_or places i d).length)
others_open places i d within apart a low high =
    All-map (λ (r : Range ℕ). ¬ IsIn r a) place_range (remove places i)
    (All-remove (λ (p : Place). ¬ IsIn (place_range p) a) places i within
    (λ k e k_in other here. elim (cases_lt k i) [
      | inl below ↦
          apart k i d below within a
          (subst (λ (p : Place). IsIn (place_range p) a) (get_or_default places k e d k_in) here)
          (low, high)
      | inr above ↦
          apart i k d (omega arith) k_in a (low, high)
          (subst (λ (p : Place). IsIn (place_range p) a) (get_or_default places k e d k_in) here)
    ]))

preferred_holds : (at : ℕ) (P : ℕ → Type 0) (a : ℕ) → IsPreferred at P a → P a
preferred_holds at P a (inl here) = subst P (sym here.1) here.0
preferred_holds at P a (inr least) = least.1.holds

-- a chosen address is allowed beside all that its range does not meet
chosen_allowed : (facts : MachineFacts) (taken ranges : List (Range ℕ)) (count : ℕ)
    (choice : Choice) (a : ℕ) → IsChosen facts taken count choice a
    → AreUntaken ranges a (a + count)
    → IsAllowed facts ranges count choice a
chosen_allowed facts taken ranges count (Fixed at) a chosen free =
    let e = chosen.0 in (
      e,
      (λ b low high. chosen.1 b (omega arith) (omega arith)),
      (λ b low high. chosen.2 b (omega arith) (omega arith)),
      free,
    )
chosen_allowed facts taken ranges count (Lowest align low high) a chosen free =
    record {
      aligned = chosen.holds.aligned;
      above = chosen.holds.above;
      below = chosen.holds.below;
      usable = chosen.holds.usable;
      unavoided = chosen.holds.unavoided;
      apart = free;
    }
chosen_allowed facts taken ranges count (Highest align low high) a chosen free =
    record {
      aligned = chosen.holds.aligned;
      above = chosen.holds.above;
      below = chosen.holds.below;
      usable = chosen.holds.usable;
      unavoided = chosen.holds.unavoided;
      apart = free;
    }
chosen_allowed facts taken ranges count (Preferred at align low high) a chosen free =
    let p : IsPermitted facts taken count align low high a =
    preferred_holds at (IsPermitted facts taken count align low high) a chosen in
    record {
      aligned = p.aligned;
      above = p.above;
      below = p.below;
      usable = p.usable;
      unavoided = p.unavoided;
      apart = free;
    }

-- the address of each row's place was chosen for it, and the place has the row's length
chosen_at : (facts : MachineFacts) (taken : List (Range ℕ)) (rows : List Row) (places : List Place)
    → ArePlaced facts taken rows places → (i : ℕ) (row : Row) (place : Place) → i < length places
    → (before : List (Range ℕ))
    × IsChosen facts before (get_or rows i row).length (get_or rows i row).choice
    (get_or places i place).address
    × ((get_or places i place).length ≡ (get_or rows i row).length)
chosen_at facts taken [] [] placed i row place within = absurd (omega arith)
chosen_at facts taken [] (p ∷ places) placed i row place within = absurd placed
chosen_at facts taken (r ∷ rows) [] placed i row place within = absurd placed
chosen_at facts taken (r ∷ rows) (p ∷ places) placed zero row place within =
    (taken, placed.0, ap (λ (x : Place). x.length) placed.1)
chosen_at facts taken (r ∷ rows) (p ∷ places) placed (suc i) row place within =
    chosen_at facts (put_in (place_range p) taken) rows places placed.2 i row place (omega arith)

-- an element that a list has at an index
got : {X : Type 0} (xs : List X) (i : ℕ) (x : X) → slice_get xs i ≡ Some x
    → (i < length xs) × (get_or xs i x ≡ x)
got [] i x h = absurd cc
got (y ∷ xs) zero x h = (omega arith, same_Some y x h)
got (y ∷ xs) (suc i) x h = let rest = got xs i x h in (omega (arith, rest.0), rest.1)

-- the places of rows are allowed
placed_allowed : (facts : MachineFacts) (rows : List Row) (places : List Place)
    → ArePlaced facts [] rows places → AreAllowed facts rows places
placed_allowed facts rows places placed i row place is_row is_place =
    let at_row = got rows i row is_row in
    let at_place = got places i place is_place in
    let within = at_place.0 in
    let chosen = chosen_at facts [] rows places placed i row place within in
    let free = others_open places i place within (all_apart facts [] rows places placed) in
    subst (λ (r : Row). IsAllowed facts (other_ranges places i) r.length r.choice place.address) at_row.1
    (subst
    (λ (p : Place).
    IsAllowed facts (other_ranges places i) (get_or rows i row).length (get_or rows i row).choice
    p.address) at_place.1
    (chosen_allowed facts chosen.0 (other_ranges places i) (get_or rows i row).length
    (get_or rows i row).choice (get_or places i place).address chosen.1
    (subst
    (λ (n : ℕ).
    AreUntaken (other_ranges places i) (get_or places i place).address
    ((get_or places i place).address + n)) chosen.2 free)))

-- so what is handed over is legal
pub handover_legal : (facts : MachineFacts) (value : EntryValue) (h : Handover)
    → IsHandover facts value h → IsLegal facts value h
handover_legal facts value h is =
    let rows = rows_of facts value is.reading in
    record {
      reading = is.reading;
      places = is.places;
      lines = is.lines;
      read = is.read;
      of_rows = of_rows facts [] rows is.places is.placed;
      allowed = placed_allowed facts rows is.places is.placed;
      is = is.is;
    }
