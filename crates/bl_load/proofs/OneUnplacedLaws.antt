-- The row that is told of an entry's first part without a place is one, but for a length above 4 GiB.
use Rattle.std.proofs.Common.{◌≡◌, ◌<◌, ℕ, List, [], ◌∷◌, Option, Some, None, refl, sym, subst}
use Rattle.std.proofs.Common.{ap, ◌∙◌, ◌⊎◌, inl, inr}
use Rattle.std.specs.declared.ops.Range.{Range}
use Rattle.bl_map.specs.Limits.{max_size}
use Rattle.bl_map.specs.MachineFacts.{MachineFacts}
use Rattle.bl_plan.specs.Placed.{IsChosen, HasChoiceFault, IsFirstPlaceFault}
use Rattle.bl_plan.specs.Placed.{row_place, place_range}
use Rattle.bl_plan.specs.PlannerFacts.{put_in}
use Rattle.bl_plan.specs.declared.fault.PlanFault.{PlanFault}
use Rattle.bl_plan.specs.declared.part.Place.{Place}
use Rattle.bl_plan.specs.declared.part.Row.{Row}
use Rattle.bl_plan.proofs.OneListLaws as places
use Rattle.bl_load.specs.EntryValue.{EntryValue}
use Rattle.bl_load.specs.KernelReading.{KernelReading}
use Rattle.bl_load.specs.Rows.{rows_of}
use Rattle.bl_load.specs.Unplaced.{IsToldAs, IsFirstUnplaced, IsUnplacedOf, IsUnplaced}
use Rattle.bl_load.proofs.OneReadingLaws.{one_reading}

-- no row is told in either, or rows that are told as one another
abbrev pub AreToldAlike : Option Row → Option Row → Type 0
AreToldAlike None None = Unit {0}
AreToldAlike None (Some y) = ⊥
AreToldAlike (Some x) None = ⊥
AreToldAlike (Some x) (Some y) = IsToldAs x y

-- lengths that are told of one length are equal, or all above 4 GiB
alike_lengths : (n x y : ℕ) → (x ≡ n) ⊎ ((max_size < x) × (max_size < n))
    → (y ≡ n) ⊎ ((max_size < y) × (max_size < n)) → (y ≡ x) ⊎ ((max_size < y) × (max_size < x))
alike_lengths n x y (inl a) (inl b) = inl (b ∙ sym a)
alike_lengths n x y (inl a) (inr b) = inr (b.0, subst (λ k. max_size < k) (sym a) b.1)
alike_lengths n x y (inr a) (inl b) = inr (subst (λ k. max_size < k) (sym b) a.1, a.0)
alike_lengths n x y (inr a) (inr b) = inr (b.0, a.0)

alike : (row x y : Row) → IsToldAs row x → IsToldAs row y → IsToldAs x y
alike row x y a b = record {
  role = b.role ∙ sym a.role;
  index = b.index ∙ sym a.index;
  choice = b.choice ∙ sym a.choice;
  length = alike_lengths row.length x.length y.length a.length b.length;
}

module _ (facts : MachineFacts) where
  one_address : (taken : List (Range ℕ)) (row : Row) (a b : ℕ)
      → IsChosen facts taken row.length row.choice a
      → IsChosen facts taken row.length row.choice b → a ≡ b
  one_address taken row a b p q =
      let same : row_place row a ∷ [] ≡ row_place row b ∷ [] =
      places.one_list facts taken (row ∷ []) (row_place row a ∷ []) (row_place row b ∷ [])
      (p, refl, tt) (q, refl, tt) in
      let first : row_place row a ≡ row_place row b = cc in
      ap (λ (place : Place). place.address) first

  not_both : (taken : List (Range ℕ)) (row : Row) (a : ℕ) (fault : PlanFault)
      → IsChosen facts taken row.length row.choice a
      → HasChoiceFault facts taken row.length row.choice fault → ⊥
  not_both taken row a fault p q =
      places.not_both facts taken (row ∷ []) (row_place row a ∷ []) fault (p, refl, tt) (inl q)

  first_fault : (taken : List (Range ℕ)) (rows : List Row) (which : Row)
      → IsFirstUnplaced facts taken rows which
      → (fault : PlanFault) × IsFirstPlaceFault facts taken rows fault
  first_fault taken [] which has = absurd has
  first_fault taken (row ∷ rows) which (inl here) = (here.1.0, inl here.1.1)
  first_fault taken (row ∷ rows) which (inr later) =
      let rest =
      first_fault (put_in (place_range (row_place row later.0)) taken) rows which later.2 in
      (rest.0, inr (later.0, later.1, rest.1))

  one_row : (taken : List (Range ℕ)) (rows : List Row) (x y : Row)
      → IsFirstUnplaced facts taken rows x → IsFirstUnplaced facts taken rows y → IsToldAs x y
  one_row taken [] x y a b = absurd a
  one_row taken (row ∷ rows) x y (inl a) (inl b) = alike row x y a.0 b.0
  one_row taken (row ∷ rows) x y (inl a) (inr b) =
      absurd (not_both taken row b.0 a.1.0 b.1 a.1.1)
  one_row taken (row ∷ rows) x y (inr a) (inl b) =
      absurd (not_both taken row a.0 b.1.0 a.1 b.1.1)
  one_row taken (row ∷ rows) x y (inr a) (inr b) =
      one_row (put_in (place_range (row_place row a.0)) taken) rows x y a.2
      (subst (λ (at : ℕ).
      IsFirstUnplaced facts (put_in (place_range (row_place row at)) taken) rows y)
      (one_address taken row b.0 a.0 b.1 a.1) b.2)

  one_unplaced : (rows : List Row) (x y : Option Row) → IsUnplacedOf facts [] rows x
      → IsUnplacedOf facts [] rows y → AreToldAlike x y
  one_unplaced rows None None a b = tt
  one_unplaced rows None (Some y) a b =
      let fault = first_fault [] rows y b in
      places.not_both facts [] rows a.0 fault.0 a.1 fault.1
  one_unplaced rows (Some x) None a b =
      let fault = first_fault [] rows x a in
      places.not_both facts [] rows b.0 fault.0 b.1 fault.1
  one_unplaced rows (Some x) (Some y) a b = one_row [] rows x y a b

-- of equal facts and equal values
pub told_alike : (facts : MachineFacts) (value : EntryValue) (x y : Option Row)
    → IsUnplaced facts value x → IsUnplaced facts value y → AreToldAlike x y
told_alike facts value x y a b =
    one_unplaced facts (rows_of facts value a.reading) x y a.is
    (subst (λ (reading : KernelReading).
    IsUnplacedOf facts [] (rows_of facts value reading) y)
    (one_reading facts value b.reading a.reading b.read a.read) b.is)
