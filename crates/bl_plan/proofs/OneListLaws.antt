-- Rows have one list of places, or one first fault, and never both.
use Rattle.std.proofs.Common.{◌≡◌, ◌+◌, ℕ, List, [], ◌∷◌, arith, subst, sym, ap, ap₂, refl, ◌∙◌}
use Rattle.std.proofs.Common.{inl, inr}
use Rattle.std.specs.declared.ops.Range.{Range}
use Rattle.bl_map.specs.MachineFacts.{MachineFacts, AllUsable}
use Rattle.bl_mem.specs.Least.{IsLeast, IsGreatest}
use Rattle.bl_plan.specs.Permitted.{AreUntaken, AreUnavoided, IsPermitted, IsPreferred}
use Rattle.bl_plan.specs.Permitted.{HasFixedFault, HasNoRoom}
use Rattle.bl_plan.specs.PlannerFacts.{put_in}
use Rattle.bl_plan.specs.declared.part.Choice.{Choice}
use Rattle.bl_plan.specs.declared.part.Choice.TheVariants.{Fixed, Lowest, Highest, Preferred}
use Rattle.bl_plan.specs.declared.fault.PlanFault.{PlanFault}
use Rattle.bl_plan.specs.declared.fault.PlanFault.TheVariants.{NotUsable, Overlap, NoRoom, NoMemory}
use Rattle.bl_plan.specs.declared.part.Row.{Row}
use Rattle.bl_plan.specs.declared.part.Place.{Place}
use Rattle.bl_plan.specs.Placed.{IsChosen, HasChoiceFault, row_place, place_range, ArePlaced}
use Rattle.bl_plan.specs.Placed.{IsFirstPlaceFault}

one_least : (P : ℕ → Type 0) (a b : ℕ) → IsLeast P a → IsLeast P b → a ≡ b
one_least P a b p q = omega (arith, p.least b q.holds, q.least a p.holds)

one_greatest : (P : ℕ → Type 0) (a b : ℕ) → IsGreatest P a → IsGreatest P b → a ≡ b
one_greatest P a b p q = omega (arith, p.greatest b q.holds, q.greatest a p.holds)

one_preferred : (at : ℕ) (P : ℕ → Type 0) (a b : ℕ) → IsPreferred at P a → IsPreferred at P b
    → a ≡ b
one_preferred at P a b (inl p) (inl q) = p.1 ∙ sym q.1
one_preferred at P a b (inl p) (inr q) = absurd (q.0 p.0)
one_preferred at P a b (inr p) (inl q) = absurd (p.0 q.0)
one_preferred at P a b (inr p) (inr q) = one_least P a b p.1 q.1

pub preferred_holds : (at : ℕ) (P : ℕ → Type 0) (a : ℕ) → IsPreferred at P a → P a
preferred_holds at P a (inl p) = subst P (sym p.1) p.0
preferred_holds at P a (inr p) = p.1.holds

not_room : (P : ℕ → Type 0) (a : ℕ) (f : PlanFault) → P a → HasNoRoom P f → ⊥
not_room P a NotUsable p q = q
not_room P a Overlap p q = q
not_room P a NoRoom p q = q a p
not_room P a NoMemory p q = q

one_no_room : (P : ℕ → Type 0) (f g : PlanFault) → HasNoRoom P f → HasNoRoom P g → f ≡ g
one_no_room P NotUsable g p q = absurd p
one_no_room P Overlap g p q = absurd p
one_no_room P NoMemory g p q = absurd p
one_no_room P NoRoom NotUsable p q = absurd q
one_no_room P NoRoom Overlap p q = absurd q
one_no_room P NoRoom NoRoom p q = refl
one_no_room P NoRoom NoMemory p q = absurd q

module _ (facts : MachineFacts) where
  not_fixed : (taken : List (Range ℕ)) (start end : ℕ) (f : PlanFault) → AllUsable facts start end
      → AreUnavoided facts start end → AreUntaken taken start end
      → HasFixedFault facts taken start end f → ⊥
  not_fixed taken start end NotUsable usable unavoided free q = q (usable, unavoided)
  not_fixed taken start end Overlap usable unavoided free q = q.2 free
  not_fixed taken start end NoRoom usable unavoided free q = q
  not_fixed taken start end NoMemory usable unavoided free q = q

  one_fixed : (taken : List (Range ℕ)) (start end : ℕ) (f g : PlanFault)
      → HasFixedFault facts taken start end f → HasFixedFault facts taken start end g → f ≡ g
  one_fixed taken start end NotUsable NotUsable p q = refl
  one_fixed taken start end NotUsable Overlap p q = absurd (p (q.0, q.1))
  one_fixed taken start end NotUsable NoRoom p q = absurd q
  one_fixed taken start end NotUsable NoMemory p q = absurd q
  one_fixed taken start end Overlap NotUsable p q = absurd (q (p.0, p.1))
  one_fixed taken start end Overlap Overlap p q = refl
  one_fixed taken start end Overlap NoRoom p q = absurd q
  one_fixed taken start end Overlap NoMemory p q = absurd q
  one_fixed taken start end NoRoom g p q = absurd p
  one_fixed taken start end NoMemory g p q = absurd p

  one_address : (taken : List (Range ℕ)) (count : ℕ) (choice : Choice) (a b : ℕ)
      → IsChosen facts taken count choice a → IsChosen facts taken count choice b → a ≡ b
  one_address taken count (Fixed at) a b p q = p.0 ∙ sym q.0
  one_address taken count (Lowest align low high) a b p q =
      one_least (IsPermitted facts taken count align low high) a b p q
  one_address taken count (Highest align low high) a b p q =
      one_greatest (IsPermitted facts taken count align low high) a b p q
  one_address taken count (Preferred at align low high) a b p q =
      one_preferred at (IsPermitted facts taken count align low high) a b p q

  not_chosen_and_faulty : (taken : List (Range ℕ)) (count : ℕ) (choice : Choice) (a : ℕ)
      (f : PlanFault) → IsChosen facts taken count choice a
      → HasChoiceFault facts taken count choice f
      → ⊥
  not_chosen_and_faulty taken count (Fixed at) a f p q =
      not_fixed taken at (at + count) f p.1 p.2 p.3 q
  not_chosen_and_faulty taken count (Lowest align low high) a f p q =
      not_room (IsPermitted facts taken count align low high) a f p.holds q
  not_chosen_and_faulty taken count (Highest align low high) a f p q =
      not_room (IsPermitted facts taken count align low high) a f p.holds q
  not_chosen_and_faulty taken count (Preferred at align low high) a f p q =
      not_room (IsPermitted facts taken count align low high) a f
      (preferred_holds at (IsPermitted facts taken count align low high) a p) q

  one_fault_of : (taken : List (Range ℕ)) (count : ℕ) (choice : Choice) (f g : PlanFault)
      → HasChoiceFault facts taken count choice f → HasChoiceFault facts taken count choice g → f
      ≡ g
  one_fault_of taken count (Fixed at) f g p q = one_fixed taken at (at + count) f g p q
  one_fault_of taken count (Lowest align low high) f g p q =
      one_no_room (IsPermitted facts taken count align low high) f g p q
  one_fault_of taken count (Highest align low high) f g p q =
      one_no_room (IsPermitted facts taken count align low high) f g p q
  one_fault_of taken count (Preferred at align low high) f g p q =
      one_no_room (IsPermitted facts taken count align low high) f g p q

  pub one_list : (taken : List (Range ℕ)) (rows : List Row) (ps qs : List Place)
      → ArePlaced facts taken rows ps → ArePlaced facts taken rows qs → ps ≡ qs
  one_list taken [] [] [] a b = refl
  one_list taken [] [] (q ∷ qs) a b = absurd b
  one_list taken [] (p ∷ ps) qs a b = absurd a
  one_list taken (row ∷ rows) [] qs a b = absurd a
  one_list taken (row ∷ rows) (p ∷ ps) [] a b = absurd b
  one_list taken (row ∷ rows) (p ∷ ps) (q ∷ qs) a b =
      let same : q ≡ p =
      b.1
      ∙ ap (row_place row)
      (one_address taken row.length row.choice q.address p.address b.0 a.0) ∙ sym a.1 in
      let rest : ArePlaced facts (put_in (place_range p) taken) rows qs =
      subst (λ (x : Place). ArePlaced facts (put_in (place_range x) taken) rows qs) same b.2 in
      ap₂ (λ (x : Place) (xs : List Place). x ∷ xs) (sym same)
      (one_list (put_in (place_range p) taken) rows ps qs a.2 rest)

  pub not_both : (taken : List (Range ℕ)) (rows : List Row) (ps : List Place) (f : PlanFault)
      → ArePlaced facts taken rows ps → IsFirstPlaceFault facts taken rows f → ⊥
  not_both taken [] ps f a b = b
  not_both taken (row ∷ rows) [] f a b = a
  not_both taken (row ∷ rows) (p ∷ ps) f a (inl here) =
      not_chosen_and_faulty taken row.length row.choice p.address f a.0 here
  not_both taken (row ∷ rows) (p ∷ ps) f a (inr later) =
      let same : row_place row later.0 ≡ p =
      ap (row_place row) (one_address taken row.length row.choice later.0 p.address later.1 a.0)
      ∙ sym a.1 in
      not_both (put_in (place_range p) taken) rows ps f a.2
      (subst (λ (x : Place). IsFirstPlaceFault facts (put_in (place_range x) taken) rows f) same
      later.2)

  pub one_fault : (taken : List (Range ℕ)) (rows : List Row) (f g : PlanFault)
      → IsFirstPlaceFault facts taken rows f → IsFirstPlaceFault facts taken rows g → f ≡ g
  one_fault taken [] f g a b = absurd a
  one_fault taken (row ∷ rows) f g (inl a) (inl b) =
      one_fault_of taken row.length row.choice f g a b
  one_fault taken (row ∷ rows) f g (inl a) (inr b) =
      absurd (not_chosen_and_faulty taken row.length row.choice b.0 f b.1 a)
  one_fault taken (row ∷ rows) f g (inr a) (inl b) =
      absurd (not_chosen_and_faulty taken row.length row.choice a.0 g a.1 b)
  one_fault taken (row ∷ rows) f g (inr a) (inr b) =
      let same = ap (row_place row) (one_address taken row.length row.choice b.0 a.0 b.1 a.1) in
      one_fault (put_in (place_range (row_place row a.0)) taken) rows f g a.2
      (subst (λ (x : Place). IsFirstPlaceFault facts (put_in
      (place_range x) taken) rows g) same b.2)
