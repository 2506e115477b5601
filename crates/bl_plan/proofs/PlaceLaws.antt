-- The places of rows are legal.
use Rattle.std.proofs.Common.{◌≡◌, ◌+◌, ℕ, suc, List, [], ◌∷◌, length, get_or, arith, ap, refl, All}
use Rattle.std.proofs.Common.{AllPairs}
use Rattle.std.specs.List.{AllZip}
use Rattle.std.proofs.lemmas.List.Elements.{All-nil, All-cons}
use Rattle.std.proofs.lemmas.List.Kept.{AllPairs-cons}
use Rattle.std.specs.declared.ops.Range.{Range}
use Rattle.bl_map.specs.MachineFacts.{MachineFacts, AllUsable}
use Rattle.bl_mem.specs.Memory.{IsIn}
use Rattle.bl_plan.specs.Permitted.{AreUntaken, AreUnavoided, IsPermitted}
use Rattle.bl_plan.specs.PlannerFacts.{put_in}
use Rattle.bl_plan.specs.declared.part.Choice.{Choice}
use Rattle.bl_plan.specs.declared.part.Choice.TheVariants.{Fixed, Lowest, Highest, Preferred}
use Rattle.bl_plan.specs.declared.part.Row.{Row}
use Rattle.bl_plan.specs.declared.part.Place.{Place}
use Rattle.bl_plan.specs.Placed.{IsChosen, row_place, place_range, ArePlaced, IsPlaceable, IsApart}
use Rattle.bl_plan.specs.Placed.{IsUntaken, IsUnavoided, IsPlaceOf}
use Rattle.bl_plan.specs.AddressOrder.{range_key}
use Rattle.bl_plan.proofs.OrderLemmas.{put_from}
use Rattle.bl_plan.proofs.OneListLaws.{preferred_holds}

module _ (facts : MachineFacts) where
  -- a chosen range is usable, and meets nothing that is taken
  chosen_usable : (taken : List (Range ℕ)) (count : ℕ) (choice : Choice) (a : ℕ)
      → IsChosen facts taken count choice a → AllUsable facts a (a + count)
  chosen_usable taken count (Fixed at) a p =
      let e = p.0 in λ b low high. p.1 b (omega arith) (omega arith)
  chosen_usable taken count (Lowest align low high) a p = p.holds.usable
  chosen_usable taken count (Highest align low high) a p = p.holds.usable
  chosen_usable taken count (Preferred at align low high) a p =
      (preferred_holds at (IsPermitted facts taken count align low high) a p).usable

  chosen_unavoided : (taken : List (Range ℕ)) (count : ℕ) (choice : Choice) (a : ℕ)
      → IsChosen facts taken count choice a → AreUnavoided facts a (a + count)
  chosen_unavoided taken count (Fixed at) a p =
      let e = p.0 in λ b low high. p.2 b (omega arith) (omega arith)
  chosen_unavoided taken count (Lowest align low high) a p = p.holds.unavoided
  chosen_unavoided taken count (Highest align low high) a p = p.holds.unavoided
  chosen_unavoided taken count (Preferred at align low high) a p =
      (preferred_holds at (IsPermitted facts taken count align low high) a p).unavoided

  chosen_open : (taken : List (Range ℕ)) (count : ℕ) (choice : Choice) (a : ℕ)
      → IsChosen facts taken count choice a → AreUntaken taken a (a + count)
  chosen_open taken count (Fixed at) a p =
      let e = p.0 in λ b low high. p.3 b (omega arith) (omega arith)
  chosen_open taken count (Lowest align low high) a p = p.holds.apart
  chosen_open taken count (Highest align low high) a p = p.holds.apart
  chosen_open taken count (Preferred at align low high) a p =
      (preferred_holds at (IsPermitted facts taken count align low high) a p).apart

  pub all_usable : (taken : List (Range ℕ)) (rows : List Row) (ps : List Place)
      → ArePlaced facts taken rows ps → All (IsPlaceable facts) ps
  all_usable taken [] [] a = All-nil (IsPlaceable facts)
  all_usable taken [] (p ∷ ps) a = absurd a
  all_usable taken (row ∷ rows) [] a = absurd a
  all_usable taken (row ∷ rows) (p ∷ ps) a =
      let size = ap (λ (x : Place). x.length) a.1 in
      All-cons (IsPlaceable facts) p ps
      (λ b low high.
      chosen_usable taken row.length row.choice p.address a.0 b low (omega arith))
      (all_usable (put_in (place_range p) taken) rows ps a.2)

  pub all_unavoided : (taken : List (Range ℕ)) (rows : List Row) (ps : List Place)
      → ArePlaced facts taken rows ps → All (IsUnavoided facts) ps
  all_unavoided taken [] [] a = All-nil (IsUnavoided facts)
  all_unavoided taken [] (p ∷ ps) a = absurd a
  all_unavoided taken (row ∷ rows) [] a = absurd a
  all_unavoided taken (row ∷ rows) (p ∷ ps) a =
      let size = ap (λ (x : Place). x.length) a.1 in
      All-cons (IsUnavoided facts) p ps
      (λ b low high.
      chosen_unavoided taken row.length row.choice p.address a.0 b low (omega arith))
      (all_unavoided (put_in (place_range p) taken) rows ps a.2)

  here_open : (taken : List (Range ℕ)) (row : Row) (p : Place)
      → IsChosen facts taken row.length row.choice p.address → p ≡ row_place row p.address
      → IsUntaken taken p
  here_open taken row p chosen same =
      let size = ap (λ (x : Place). x.length) same in
      λ b low high. chosen_open taken row.length row.choice p.address chosen b low (omega arith)

  -- what is open beside more is open beside less
  less_open : (range : Range ℕ) (taken : List (Range ℕ)) (p : Place)
      → IsUntaken (put_in range taken) p
      → IsUntaken taken p
  less_open range taken p h =
      λ b low high. (put_from range_key (λ r. ¬ IsIn r b) range taken (h b low high)).1

  pub all_open : (taken : List (Range ℕ)) (rows : List Row) (ps : List Place)
      → ArePlaced facts taken rows ps → All (IsUntaken taken) ps
  all_open taken [] [] a = All-nil (IsUntaken taken)
  all_open taken [] (p ∷ ps) a = absurd a
  all_open taken (row ∷ rows) [] a = absurd a
  all_open taken (row ∷ rows) (p ∷ ps) a =
      let rest = all_open (put_in (place_range p) taken) rows ps a.2 in
      All-cons (IsUntaken taken) p ps (here_open taken row p a.0 a.1)
      (λ k d within. less_open (place_range p) taken (get_or ps k d) (rest k d within))

  first_apart : (taken : List (Range ℕ)) (p q : Place) → IsUntaken (put_in (place_range p) taken) q
      → IsApart p q
  first_apart taken p q h =
      λ a in_p in_q.
      (put_from range_key (λ r. ¬ IsIn r a) (place_range p) taken (h a in_q.0 in_q.1)).0 in_p

  pub all_apart : (taken : List (Range ℕ)) (rows : List Row) (ps : List Place)
      → ArePlaced facts taken rows ps → AllPairs IsApart ps
  all_apart taken [] [] a = λ i j d less within. absurd (omega arith)
  all_apart taken [] (p ∷ ps) a = absurd a
  all_apart taken (row ∷ rows) [] a = absurd a
  all_apart taken (row ∷ rows) (p ∷ ps) a =
      let rest = all_open (put_in (place_range p) taken) rows ps a.2 in
      AllPairs-cons IsApart p ps (λ k e k_in. first_apart taken p (get_or ps k e) (rest k e k_in))
      (all_apart (put_in (place_range p) taken) rows ps a.2)

  pub as_many : (taken : List (Range ℕ)) (rows : List Row) (ps : List Place)
      → ArePlaced facts taken rows ps → length ps ≡ length rows
  as_many taken [] [] a = refl
  as_many taken [] (p ∷ ps) a = absurd a
  as_many taken (row ∷ rows) [] a = absurd a
  as_many taken (row ∷ rows) (p
      ∷ ps) a = ap suc (as_many (put_in (place_range p) taken) rows ps a.2)

  pub of_rows : (taken : List (Range ℕ)) (rows : List Row) (ps : List Place)
      → ArePlaced facts taken rows ps → AllZip IsPlaceOf rows ps
  of_rows taken [] [] a = tt
  of_rows taken [] (p ∷ ps) a = absurd a
  of_rows taken (row ∷ rows) [] a = absurd a
  of_rows taken (row ∷ rows) (p ∷ ps) a = (
    record {
      role = ap (λ (x : Place). x.role) a.1;
      index = ap (λ (x : Place). x.index) a.1;
      length = ap (λ (x : Place). x.length) a.1;
    },
    of_rows (put_in (place_range p) taken) rows ps a.2,
  )
