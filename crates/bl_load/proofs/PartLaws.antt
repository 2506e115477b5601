-- The parts that are handed over are not empty, usable, and apart.
use Rattle.std.proofs.Common.{◌≡◌, ◌≤◌, ℕ, Bool, List, [], ◌∷◌, length, get_or, map, arith, sym, ap}
use Rattle.std.proofs.Common.{subst, refl, ◌∙◌, All, AllPairs, length-append}
use Rattle.std.proofs.lemmas.List.{length-replicate}
use Rattle.std.proofs.lemmas.List.Elements.{All-map, All-head, All-tail}
use Rattle.std.proofs.lemmas.List.Sums.{sum_by-cons}
use Rattle.std.specs.Prelude.{cond}
use Rattle.std.specs.List.{AllZip, count_by}
use Rattle.bl_map.specs.MachineFacts.{MachineFacts, AllUsable}
use Rattle.bl_plan.specs.Permitted.{AreUnavoided}
use Rattle.bl_plan.specs.Placed.{IsPlaceable, IsUnavoided, IsPlaceOf, IsWellFormedRow}
use Rattle.bl_plan.specs.declared.part.Place.{Place}
use Rattle.bl_plan.specs.declared.part.Role.{Role}
use Rattle.bl_plan.specs.declared.part.Row.{Row}
use Rattle.bl_plan.proofs.PlaceLaws as places_laws
use Rattle.bl_load.specs.EntryValue.{EntryValue}
use Rattle.bl_load.specs.Rows.{rows_of}
use Rattle.bl_load.specs.internal.Placing.{HasRowLength}
use Rattle.bl_plan.specs.AddressOrder.{place_key, places_in_order}
use Rattle.bl_load.specs.Handover.{Part, Handover, zero_padded, end_of}
use Rattle.bl_load.specs.Parts.{IsHandover, part_from}
use Rattle.bl_load.proofs.HeldLemmas.{AllPairs-map}
use Rattle.bl_plan.proofs.OrderLemmas.{in_order_all}
use Rattle.bl_plan.proofs.OrderCountLemmas.{sum_by-in_order}
use Rattle.bl_load.proofs.ReadingLaws.{reading_rows, reading_rowed, reading_short}
use Rattle.bl_load.proofs.PlaceBoundLemmas.{are_filled, in_order_ascends}

length-filled : (count : ℕ) (content : List ℕ) → length content ≤ count
    → length (zero_padded count content) ≡ count
length-filled count content short = rw (length-append, length-replicate) (omega arith)

abbrev counted : Bool → ℕ
counted b = cond b 1 0

-- as many are counted where each is counted alike
count_alike : {X Y : Type 0} (p : Y → Bool) (q : X → Bool) (f : X → Y) (xs : List X)
    → All (λ x. p (f x) ≡ q x) xs → count_by p (map f xs) ≡ count_by q xs
count_alike p q f [] alike = refl
count_alike p q f (x ∷ xs) alike =
    let here = All-head (λ y. p (f y) ≡ q y) x xs alike in
    let rest = count_alike p q f xs (All-tail (λ y. p (f y) ≡ q y) x xs alike) in
    let one : counted (p (f x)) ≡ counted (q x) = ap counted here in
    omega (
      arith,
      one,
      rest,
      sum_by-cons (λ y. cond (p y) 1 0) (f x) (map f xs),
      sum_by-cons (λ y. cond (q y) 1 0) x xs,
    )

-- a test of a role, an index and a length
abbrev Test : Type 0
Test = Role → ℕ → ℕ → Bool

count_rows : (p : Test) (rows : List Row) (places : List Place) → AllZip IsPlaceOf rows places
    → count_by (λ (place : Place). p place.role place.index place.length) places
    ≡ count_by (λ (row : Row). p row.role row.index row.length) rows
count_rows p [] [] of = refl
count_rows p [] (place ∷ places) of = absurd of
count_rows p (row ∷ rows) [] of = absurd of
count_rows p (row ∷ rows) (place ∷ places) of =
    let is = of.0 in
    let rest = count_rows p rows places of.1 in
    let one : counted (p place.role place.index place.length)
    ≡ counted (p row.role row.index row.length) =
    rw (is.role, is.index, is.length) refl in
    omega (
      arith,
      one,
      rest,
      sum_by-cons
          (λ (at : Place). cond (p at.role at.index at.length) 1 0) place places,
      sum_by-cons (λ (each : Row). cond (p each.role each.index each.length) 1 0) row rows,
    )

module _ (facts : MachineFacts) (value : EntryValue) (h : Handover) (is : IsHandover facts value h)
  where
    rows : List Row
    rows = rows_of facts value is.reading

    sorted : List Place
    sorted = places_in_order is.places

    part : Place → Part
    part = part_from facts value is.reading is.places

    are_rows : All IsWellFormedRow rows
    unfolding rows
    are_rows = reading_rows facts value is.reading is.read

    parts_are : h.parts ≡ map part sorted
    unfolding part sorted
    parts_are = ap (λ (x : Handover). x.parts) is.is

    places_filled : All (λ (p : Place). 1 ≤ p.length) is.places
    unfolding rows
    places_filled = are_filled facts [] rows is.places is.placed are_rows

    all_sized : All (λ (p : Place). length (part p).bytes ≡ p.length) sorted
    unfolding sorted part
    all_sized k d within =
        let place = get_or sorted k d in
        let rowed =
        in_order_all place_key (HasRowLength facts value is.reading) is.places
        (reading_rowed facts value is.reading is.places is.placed) k d within in
        length-filled place.length
        _ (reading_short facts value is.reading is.places place is.lines is.read rowed)

    sorted_filled : All (λ (p : Place). 1 ≤ p.length) sorted
    unfolding sorted
    sorted_filled = in_order_all place_key (λ (p : Place). 1 ≤ p.length) is.places places_filled

    sorted_usable : All (IsPlaceable facts) sorted
    unfolding sorted rows
    sorted_usable =
        in_order_all place_key (IsPlaceable facts) is.places
        (places_laws.all_usable facts [] rows is.places is.placed)

    sorted_unavoided : All (IsUnavoided facts) sorted
    unfolding sorted rows
    sorted_unavoided =
        in_order_all place_key (IsUnavoided facts) is.places
        (places_laws.all_unavoided facts [] rows is.places is.placed)

    pub all_filled : All (λ (p : Part). 1 ≤ length p.bytes) h.parts
    all_filled =
        subst (All (λ (p : Part). 1 ≤ length p.bytes)) (sym parts_are)
        (All-map (λ (p : Part). 1 ≤ length p.bytes) part sorted
        (λ k d within. let size = all_sized k d within in
        let some = sorted_filled k d within in omega arith))

    pub all_usable : All (λ (p : Part). AllUsable facts p.address (end_of p)) h.parts
    unfolding part
    all_usable =
        subst (All (λ (p : Part). AllUsable facts p.address (end_of p))) (sym parts_are)
        (All-map (λ (p : Part). AllUsable facts p.address (end_of p)) part sorted
        (λ k d within. λ a low high. let size = all_sized k d within in
        sorted_usable k d within a low (omega arith)))

    pub all_unavoided : All (λ (p : Part). AreUnavoided facts p.address (end_of p))
        h.parts
    unfolding part
    all_unavoided =
        subst (All (λ (p : Part). AreUnavoided facts p.address (end_of p)))
        (sym parts_are)
        (All-map (λ (p : Part). AreUnavoided facts p.address (end_of p)) part sorted
        (λ k d within. λ a low high. let size = all_sized k d within in
        sorted_unavoided k d within a low (omega arith)))

    pub all_apart : AllPairs (λ (p q : Part). end_of p ≤ q.address) h.parts
    unfolding part sorted rows
    all_apart =
        subst (AllPairs (λ (p q : Part). end_of p ≤ q.address)) (sym parts_are)
        (AllPairs-map (λ (p q : Part). end_of p ≤ q.address) part sorted (λ i j d ij within.
        let size = all_sized i d (omega arith) in
        let up =
        in_order_ascends is.places places_filled
        (places_laws.all_apart facts [] rows is.places is.placed) i j d ij within in
        omega arith))

    sized_alike : (p : Test)
        → All (λ (place : Place).
        p (part place).role (part place).index (length (part place).bytes)
        ≡ p place.role place.index place.length) sorted
    unfolding part
    sized_alike p k d within =
        let place = get_or sorted k d in
        ap (λ (n : ℕ). p place.role place.index n) (all_sized k d within)

    -- as many parts as rows pass each test, so the parts are those of the rows
    pub parts_of_rows : (p : Test)
        → count_by (λ (part : Part). p part.role part.index (length part.bytes)) h.parts
        ≡ count_by (λ (row : Row). p row.role row.index row.length) (rows_of facts value is.reading)
    unfolding sorted rows
    parts_of_rows p =
        ap (count_by (λ (part : Part). p part.role part.index (length part.bytes))) parts_are
        ∙ count_alike (λ (part : Part). p part.role part.index (length part.bytes))
        (λ (place : Place). p place.role place.index place.length) part sorted (sized_alike p)
        ∙ sum_by-in_order place_key
        (λ (place : Place). cond (p place.role place.index place.length) 1 0) is.places
        ∙ count_rows p rows is.places
        (places_laws.of_rows facts [] rows is.places is.placed)
