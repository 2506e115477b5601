-- The bytes of parts are taken, piece after piece.
use Rattle.std.proofs.Common.{◌≡◌, ℕ, ◌+◌, ◌-◌, ◌<◌, ◌≤◌, ◌^◌, List, [], ◌∷◌, ◌++◌, length, zero, suc}
use Rattle.std.proofs.Common.{get_or, set, take, drop, map, All, AllPairs, arith, refl, sym, ap, ◌∙◌}
use Rattle.std.proofs.Common.{append_assoc, length-append, length-drop, subst}
use Rattle.std.proofs.lemmas.List.{append-nil, take_all, take_at, drop_at, length-map}
use Rattle.std.proofs.lemmas.List.{take_more, take_more_set, map-append, drop_more}
use Rattle.std.proofs.Math.Seq.{map-set_same, take-add}
use Rattle.std.proofs.Math.ListN.{get_or-map}
use Rattle.sha2.specs.Sha256.{sha256}
use Rattle.bl_plan.specs.declared.part.Place.{Place}
use Rattle.bl_load.specs.HandoffFacts.{Ascends}
use Rattle.bl_digest.specs.declared.part_digest.PartDigest.{PartDigest}
use Rattle.bl_digest.specs.internal.Hashing.{total_of, first_length, part_digests, told_place}
use Rattle.bl_digest.specs.internal.Hashing.{IsInside, AreBegun, PartsFacts}

-- ---- lengths

total_from : (low : ℕ) (places : List Place) → low ≤ 2 ^ 32
    → All (λ p. low ≤ p.address) places → AllPairs Ascends places
    → All (λ p. p.address + p.length ≤ 2 ^ 32) places
    → low + total_of places ≤ 2 ^ 32
total_from low [] within above ascend below = omega arith
total_from low (p ∷ places) within above ascend below =
    let up : low ≤ p.address = above 0 p (omega arith) in
    let end : p.address + p.length ≤ 2 ^ 32 = below 0 p (omega arith) in
    let rest =
    total_from (p.address + p.length) places end
    (λ k d h. ascend 0 (suc k) d (omega arith) (omega arith))
    (λ i j d ij h. ascend (suc i) (suc j) d (omega arith) (omega arith))
    (λ k d h. below (suc k) d (omega arith)) in
    omega (arith, rest)

-- the parts of a handoff have at most 4 GiB
pub total_within : (places : List Place) → AllPairs Ascends places
    → All (λ p. p.address + p.length ≤ 2 ^ 32) places → total_of places ≤ 2 ^ 32
total_within places ascend below =
    let all =
    total_from 0 places (omega arith) (λ k d h. omega arith) ascend below in
    omega (arith, all)

pub total_append : (xs ys : List Place) → total_of (xs ++ ys) ≡ total_of xs + total_of ys
total_append [] ys = omega arith
total_append (x ∷ xs) ys = omega (arith, total_append xs ys)

-- the places up to one are no longer than all
pub total_upto : (places : List Place) (i : ℕ) (d : Place) → i < length places
    → total_of (take i places) + (get_or places i d).length ≤ total_of places
total_upto [] i d h = absurd (omega arith)
total_upto (p ∷ places) zero d h = omega arith
total_upto (p ∷ places) (suc i) d h = omega (arith, total_upto places i d (omega arith))

pub total_more : (places : List Place) (i : ℕ) (d : Place) → i < length places
    → total_of (take (i + 1) places) ≡ total_of (take i places) + (get_or places i d).length
total_more places i d h =
    ap total_of (take_more places i d h)
    ∙ total_append (take i places) (get_or places i d ∷ [])
    ∙ omega arith

-- ---- where the taking stands

pub inside_first : (places : List Place) → All (λ p. 1 ≤ p.length) places
    → IsInside places [] (first_length places) (total_of places)
inside_first [] filled = (refl, refl, refl)
inside_first (p ∷ places) filled = (filled 0 p (omega arith), omega arith, refl)

inside_more : (places : List Place) (begun piece : List ℕ) (left room : ℕ)
    → IsInside places begun left room → length piece < left
    → IsInside places (begun ++ piece) (left - length piece) (room - length piece)
inside_more [] begun piece left room is short =
    let none : left ≡ 0 = is.1 in absurd (omega arith)
inside_more (p ∷ places) begun piece left room is short =
    let size : length begun + left ≡ p.length = is.1 in
    let all : left + total_of places ≡ room = is.2 in
    (omega arith, omega (arith, length-append begun piece), omega arith)

-- what is left of a part is left of all
pub left_within : (places : List Place) (begun : List ℕ) (left room : ℕ)
    → IsInside places begun left room → left ≤ room
left_within [] begun left room is =
    let none : left ≡ 0 = is.1 in omega arith
left_within (p ∷ places) begun left room is =
    let all : left + total_of places ≡ room = is.2 in omega arith

-- some of a part is left if some of all is
pub left_some : (places : List Place) (begun : List ℕ) (left room : ℕ)
    → IsInside places begun left room → 1 ≤ room → 1 ≤ left
left_some [] begun left room is some =
    let none : room ≡ 0 = is.2 in absurd (omega arith)
left_some (p ∷ places) begun left room is some = is.0

-- and then there is a part
part_there : (places : List Place) (index : ℕ) (begun : List ℕ) (left room : ℕ)
    → IsInside (drop index places) begun left room → 1 ≤ left → index < length places
part_there [] zero begun left room is some =
    let none : left ≡ 0 = is.1 in absurd (omega arith)
part_there [] (suc index) begun left room is some =
    let none : left ≡ 0 = is.1 in absurd (omega arith)
part_there (p ∷ places) zero begun left room is some = omega arith
part_there (p ∷ places) (suc index) begun left room is some =
    omega (arith, part_there places index begun left room is some)

-- nothing is left of all
none_inside : (places : List Place) (begun : List ℕ) (left : ℕ) → IsInside places begun left 0
    → (begun ≡ []) × (places ≡ [])
none_inside [] begun left is = (is.0, refl)
none_inside (p ∷ places) begun left is =
    let some : 1 ≤ left = is.0 in
    let all : left + total_of places ≡ 0 = is.2 in absurd (omega arith)

-- the part that is taken ends
inside_next : (p : Place) (places : List Place) (begun : List ℕ) (left room : ℕ)
    → All (λ q. 1 ≤ q.length) places → IsInside (p ∷ places) begun left room
    → IsInside places [] (first_length places) (room - left)
inside_next p places begun left room filled is =
    let all : left + total_of places ≡ room = is.2 in
    let same : total_of places ≡ room - left = omega arith in
    subst (λ (n : ℕ). IsInside places [] (first_length places) n) same (inside_first places filled)

-- ---- rows

row_is : (row : PartDigest) (place : Place) (hash : List ℕ) → row.place ≡ place
    → row.sha256 ≡ hash → row ≡ record { place = place; sha256 = hash }
row_is row place hash placed hashed =
    ap (λ (p : Place). record { place = p; sha256 = row.sha256 }) placed
    ∙ ap (λ (l : List ℕ). record { place = place; sha256 = l }) hashed

-- what holds of all holds of those behind
all_behind : {X : Type 0} (P : X → Type 0) (n : ℕ) (xs : List X) → All P xs → All P (drop n xs)
all_behind P zero xs h = h
all_behind P (suc n) [] h = h
all_behind P (suc n) (x ∷ xs) h =
    all_behind P n xs (λ k d within. h (suc k) d (omega arith))

module _ (rows : List PartDigest) (index : ℕ) (begun : List ℕ) (left room : ℕ) (taken : List ℕ)
    (is : AreBegun rows index begun left room taken) where
  pub room_is : length taken + room ≡ total_of (map told_place rows)
  room_is = is.count

  pub has_left : 1 ≤ room → 1 ≤ left
  has_left some = left_some (drop index (map told_place rows)) begun left room is.inside some

  pub left_short : left ≤ room
  left_short = left_within (drop index (map told_place rows)) begun left room is.inside

  pub has_row : 1 ≤ left → index < length rows
  has_row some =
      let there =
      part_there (map told_place rows) index begun left room is.inside some in
      omega (arith, there, length-map rows told_place)

  -- a piece that does not end the part
  pub begun_more : (piece : List ℕ) → length piece < left
      → AreBegun rows index (begun ++ piece) (left - length piece) (room - length piece)
      (taken ++ piece)
  begun_more piece short =
      let within : left ≤ room = left_short in
      let count : length taken + room ≡ total_of (map told_place rows) = is.count in
      record {
        digests = λ more.
            ap (part_digests (map told_place rows)) (append_assoc taken piece more)
            ∙ is.digests (piece ++ more)
            ∙ ap
            (λ (l : List ℕ). take index rows ++ part_digests (drop index (map told_place rows)) l)
            (sym (append_assoc begun piece more));
        inside =
            inside_more (drop index (map told_place rows)) begun piece left room is.inside short;
        filled = is.filled;
        count = omega (arith, length-append taken piece);
      }

  -- all was taken
  pub all_begun : length taken ≡ total_of (map told_place rows)
      → rows ≡ part_digests (map told_place rows) taken
  all_begun all =
      let places : List Place = map told_place rows in
      let none : room ≡ 0 = omega (arith, is.count) in
      let end =
      none_inside (drop index places) begun left
      (subst (IsInside (drop index places) begun left) none is.inside) in
      let count = ap length end.1 in
      let behind : length rows ≤ index =
      omega (arith, length-map rows told_place, length-drop index places) in
      sym
      (ap (part_digests places) (sym (append-nil taken))
      ∙ is.digests []
      ∙ ap (λ (l : List Place). take index rows ++ part_digests l (begun ++ [])) end.1
      ∙ append-nil (take index rows)
      ∙ take_all index rows behind)

  -- a piece that ends the part, whose row gets its digest
  pub part_ended : (piece : List ℕ) (d row : PartDigest) → length piece ≡ left → 1 ≤ left
      → row.place ≡ (get_or rows index d).place → row.sha256 ≡ sha256 (begun ++ piece)
      → AreBegun (set rows index row) (index + 1) []
      (first_length (drop (index + 1) (map told_place (set rows index row)))) (room - left)
      (taken ++ piece)
  part_ended piece d row whole some placed hashed =
      let places : List Place = map told_place rows in
      let place : Place = (get_or rows index d).place in
      let rest : List Place = drop (index + 1) places in
      let inside : index < length rows = has_row some in
      let within : left ≤ room = left_short in
      let total : length taken + room ≡ total_of places = is.count in
      let count = length-map rows told_place in
      let same : places ≡ map told_place (set rows index row) =
      sym (map-set_same told_place rows index row d placed) in
      let at : get_or places index (told_place d) ≡ place = get_or-map told_place rows index d in
      let next : drop index places ≡ place ∷ rest =
      drop_more places index (told_place d) (omega arith)
      ∙ ap (λ (p : Place). p ∷ rest) at in
      let here : IsInside (place ∷ rest) begun left room =
      subst (λ (l : List Place). IsInside l begun left room) next is.inside in
      let size : length (begun ++ piece) ≡ place.length =
      omega (arith, length-append begun piece, here.1) in
      let made : record { place = place; sha256 = sha256 (begun ++ piece) } ≡ row =
      sym (row_is row place (sha256 (begun ++ piece)) placed hashed) in
      let first : List PartDigest = take index rows in
      let digests : (more : List ℕ) → part_digests places ((taken ++ piece) ++ more)
      ≡ take (index + 1) (set rows index row) ++ part_digests rest more =
      λ (more : List ℕ).
      ap (part_digests places) (append_assoc taken piece more)
      ∙ is.digests (piece ++ more)
      ∙ ap (λ (l : List Place). first ++ part_digests l (begun ++ (piece ++ more))) next
      ∙ ap (λ (l : List ℕ). first ++ part_digests (place ∷ rest) l)
      (sym (append_assoc begun piece more))
      ∙ ap
      (λ (l : List ℕ).
      first
      ++ record { place = place; sha256 = sha256 l }
      ∷ part_digests rest (drop place.length ((begun ++ piece) ++ more)))
      (take_at (begun ++ piece) more place.length size)
      ∙ ap
      (λ (l : List ℕ).
      first ++ record { place = place; sha256 = sha256 (begun ++ piece) } ∷ part_digests rest l)
      (drop_at (begun ++ piece) more place.length size)
      ∙ ap (λ (r : PartDigest). first ++ r ∷ part_digests rest more) made
      ∙ sym (append_assoc first (row ∷ []) (part_digests rest more))
      ∙ ap (λ (l : List PartDigest). l ++ part_digests rest more)
      (sym (take_more_set rows index row inside)) in
      record {
        digests = subst
            (λ (l : List Place). (more : List ℕ) → part_digests l ((taken ++ piece) ++ more)
            ≡ take (index + 1) (set rows index row) ++ part_digests (drop (index + 1) l) more)
            same digests;
        inside = subst
            (λ (l : List Place).
            IsInside (drop (index + 1) l) [] (first_length (drop (index + 1) l)) (room - left))
            same
            (inside_next place rest begun left room
            (all_behind (λ (p : Place). 1 ≤ p.length) (index + 1) places is.filled) here);
        filled = subst (All (λ (p : Place). 1 ≤ p.length)) same is.filled;
        count = subst
            (λ (l : List Place). length (taken ++ piece) + (room - left) ≡ total_of l) same
            (omega (arith, length-append taken piece));
      }

-- before the first byte is taken
pub begun_first : (rows : List PartDigest) (places : List Place) (begun taken : List ℕ)
    (left room : ℕ) → map told_place rows ≡ places → begun ≡ [] → taken ≡ []
    → left ≡ first_length (map told_place rows) → room ≡ total_of places
    → All (λ p. 1 ≤ p.length) places → AreBegun rows 0 begun left room taken
begun_first rows places begun taken left room are none_begun none_taken left_is room_is filled =
    let all : All (λ p. 1 ≤ p.length) (map told_place rows) =
    subst (All (λ (p : Place). 1 ≤ p.length)) (sym are) filled in
    let total : total_of (map told_place rows) ≡ total_of places = ap total_of are in
    let inside : IsInside (map told_place rows) [] (first_length (map told_place rows))
    (total_of (map told_place rows)) = inside_first (map told_place rows) all in
    let here : IsInside (map told_place rows) [] left room =
    subst (λ (n : ℕ). IsInside (map told_place rows) [] left n) (total ∙ sym room_is)
    (subst (λ (n : ℕ). IsInside (map told_place rows) [] n (total_of (map told_place rows)))
    (sym left_is) inside) in
    record {
      digests = λ more.
          ap (λ (l : List ℕ). part_digests (map told_place rows) (l ++ more)) none_taken
          ∙ ap (λ (l : List ℕ). part_digests (map told_place rows) (l ++ more)) (sym none_begun);
      inside = subst (λ (l : List ℕ). IsInside (map told_place rows) l left room) (sym none_begun) here;
      filled = all;
      count =
          let none : length taken ≡ 0 = ap length none_taken in omega arith;
    }

-- as `part_ended`, of what the code has then
pub part_ended_as : (rows rows' : List PartDigest) (index : ℕ) (begun begun' : List ℕ)
    (left left' room room' : ℕ) (taken taken' piece : List ℕ) (row d : PartDigest)
    → AreBegun rows index begun left room taken → 1 ≤ left → length piece ≡ left
    → rows' ≡ set rows index row → row.place ≡ (get_or rows index d).place
    → row.sha256 ≡ sha256 (begun ++ piece) → begun' ≡ []
    → left' ≡ first_length (drop (index + 1) (map told_place rows')) → room' ≡ room - left
    → taken' ≡ taken ++ piece → AreBegun rows' (index + 1) begun' left' room' taken'
part_ended_as rows rows' index begun begun' left left' room room' taken taken' piece row d is some
    whole rows_are placed hashed begun_is left_is room_is taken_is =
    let ended =
    part_ended rows index begun left room taken is piece d row whole some placed hashed in
    rw (rows_are, begun_is, room_is, taken_is, left_is, rows_are) ended

-- a row more
pub rows_more : (places : List Place) (rows rows' : List PartDigest) (i : ℕ) (row : PartDigest)
    → map told_place rows ≡ take i places → rows' ≡ rows ++ row ∷ []
    → row.place ≡ get_or places i row.place → i < length places
    → map told_place rows' ≡ take (i + 1) places
rows_more places rows rows' i row are more is inside =
    ap (map told_place) more
    ∙ map-append told_place rows (row ∷ [])
    ∙ ap (λ (l : List Place). l ++ row.place ∷ []) are
    ∙ ap (λ (p : Place). take i places ++ p ∷ []) is
    ∙ sym (take_more places i row.place inside)

-- what a row is long, is how long the first of the places from it on is
pub first_at : (rows : List PartDigest) (i : ℕ) (row : PartDigest) → i < length rows
    → row ≡ get_or rows i row → row.place.length ≡ first_length (drop i (map told_place rows))
first_at rows i row inside is =
    let count = length-map rows told_place in
    sym
    (ap first_length (drop_more (map told_place rows) i row.place (omega arith))
    ∙ ap (λ (p : Place). p.length) (get_or-map told_place rows i row)
    ∙ ap (λ (r : PartDigest). r.place.length) (sym is))

-- the next bytes of a piece
pub piece_more : (taken bytes : List ℕ) (done n : ℕ)
    → (taken ++ take done bytes) ++ take n (drop done bytes) ≡ taken ++ take (done + n) bytes
piece_more taken bytes done n =
    append_assoc taken (take done bytes) (take n (drop done bytes))
    ∙ ap (λ (l : List ℕ). taken ++ l) (sym (take-add done n bytes))

pub same_facts : (places places' : List Place) (taken taken' : List ℕ) → places ≡ places'
    → taken ≡ taken'
    → ◌≡◌ {A = PartsFacts} (record { places = places; taken = taken })
    (record { places = places'; taken = taken' })
same_facts places places' taken taken' places_are taken_is =
    ap (λ (l : List Place). record { places = l; taken = taken }) places_are
    ∙ ap (λ (l : List ℕ). record { places = places'; taken = l }) taken_is
