-- The line of a Linux kernel in its part: its text, and zeros after it.
use Rattle.std.proofs.Common.{◌≡◌, ◌+◌, ◌-◌, ◌<◌, ◌≤◌, ℕ, suc, Bool, true, false, List, ◌∷◌, ◌++◌}
use Rattle.std.proofs.Common.{length, drop, get_or, replicate, Some, nat_lt, refl, sym, ap, ap₂}
use Rattle.std.proofs.Common.{◌∙◌, arith, subst, All, AllPairs, length-append}
use Rattle.std.specs.Prelude.{◌==◌}
use Rattle.std.specs.List.{list_any, position_or_len}
use Rattle.std.proofs.lemmas.Bool.{lt-ltb, ne_eqb, eqb-true}
use Rattle.std.proofs.lemmas.List.{get_or-map, get_or_append_left, length-map, length-replicate}
use Rattle.std.proofs.lemmas.List.{take_at}
use Rattle.std.proofs.lemmas.List.Folds.{Any-from_list_any}
use Rattle.std.proofs.lemmas.List.Sums.{position_or_len_is}
use Rattle.std.proofs.Math.Seq.{get_or-append_seam}
use Rattle.bl_mbi.specs.InfoToWriteFacts.{IsText}
use Rattle.bl_plan.specs.AddressOrder.{places_in_order, place_key}
use Rattle.bl_plan.specs.declared.part.Place.{Place}
use Rattle.bl_plan.specs.declared.part.Role.{Role}
use Rattle.bl_plan.proofs.OrderLemmas.{in_order_all}
use Rattle.bl_plan.proofs.OrderCountLemmas.{list_any-in_order}
use Rattle.bl_load.specs.Addresses.{address_of}
use Rattle.bl_load.specs.Handover.{end_of, zero_padded}
use Rattle.bl_walk.specs.PartBytes.{rest_in}
use Rattle.bl_walk.specs.Seen.{text_to_zero}
use Rattle.bl_walk.proofs.RangeLemmas.{some_rest_in}
use Rattle.bl_walk.proofs.PartLemmas.{is_of, is_at, part_of, parts_of, found_there, address_held}
use Rattle.bl_walk.proofs.PartLemmas.{both_true, same_role}

-- what stands from the first byte on
whole : (bytes : List ℕ) (a b : ℕ) → a ≡ b → drop (a - b) bytes ≡ bytes
whole bytes a b same = let none : a - b ≡ 0 = omega arith in rw none refl

-- the place of a role and an index has this length
abbrev pub IsLong : Role → ℕ → ℕ → Place → Type 0
IsLong role index size place = is_of role index place ≡ true → place.length ≡ size

module _ (places : List Place) (content : Role → ℕ → List ℕ)
    (apart : AllPairs (λ p q. end_of p ≤ q.address) (parts_of places content)) where
  rest_at : (role : Role) (index size k : ℕ) (q : Place) → k < length (places_in_order places)
      → get_or (places_in_order places) k q ≡ q
      → is_at role index (address_of role index places) q ≡ true → IsLong role index size q
      → 1 ≤ size
      → rest_in (parts_of places content) (address_of role index places)
      ≡ Some (zero_padded size (content role index))
  rest_at role index size k q within is passes long some =
      let parts = parts_of places content in
      let address = address_of role index places in
      let split = both_true _ _ passes in
      let names = both_true _ _ split.0 in
      let stands : q.address ≡ address = eqb-true q.address address split.1 in
      let of_role : q.role ≡ role = same_role q.role role (eqb-true _ _ names.0) in
      let of_index : q.index ≡ index = eqb-true q.index index names.1 in
      let held : content q.role q.index ≡ content role index = ap₂ content of_role of_index in
      let part = part_of content q in
      let here : get_or parts k part ≡ part =
      get_or-map (part_of content) (places_in_order places) k q part within
      ∙ ap (part_of content) is in
      let many : length parts ≡ length (places_in_order places) =
      length-map (places_in_order places) (part_of content) in
      let sized : q.length ≡ size = long split.0 in
      let zeros = length-replicate {A = ℕ} (q.length - length (content q.role q.index)) 0 in
      let sum =
      length-append (content q.role q.index)
      (replicate (q.length - length (content q.role q.index)) 0) in
      let low : (get_or parts k part).address ≤ address = rw here (omega arith) in
      let high : address + 1 ≤ end_of (get_or parts k part) =
      rw here (omega (arith, sum, zeros, sized)) in
      let found =
      found_there parts address 1 k part apart (omega arith) (omega arith) low high
      ∙ ap Some here in
      some_rest_in parts address part found
      ∙ ap Some (whole part.bytes address q.address (sym stands) ∙ ap₂ zero_padded sized held)

  -- the part of a role and an index, from its first byte on
  pub held_rest : (role : Role) (index size : ℕ) → list_any (is_of role index) places ≡ true
      → All (IsLong role index size) places → 1 ≤ size
      → rest_in (parts_of places content) (address_of role index places)
      ≡ Some (zero_padded size (content role index))
  held_rest role index size held long some =
      let test = is_at role index (address_of role index places) in
      let any =
      Any-from_list_any test (places_in_order places)
      (list_any-in_order place_key test places ∙ address_held role index places held) in
      let sorted = in_order_all place_key (IsLong role index size) places long in
      let one = subst (IsLong role index size) any.3 (sorted any.0 any.1 any.2) in
      rest_at role index size any.0 any.1 any.2 any.3 any.4 one some

-- ---- the text

-- the first zero stands after it
zero_behind : (line rest : List ℕ) → IsText line
    → position_or_len (λ b. b == 0) (line ++ 0 ∷ rest) ≡ length line
zero_behind line rest text =
    let p : ℕ → Bool = λ b. b == 0 in
    let size = length-append line (0 ∷ rest) in
    let before : (k : ℕ) → k < length line → p (get_or (line ++ 0 ∷ rest) k 0) ≡ false =
    λ k lt.
    ap p (get_or_append_left line (0 ∷ rest) 0 k lt)
    ∙ ne_eqb (get_or line k 0) 0 (text k 0 lt).0 in
    position_or_len_is p (line ++ 0 ∷ rest) (length line) 0 (omega (arith, size)) before
    (λ lt. ap p (get_or-append_seam line 0 rest 0))

text_before : (line rest : List ℕ) → IsText line → text_to_zero (line ++ 0 ∷ rest) ≡ Some line
unfolding text_to_zero
text_before line rest text =
    let size = length-append line (0 ∷ rest) in
    let within : nat_lt (length line) (length (line ++ 0 ∷ rest)) ≡ true =
    lt-ltb (length line) (length (line ++ 0 ∷ rest)) (omega (arith, size)) in
    rw (zero_behind line rest text, within) (ap Some (take_at line (0 ∷ rest) (length line) refl))

pub line_shown : (line : List ℕ) (size : ℕ) → IsText line → length line < size
    → text_to_zero (zero_padded size line) ≡ Some line
line_shown line size text short =
    let next : size - length line ≡ suc (size - length line - 1) = omega arith in
    ap (λ (n : ℕ). text_to_zero (line ++ replicate n 0)) next
    ∙ text_before line (replicate (size - length line - 1) 0) text
