-- The bytes of the part of a role and an index, where parts stand at places in address order.
use Rattle.std.proofs.Common.{◌≡◌, ◌+◌, ◌-◌, ◌<◌, ◌≤◌, ◌&&◌, ◌||◌, ℕ, Bool, true, false, List, []}
use Rattle.std.proofs.Common.{◌∷◌, ◌++◌, map, length, take, get_or, slice_range, replicate, Some}
use Rattle.std.proofs.Common.{nat_eq, cond, refl, sym, ap, ap₂, ◌∙◌, inl, inr, arith, AllPairs}
use Rattle.std.proofs.Common.{length-append}
use Rattle.std.specs.List.{slice_get, position_or_len, list_any}
use Rattle.std.proofs.lemmas.Bool.{le-leb, eq-eqb, eqb-true, cases_order}
use Rattle.std.proofs.lemmas.List.{take-append-le, get_or-map, length-map}
use Rattle.std.proofs.lemmas.List.Folds.{find_at, Any-from_list_any}
use Rattle.std.proofs.lemmas.List.Sums.{position_or_len_is}
use Rattle.std.proofs.lemmas.Option.{slice_get-get_or}
use Rattle.bl_plan.specs.AddressOrder.{places_in_order, place_key}
use Rattle.bl_plan.specs.RoleNumbers.{role_number}
use Rattle.bl_plan.specs.declared.part.Place.{Place}
use Rattle.bl_plan.specs.declared.part.Role.{Role}
use Rattle.bl_plan.specs.declared.part.Role.TheVariants.{Kernel, Module, Information, BootParams}
use Rattle.bl_plan.specs.declared.part.Role.TheVariants.{CommandLine, Gdt, Initrd, PageTables}
use Rattle.bl_plan.proofs.OrderCountLemmas.{list_any-in_order}
use Rattle.bl_load.specs.Addresses.{address_of}
use Rattle.bl_load.specs.Handover.{Part, end_of, placed_part, zero_padded}
use Rattle.bl_walk.specs.PartBytes.{lies_in, part_with, bytes_in}
use Rattle.bl_walk.proofs.InsideLemmas.{lies-below}
use Rattle.bl_walk.proofs.RangeLemmas.{nothing_in, inside_in}

-- a part that holds a range is the one in which it lies
pub found_there : (parts : List Part) (address count k : ℕ) (d : Part)
    → AllPairs (λ p q. end_of p ≤ q.address) parts → k < length parts
    → 1 ≤ count → (get_or parts k d).address ≤ address → address + count ≤ end_of (get_or parts k d)
    → part_with parts address count ≡ Some (get_or parts k d)
unfolding part_with
found_there parts address count k d apart within some from upto =
    let p = lies_in address count in
    let lies : p (get_or parts k d) ≡ true =
    rw (
      le-leb (get_or parts k d).address address from,
      le-leb (address + count) (end_of (get_or parts k d)) upto,
    ) in
    let before : (j : ℕ) → j < k → p (get_or parts j d) ≡ false =
    λ j lt. let behind =
    apart j k d lt within in
    lies-below address count (get_or parts j d) some (omega arith) in
    let place : position_or_len p parts ≡ k =
    position_or_len_is p parts k d (omega arith) before (λ lt. lies) in
    find_at p parts ∙ ap (slice_get parts) place ∙ slice_get-get_or parts k d within

-- whether a place is that of a role and an index
abbrev pub is_of : Role → ℕ → Place → Bool
is_of role index place =
    nat_eq (role_number place.role) (role_number role) && nat_eq place.index index

-- and stands at an address
abbrev pub is_at : Role → ℕ → ℕ → Place → Bool
is_at role index address place = is_of role index place && nat_eq place.address address

-- the place that is found by role and index stands at its address
pub address_held : (role : Role) (index : ℕ) (places : List Place)
    → list_any (is_of role index) places ≡ true
    → list_any (is_at role index (address_of role index places)) places ≡ true
address_held role index [] held = held
address_held role index (p ∷ places) held =
    let rest = address_of role index places in
    let here = eq-eqb p.address p.address refl in
    elim (is_of role index p) as (λ b. is_of role index p ≡ b
    → (b || list_any (is_of role index) places) ≡ true
    → ((b && nat_eq p.address (cond b p.address rest))
    || list_any (is_at role index (cond b p.address rest)) places) ≡ true) [
      | true ↦ λ e h. rw here
      | false ↦ λ e h. address_held role index places h
    ] refl held

pub both_true : (a b : Bool) → (a && b) ≡ true → (a ≡ true) × (b ≡ true)
both_true true true h = (refl, refl)
both_true true false h = absurd (cc)
both_true false b h = absurd (cc)

-- roles are told by their numbers
role_by : ℕ → Role
role_by n =
    get_or
    (Kernel ∷ Kernel ∷ Module ∷ Information ∷ BootParams ∷ CommandLine ∷ Gdt ∷ Initrd ∷ PageTables ∷ [])
    n Kernel

role_again : (r : Role) → r ≡ role_by (role_number r)
unfolding role_by
role_again Kernel = refl
role_again Module = refl
role_again Information = refl
role_again BootParams = refl
role_again CommandLine = refl
role_again Gdt = refl
role_again Initrd = refl
role_again PageTables = refl

pub same_role : (r s : Role) → role_number r ≡ role_number s → r ≡ s
same_role r s e = role_again r ∙ ap role_by e ∙ sym (role_again s)

-- the front of what stands from an address on
front : (bytes rest : List ℕ) (a b n : ℕ) → a ≡ b → n ≤ length bytes
    → slice_range (bytes ++ rest) (a - b) (a - b + n) ≡ take n bytes
front bytes rest a b n same fits =
    let none : a - b ≡ 0 = omega arith in
    let all : 0 + n - 0 ≡ n = omega arith in
    rw (none, all) (take-append-le n bytes rest fits)

-- ---- parts at places

-- the part at a place: its content, and zeros after it
abbrev pub part_of : (Role → ℕ → List ℕ) → Place → Part
part_of content place = placed_part place (zero_padded place.length (content place.role place.index))

abbrev pub parts_of : List Place → (Role → ℕ → List ℕ) → List Part
parts_of places content = map (part_of content) (places_in_order places)

module _ (places : List Place) (content : Role → ℕ → List ℕ)
    (apart : AllPairs (λ p q. end_of p ≤ q.address) (parts_of places content)) where
  -- where a place stands in address order
  held_at : (role : Role) (index n k : ℕ) (q : Place) → k < length (places_in_order places)
      → get_or (places_in_order places) k q ≡ q
      → is_at role index (address_of role index places) q ≡ true → 1 ≤ n
      → n ≤ length (content role index)
      → bytes_in (parts_of places content) (address_of role index places) n
      ≡ Some (take n (content role index))
  held_at role index n k q within is passes some fits =
      let parts = parts_of places content in
      let address = address_of role index places in
      let split = both_true _ _ passes in
      let names = both_true _ _ split.0 in
      let stands : q.address ≡ address = eqb-true q.address address split.1 in
      let of_role : q.role ≡ role = same_role q.role role (eqb-true _ _ names.0) in
      let of_index : q.index ≡ index = eqb-true q.index index names.1 in
      let held : content q.role q.index ≡ content role index = ap₂ content of_role of_index in
      let part = part_of content q in
      let here : get_or parts k part ≡ part =
      get_or-map (part_of content) (places_in_order places) k q part within
      ∙ ap (part_of content) is in
      let many : length parts ≡ length (places_in_order places) =
      length-map (places_in_order places) (part_of content) in
      let long : n ≤ length (content q.role q.index) = omega (arith, ap length held) in
      let size =
      length-append (content q.role q.index)
      (replicate (q.length - length (content q.role q.index)) 0) in
      let low : (get_or parts k part).address ≤ address = rw here (omega arith) in
      let high : address + n ≤ end_of (get_or parts k part) = rw here (omega (arith, size)) in
      let found =
      found_there parts address n k part apart (omega arith) some low high ∙ ap Some here in
      inside_in parts address n part some found
      ∙ ap Some
      (front (content q.role q.index) (replicate (q.length - length (content q.role q.index)) 0)
      address q.address n (sym stands) long ∙ ap (take n) held)

  some_held : (role : Role) (index n : ℕ) → list_any (is_of role index) places ≡ true → 1 ≤ n
      → n ≤ length (content role index)
      → bytes_in (parts_of places content) (address_of role index places) n
      ≡ Some (take n (content role index))
  some_held role index n held some fits =
      let test = is_at role index (address_of role index places) in
      let any =
      Any-from_list_any test (places_in_order places)
      (list_any-in_order place_key test places ∙ address_held role index places held) in
      held_at role index n any.0 any.1 any.2 any.3 any.4 some fits

  -- the front of the content of the part of a role and an index
  pub held_front : (role : Role) (index n : ℕ) → list_any (is_of role index) places ≡ true
      → n ≤ length (content role index)
      → bytes_in (parts_of places content) (address_of role index places) n
      ≡ Some (take n (content role index))
  held_front role index n held fits =
      elim (cases_order n 0) [
        | inl none ↦
            (nothing_in (parts_of places content) (address_of role index places) n none
            ∙ ap (λ k. Some (take k (content role index))) (sym none))
        | inr other ↦ elim other [
          | inl below ↦ absurd (omega arith)
          | inr above ↦ some_held role index n held (omega arith) fits
        ]
      ]
