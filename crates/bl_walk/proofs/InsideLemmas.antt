-- The one part in which a range can lie, among parts that ascend.
use Rattle.std.proofs.Common.{◌≡◌, ◌+◌, ◌-◌, ◌<◌, ◌≤◌, inl, inr, ℕ, true, false, List, [], length}
use Rattle.std.proofs.Common.{get_or, Some, None, sym, ap, ◌∙◌, arith, subst, AllPairs}
use Rattle.std.specs.List.{slice_get, position_or_len}
use Rattle.std.specs.List.Sorted.{IsNonDecreasingBy, IsPartitionedBy, IsPartitionPoint}
use Rattle.std.proofs.lemmas.Bool.{leb-true, cases_order}
use Rattle.std.proofs.lemmas.Bool.Decides.{nat_tests}
use Rattle.std.proofs.lemmas.List.Folds.{find_at}
use Rattle.std.proofs.lemmas.List.Sums.{position_or_len_is}
use Rattle.std.proofs.lemmas.List.Sorted.{IsPartitionedBy-leb}
use Rattle.std.proofs.lemmas.Option.{slice_get_past, slice_get-get_or}
use Rattle.bl_plan.specs.declared.part.Role.TheVariants.{Kernel}
use Rattle.bl_load.specs.Handover.{Part, end_of}
use Rattle.bl_image.specs.ImageHandover.{PartAscends}
use Rattle.bl_walk.specs.PartBytes.{lies_in, part_with}
use Rattle.bl_walk.specs.internal.Walking.{begins_upto}

-- a part of no byte
no_part : Part
no_part = record { role = Kernel; index = 0; address = 0; bytes = [] }

ascending : (parts : List Part) → AllPairs PartAscends parts
    → IsNonDecreasingBy (λ (p : Part). p.address) parts
ascending parts kept i j d le within =
    elim (cases_order i j) [
      | inl same ↦
          (let equal : (get_or parts i d).address ≡ (get_or parts j d).address =
          ap (λ k. (get_or parts k d).address) same in omega arith)
      | inr other ↦ elim other [
        | inl before ↦ (let behind = kept i j d before within in omega arith)
        | inr after ↦ absurd (omega arith)
      ]
    ]

-- so they can be searched by halves
pub partitioned : (parts : List Part) (address : ℕ) → AllPairs PartAscends parts
    → IsPartitionedBy (begins_upto address) parts
partitioned parts address kept =
    IsPartitionedBy-leb (λ (p : Part). p.address) parts address (ascending parts kept)

lies-above : (address count : ℕ) (part : Part) → begins_upto address part ≡ false
    → lies_in address count part ≡ false
lies-above address count part above = rw above

pub lies-below : (address count : ℕ) (part : Part) → 1 ≤ count → end_of part ≤ address
    → lies_in address count part ≡ false
lies-below address count part some below = grind (arith, nat_tests)

-- where no part begins at an address or below it
pub found_none : (parts : List Part) (address count : ℕ)
    → IsPartitionPoint (λ part. begins_upto address part ≡ true)
    (λ part. begins_upto address part ≡ false) parts 0
    → part_with parts address count ≡ None
unfolding part_with
found_none parts address count point =
    let p = lies_in address count in
    let last : position_or_len p parts ≡ length parts =
    position_or_len_is p parts (length parts) no_part (omega arith)
    (λ k lt. lies-above address count (get_or parts k no_part) (point.1 k no_part (omega arith) lt))
    (λ lt. absurd (omega arith)) in
    find_at p parts ∙ ap (slice_get parts) last ∙ slice_get_past parts (length parts) (omega arith)

module _ (parts : List Part) (address count begun at : ℕ) (d : Part) (kept : AllPairs PartAscends parts)
    (some : 1 ≤ count)
    (point : IsPartitionPoint (λ part. begins_upto address part ≡ true)
    (λ part. begins_upto address part ≡ false) parts begun)
    (next : begun ≡ at + 1)
    (within : at < length parts) where
  below_fails : (k : ℕ) → k < at → lies_in address count (get_or parts k d) ≡ false
  below_fails k lt =
      let behind = kept k at d lt within in
      let low =
      leb-true (get_or parts at d).address address (point.0 at d (omega arith) (omega arith)) in
      lies-below address count (get_or parts k d) some (omega arith)

  above_fails : (k : ℕ) → at < k → k < length parts
      → lies_in address count (get_or parts k d) ≡ false
  above_fails k gt lt = lies-above address count (get_or parts k d) (point.1 k d (omega arith) lt)

  -- the last part that begins at an address or below it is the one, where it is one
  pub found_some : lies_in address count (get_or parts at d) ≡ true
      → part_with parts address count ≡ Some (get_or parts at d)
  unfolding part_with
  found_some lies =
      let p = lies_in address count in
      let place : position_or_len p parts ≡ at =
      position_or_len_is p parts at d (omega arith) below_fails (λ lt. lies) in
      find_at p parts ∙ ap (slice_get parts) place ∙ slice_get-get_or parts at d within

  each_fails : lies_in address count (get_or parts at d) ≡ false → (k : ℕ) → k < length parts
      → lies_in address count (get_or parts k d) ≡ false
  each_fails fails k lt =
      elim (cases_order k at) [
        | inl same ↦ (ap (λ i. lies_in address count (get_or parts i d)) same ∙ fails)
        | inr other ↦
            elim other [ inl before ↦ below_fails k before | inr after ↦ above_fails k after lt ]
      ]

  -- and else none
  pub found_other : lies_in address count (get_or parts at d) ≡ false
      → part_with parts address count ≡ None
  unfolding part_with
  found_other fails =
      let p = lies_in address count in
      let last : position_or_len p parts ≡ length parts =
      position_or_len_is p parts (length parts) d (omega arith) (each_fails fails)
      (λ lt. absurd (omega arith)) in
      find_at p parts ∙ ap (slice_get parts) last
      ∙ slice_get_past parts (length parts) (omega arith)

-- the same of parts as the code has them: the list is another name of theirs, the part is the one
-- before the point
module _ (parts found : List Part) (address count begun : ℕ) (same : found ≡ parts) where
  pub no_part_with : IsPartitionPoint (λ part. begins_upto address part ≡ true)
      (λ part. begins_upto address part ≡ false) found begun
      → begun ≡ 0 → None ≡ part_with parts address count
  no_part_with point none =
      let P =
      λ (n : ℕ).
      IsPartitionPoint (λ part. begins_upto address part ≡ true)
      (λ part. begins_upto address part ≡ false) found n in
      sym (found_none found address count (subst P none point))
      ∙ ap (λ ps. part_with ps address count) same

  module _ (part : Part) (kept : AllPairs PartAscends found) (some : 1 ≤ count)
      (point : IsPartitionPoint (λ p. begins_upto address p ≡ true)
      (λ p. begins_upto address p ≡ false) found begun)
      (any : ¬ (begun ≡ 0)) (within : begun ≤ length found)
      (is : part ≡ get_or found (begun - 1) part) where
    pub this_part_with : true ≡ lies_in address count part
        → Some part ≡ part_with parts address count
    this_part_with lies =
        let here : lies_in address count (get_or found (begun - 1) part) ≡ true =
        ap (lies_in address count) (sym is) ∙ sym lies in
        ap Some is
        ∙ sym
        (found_some found address count begun (begun - 1) part kept some point (omega arith)
        (omega arith) here)
        ∙ ap (λ ps. part_with ps address count) same

    pub no_other_part_with : false ≡ lies_in address count part
        → None ≡ part_with parts address count
    no_other_part_with fails =
        let here : lies_in address count (get_or found (begun - 1) part) ≡ false =
        ap (lies_in address count) (sym is) ∙ sym fails in
        sym
        (found_other found address count begun (begun - 1) part kept some point (omega arith)
        (omega arith) here)
        ∙ ap (λ ps. part_with ps address count) same
