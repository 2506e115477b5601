-- The bytes of a range are as many as are asked for.
use Rattle.std.proofs.Common.{◌≡◌, ◌+◌, ◌-◌, ◌<◌, ◌≤◌, ◌&&◌, ℕ, Bool, true, false, List, [], ◌∷◌}
use Rattle.std.proofs.Common.{length, slice_range, Option, Some, None, option_map, cond, refl, sym}
use Rattle.std.proofs.Common.{ap, ◌∙◌, arith, ⊎_elim, length-take, length-drop}
use Rattle.std.specs.List.{find}
use Rattle.std.proofs.lemmas.Bool.{leb-true, cases_order}
use Rattle.bl_load.specs.Handover.{Part, end_of}
use Rattle.bl_walk.specs.PartBytes.{lies_in, part_with, bytes_in}
use Rattle.bl_walk.proofs.RangeLemmas.{nothing_in, bytes_of}

pub same_some : {A : Type 0} (x y : A) → Some x ≡ Some y → x ≡ y
same_some x y same = cc

both : (a b : Bool) → (a && b) ≡ true → (a ≡ true) × (b ≡ true)
both true true h = (refl, refl)
both true false h = absurd (cc)
both false b h = absurd (cc)

-- what is found passes
passes : {X : Type 0} (p : X → Bool) (xs : List X) (x : X) → find p xs ≡ Some x → p x ≡ true
passes p [] x found = absurd (cc)
passes p (y ∷ ys) x found =
    elim (p y) as (λ b. p y ≡ b → cond b (Some y) (find p ys) ≡ Some x → p x ≡ true) [
      | true ↦ λ e first. ap p (sym (same_some y x first)) ∙ e
      | false ↦ λ e later. passes p ys x later
    ] refl found

-- the part that is found holds the range
pub holds_range : (parts : List Part) (address count : ℕ) (part : Part)
    → part_with parts address count ≡ Some part
    → (part.address ≤ address) × (address + count ≤ end_of part)
unfolding part_with
holds_range parts address count part found =
    let lies = both _ _ (passes (lies_in address count) parts part found) in
    (leb-true part.address address lies.0, leb-true (address + count) (end_of part) lies.1)

slice_length : (part : Part) (address count : ℕ) → part.address ≤ address
    → address + count ≤ end_of part
    → length (slice_range part.bytes (address - part.address) (address - part.address + count))
    ≡ count
slice_length part address count from upto = simp (length-take, length-drop) (omega arith)

length_by : (parts : List Part) (address count : ℕ) (bytes : List ℕ) (found : Option Part)
    → part_with parts address count ≡ found
    → option_map
    (λ part. slice_range part.bytes (address - part.address) (address - part.address + count))
    found ≡ Some bytes
    → length bytes ≡ count
length_by parts address count bytes None found is = absurd (cc)
length_by parts address count bytes (Some part) found is =
    let range = holds_range parts address count part found in
    ap length (sym (same_some _ bytes is)) ∙ slice_length part address count range.0 range.1

some_length : (parts : List Part) (address count : ℕ) (bytes : List ℕ) → 1 ≤ count
    → bytes_in parts address count ≡ Some bytes → length bytes ≡ count
some_length parts address count bytes some is =
    length_by parts address count bytes (part_with parts address count) refl
    (sym (bytes_of parts address count some) ∙ is)

none_length : (parts : List Part) (address count : ℕ) (bytes : List ℕ) → count ≡ 0
    → bytes_in parts address count ≡ Some bytes → length bytes ≡ count
none_length parts address count bytes none is =
    ap length (same_some bytes [] (sym is ∙ nothing_in parts address count none)) ∙ sym none

pub length_in : (parts : List Part) (address count : ℕ) (bytes : List ℕ)
    → bytes_in parts address count ≡ Some bytes → length bytes ≡ count
length_in parts address count bytes is =
    ⊎_elim (λ none. none_length parts address count bytes none is)
    (λ other.
    some_length parts address count bytes
    (⊎_elim (λ (below : count < 0). absurd (omega arith))
    (λ (above : 0 < count). omega arith) other) is)
    (cases_order count 0)
