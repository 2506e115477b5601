-- Steps along the tags of a header, and along the words of a request.
use Rattle.std.proofs.Common.{◌≡◌, ◌<◌, ◌+◌, ◌-◌, ◌*◌, ℕ, suc, Bool, true, false, not, Some, None}
use Rattle.std.proofs.Common.{List, [], ◌∷◌, ◌++◌, arith, refl, sym, subst, nat_eq}
use Rattle.std.specs.List.{find}
use Rattle.std.proofs.lemmas.Bool.Decides.{nat_tests}
use Rattle.bl_mem.specs.LittleEndian.{u32_at}
use Rattle.bl_mb2head.specs.declared.tag.Tag.{Tag}
use Rattle.bl_mb2head.specs.Tags.{tag_at, next_tag_place, words_at, can_be_given, tag_fault_at}
use Rattle.bl_mb2head.specs.Tags.{AreTags}

-- the words from the i-th on are the i-th and those from the next on
words_from : (bytes : List ℕ) (at count i : ℕ) → i < count
    → words_at bytes (at + 4 * i) (count - i)
    ≡ u32_at bytes (at + 4 * i) ∷ words_at bytes (at + 4 * (i + 1)) (count - (i + 1))
words_from bytes at count i lt =
    let one_less : count - i ≡ suc (count - (i + 1)) = omega arith in
    let next : at + 4 * i + 4 ≡ at + 4 * (i + 1) = omega arith in
    rw (one_less, ← next) refl

-- a type that can't be given is the first of the words from it on
pub unknown_here : (bytes : List ℕ) (at count i : ℕ) → i < count
    → can_be_given (u32_at bytes (at + 4 * i)) ≡ false
    → find (λ kind. not (can_be_given kind)) (words_at bytes (at + 4 * i) (count - i))
    ≡ Some (u32_at bytes (at + 4 * i))
unknown_here bytes at count i lt unknown = rw (words_from bytes at count i lt, unknown) refl

-- past a type that can be given, the first that can't is that of the words after it
pub unknown_from : (bytes : List ℕ) (at count i : ℕ) → i < count
    → can_be_given (u32_at bytes (at + 4 * i)) ≡ true
    → find (λ kind. not (can_be_given kind)) (words_at bytes (at + 4 * i) (count - i))
    ≡ find (λ kind. not (can_be_given kind))
    (words_at bytes (at + 4 * (i + 1)) (count - (i + 1)))
unknown_from bytes at count i lt known = rw (words_from bytes at count i lt, known) refl

push : (console : Bool) (bytes : List ℕ) (end at next : ℕ) (ts : List Tag) (t : Tag) → AreTags console bytes end at next ts
    → t ≡ tag_at bytes next → tag_fault_at console bytes end next ≡ None → nat_eq t.kind 0 ≡ false
    → AreTags console bytes end at (next_tag_place t) (ts ++ t ∷ [])
push console bytes end at next [] t tags is sound more = (
  subst (λ (p : ℕ). t ≡ tag_at bytes p) (sym tags) is,
  subst (λ (p : ℕ). tag_fault_at console bytes end p ≡ None) (sym tags) sound,
  more,
  refl,
)
push console bytes end at next (s ∷ ts) t tags is sound more =
    (tags.0, tags.1, tags.2, push console bytes end (next_tag_place s) next ts t tags.3 is sound more)

-- one more tag after the tags up to a place
pub AreTags-push : (console : Bool) (bytes : List ℕ) (end at next : ℕ) (ts : List Tag) (t : Tag)
    → AreTags console bytes end at next ts → t ≡ tag_at bytes next
    → tag_fault_at console bytes end next ≡ None → (t.kind ≡ 0 → ⊥)
    → AreTags console bytes end at (next_tag_place t) (ts ++ t ∷ [])
AreTags-push console bytes end at next ts t tags is sound more =
    push console bytes end at next ts t tags is sound (grind (arith, nat_tests))
