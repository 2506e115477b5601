-- The keys of a map, and those of the members that it is seen as.
use Rattle.std.proofs.Common.{◌≡◌, Bool, true, false, not, ◌||◌, Option, Some, None, List, [], ◌∷◌}
use Rattle.std.proofs.Common.{map, refl, ap, inl, inr, ℕ, String, Global}
use Rattle.std.proofs.Common.{Ordering, Less, Equal, Greater}
use Rattle.std.specs.Prelude.{string_bytes, IsSome}
use Rattle.std.specs.List.{list_any, find}
use Rattle.std.specs.Map.{keys_of}
use Rattle.std.specs.Str.{bytes_eq}
use Rattle.std.specs.Cmp.{tied_itself}
use Rattle.std.specs.Cmp.Lexicographic.{slice_cmp}
use Rattle.std.specs.Ordering.{nat_cmp, match_ordering}
use Rattle.std.proofs.lemmas.Bool.{cases_Bool}
use Rattle.std.proofs.lemmas.Cmp.{nat_list_cmp_total}
use Rattle.toml.specs.Data.{Data, get_member}
use Rattle.toml.specs.View.{members_view}
use Rattle.toml.specs.declared.value.Value.{Value}
use Rattle.program_desc.specs.TomlValues.{has_only}
use Rattle.program_desc.specs.KeyRules.{keys_of_set}
use Rattle.program_desc.specs.declared.key_set.KeySet.{KeySet}
use Rattle.program_desc.specs.declared.key_table.Key.{Key}

-- keys and their names
pub among_names : (keys : List Key) (name : List ℕ)
    → list_any (λ key. bytes_eq key.name.now name) keys
    ≡ list_any (λ k. bytes_eq k name) (map (λ key. key.name.now) keys)
among_names [] name = refl
among_names (key ∷ keys) name =
    ap (λ (b : Bool). bytes_eq key.name.now name || b) (among_names keys name)

-- a key of the table is none of these
abbrev pub is_unknown : KeySet → String Global → Bool
is_unknown set key = not (list_any (λ k. bytes_eq k (string_bytes key)) (keys_of_set set))

abbrev Entry : Type 0
Entry = String Global × Value

pub unknown_none : (set : KeySet) (entries : List Entry)
    → find (is_unknown set) (keys_of entries) ≡ None
    → has_only (keys_of_set set) (members_view entries) ≡ true
unknown_none set [] none = refl
unknown_none set (e ∷ entries) none =
    elim (cases_Bool (list_any (λ k. bytes_eq k (string_bytes e.0)) (keys_of_set set))) [
      | inl has ↦
          let rest : find (is_unknown set) (keys_of entries) ≡ None = rw has at none in
          rw (has, unknown_none set entries rest) refl
      | inr not_has ↦ let odd : Some e.0 ≡ None = rw not_has at none in absurd (cc odd)
    ]

found_later : (o : Ordering) (rest : Option Data) (d : Data) → IsSome rest
    → IsSome (match_ordering o rest (Some d) rest)
found_later Less rest d h = h
found_later Equal rest d h = refl
found_later Greater rest d h = h

found_here : (k l : List ℕ) (rest : Option Data) (d : Data) → l ≡ k
    → IsSome (match_ordering (slice_cmp nat_cmp k l) rest (Some d) rest)
found_here k l rest d same = rw (same, tied_itself nat_list_cmp_total k) refl

pub unknown_some : (set : KeySet) (entries : List Entry) (key : String Global)
    → find (is_unknown set) (keys_of entries) ≡ Some key
    → (list_any (λ k. bytes_eq k (string_bytes key)) (keys_of_set set) ≡ false)
    × IsSome (get_member (string_bytes key) (members_view entries))
    × (has_only (keys_of_set set) (members_view entries) ≡ false)
unknown_some set [] key found = absurd (cc found)
unknown_some set (e ∷ entries) key found =
    elim (cases_Bool (list_any (λ k. bytes_eq k (string_bytes e.0)) (keys_of_set set))) [
      | inl has ↦
          let rest : find (is_unknown set) (keys_of entries) ≡ Some key = rw has at found in
          let more = unknown_some set entries key rest in (
            more.0,
            found_later (slice_cmp nat_cmp (string_bytes key) (string_bytes e.0)) _ _ more.1,
            rw (has, more.2) refl,
          )
      | inr not_has ↦
          let here : Some e.0 ≡ Some key = rw not_has at found in
          let same : e.0 ≡ key = cc here in (
            rw (← same) not_has,
            found_here (string_bytes key) (string_bytes e.0) _ _ (ap string_bytes same),
            rw not_has refl,
          )
    ]
