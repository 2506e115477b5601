-- How regions give kinds to addresses.
use Rattle.std.proofs.Common.{◌≡◌, ◌≤◌, ◌<◌, ℕ, true, false, if◌then◌else◌, max, List, [], ◌∷◌}
use Rattle.std.proofs.Common.{◌++◌, All, refl, ap, sym, ◌∙◌, arith}
use Rattle.std.proofs.Math.Nat.{max-zero, zero-max}
use Rattle.std.proofs.lemmas.Bool.Decides.{nat_tests}
use Rattle.std.proofs.lemmas.List.Elements.{All-head, All-tail}
use Rattle.bl_map.specs.declared.kind.Kind.{Kind}
use Rattle.bl_map.specs.declared.kind.Kind.TheVariants.{Usable, Reserved, Acpi, Nvs, Bad}
use Rattle.bl_map.specs.declared.region.Region.{Region}
use Rattle.bl_map.specs.Kinds.{kind_number}
use Rattle.bl_map.specs.NormalMap.{region_end, region_holds, kind_at}

pub held : (r : Region) (a : ℕ) → r.base ≤ a → a < region_end r → region_holds r a ≡ true
held r a low high = grind (arith, nat_tests)

pub not_held_before : (r : Region) (a : ℕ) → a < r.base → region_holds r a ≡ false
not_held_before r a low = grind (arith, nat_tests)

pub not_held_behind : (r : Region) (a : ℕ) → region_end r ≤ a → region_holds r a ≡ false
not_held_behind r a high = grind (arith, nat_tests)

-- the number that one region gives an address
abbrev pub number_in : Region → ℕ → ℕ
number_in r a = if region_holds r a then kind_number r.kind else 0

pub number_in-held : (r : Region) (a : ℕ) → region_holds r a ≡ true → number_in r a
    ≡ kind_number r.kind
number_in-held r a h = rw h refl

pub number_in-not_held : (r : Region) (a : ℕ) → region_holds r a ≡ false → number_in r a ≡ 0
number_in-not_held r a h = rw h refl

pub kind_not_held : (r : Region) (rs : List Region) (a : ℕ) → region_holds r a ≡ false
    → kind_at (r ∷ rs) a ≡ kind_at rs a
kind_not_held r rs a h =
    ap (λ n. max n (kind_at rs a)) (number_in-not_held r a h) ∙ zero-max (kind_at rs a)

pub kind_held : (r : Region) (rs : List Region) (a : ℕ) → region_holds r a ≡ true
    → kind_at (r ∷ rs) a ≡ max (kind_number r.kind) (kind_at rs a)
kind_held r rs a h = ap (λ n. max n (kind_at rs a)) (number_in-held r a h)

-- the last region counts as the first does
pub kind_at-push : (rs : List Region) (r : Region) (a : ℕ)
    → kind_at (rs ++ r ∷ []) a ≡ max (kind_at rs a) (number_in r a)
kind_at-push [] r a = max-zero (number_in r a) ∙ sym (zero-max (number_in r a))
kind_at-push (x ∷ rs) r a =
    let rest = kind_at-push rs r a in
    ap (λ n. max (number_in x a) n) rest ∙ max_assoc (number_in x a) (kind_at rs a) (number_in r a)
  where
    max_assoc : (m n k : ℕ) → max m (max n k) ≡ max (max m n) k
    max_assoc m n k = omega arith

-- no kind after all regions
pub none_behind : (rs : List Region) (n a : ℕ) → All (λ r. region_end r ≤ n) rs → n ≤ a
    → kind_at rs a ≡ 0
none_behind [] n a all high = refl
none_behind (r ∷ rs) n a all high =
    let first = All-head (λ r. region_end r ≤ n) r rs all in
    kind_not_held r rs a (not_held_behind r a (omega arith))
    ∙ none_behind rs n a (All-tail (λ r. region_end r ≤ n) r rs all) high

-- no kind before all regions
pub none_before : (rs : List Region) (n a : ℕ) → All (λ r. n ≤ r.base) rs → a < n → kind_at rs a ≡ 0
none_before [] n a all low = refl
none_before (r ∷ rs) n a all low =
    let first = All-head (λ r. n ≤ r.base) r rs all in
    kind_not_held r rs a (not_held_before r a (omega arith))
    ∙ none_before rs n a (All-tail (λ r. n ≤ r.base) r rs all) low

pub number_positive : (k : Kind) → 1 ≤ kind_number k
number_positive Usable = omega arith
number_positive Reserved = omega arith
number_positive Acpi = omega arith
number_positive Nvs = omega arith
number_positive Bad = omega arith

pub kind_at-same : (r : Region) (rs : List Region) (a b : ℕ) → region_holds r a ≡ region_holds r b
    → kind_at rs a ≡ kind_at rs b → kind_at (r ∷ rs) a ≡ kind_at (r ∷ rs) b
kind_at-same r rs a b first rest =
    ap (λ h. max (if h then kind_number r.kind else 0) (kind_at rs a)) first
    ∙ ap (λ n. max (number_in r b) n) rest
