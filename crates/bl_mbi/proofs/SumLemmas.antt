-- Sums and pieces of the items so far, and of one more.
use Rattle.std.proofs.Common.{◌≡◌, ◌<◌, ◌≤◌, ◌+◌, ℕ, List, [], ◌∷◌, ◌++◌, length, get_or, take}
use Rattle.std.proofs.Common.{sum_by, sym, ap, ◌∙◌, append_assoc}
use Rattle.std.specs.List.{flat_map}
use Rattle.std.proofs.lemmas.List.{take_more, append-nil}
use Rattle.std.proofs.lemmas.List.Concat.{flat_map-cons}
use Rattle.std.proofs.lemmas.List.Sums.{sum_by_more, sum_by_more_le}
use Rattle.std.proofs.lemmas.Grind.{flat_map-append}

pub next_fits : {X : Type 0} (f : X → ℕ) (xs : List X) (i : ℕ) (x : X) → x ≡ get_or xs i x
    → i < length xs → sum_by f (take i xs) + f x ≤ sum_by f xs
next_fits {X = X} f xs i x is here =
    let step = sum_by_more_le f xs i x here in
    rw (ap f is) step

pub next_sum : {X : Type 0} (f : X → ℕ) (xs : List X) (i : ℕ) (x : X) → x ≡ get_or xs i x
    → i < length xs → sum_by f (take (i + 1) xs) ≡ sum_by f (take i xs) + f x
next_sum {X = X} f xs i x is here =
    sum_by_more f xs i x here ∙ ap (λ (y : X). sum_by f (take i xs) + f y) (sym is)

pub next_pieces : {X : Type 0} (g : X → List ℕ) (xs : List X) (i : ℕ) (x : X) → x ≡ get_or xs i x
    → i < length xs
    → flat_map g (take (i + 1) xs) ≡ flat_map g (take i xs) ++ g x
next_pieces {X = X} g xs i x is here =
    ap (flat_map g) (take_more xs i x here)
    ∙ flat_map-append g (take i xs) (get_or xs i x ∷ [])
    ∙ ap (λ (l : List ℕ). flat_map g (take i xs) ++ l)
    (flat_map-cons g (get_or xs i x) [] ∙ append-nil (g (get_or xs i x)) ∙ ap g (sym is))

-- the pieces so far are appended, and then one more
pub appended_next : {X : Type 0} (g : X → List ℕ) (xs : List X) (i : ℕ) (x : X) (o p q : List ℕ)
    → x ≡ get_or xs i x → i < length xs
    → p ≡ o ++ flat_map g (take i xs) → q ≡ p ++ g x → q ≡ o ++ flat_map g (take (i + 1) xs)
appended_next {X = X} g xs i x o p q is here so_far more =
    more
    ∙ ap (λ (l : List ℕ). l ++ g x) so_far
    ∙ append_assoc o (flat_map g (take i xs)) (g x)
    ∙ ap (λ (l : List ℕ). o ++ l) (sym (next_pieces g xs i x is here))
