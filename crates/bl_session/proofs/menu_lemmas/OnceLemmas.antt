-- Attempts: each one once, and so no more than there are entries.
use Rattle.std.proofs.Common.{◌≡◌, ℕ, ◌<◌, ◌≤◌, ◌==◌, ◌||◌, Bool, true, false, List, [], ◌∷◌, ◌++◌}
use Rattle.std.proofs.Common.{length, All, if◌then◌else◌, arith, suc, zero, append_assoc, refl, sym}
use Rattle.std.proofs.Common.{◌∙◌}
use Rattle.std.proofs.lemmas.Bool.Decides.{nat_tests}
use Rattle.std.specs.List.{list_any}
use Rattle.std.proofs.lemmas.List.Folds.{list_any-append}
use Rattle.std.proofs.lemmas.Map.Steps.{length-le_from_distinct_below}
use Rattle.std.specs.List.{IsDistinct, AllByRecursion}
use Rattle.std.specs.Prelude.{eqb}
use Rattle.bl_session.specs.menu.AttemptOrder.{without_repeats_by, attempt_order}

-- each index that is not among the earlier ones, once
abbrev once : List ℕ → List ℕ → List ℕ
once earlier xs = without_repeats_by (λ i j. i == j) earlier xs

-- ---- each is one that was named

all_cons : (count x : ℕ) (xs : List ℕ) → x < count → All (λ y. y < count) xs
    → All (λ y. y < count) (x ∷ xs)
all_cons count x xs h hs zero d l = h
all_cons count x xs h hs (suc k) d l = hs k d (omega arith)

all_if : (count x : ℕ) (b : Bool) (rest kept : List ℕ) → x < count → All (λ y. y < count) rest
    → All (λ y. y < count) kept → All (λ y. y < count) (if b then rest else x ∷ kept)
all_if count x true rest kept h hr hk = hr
all_if count x false rest kept h hr hk = all_cons count x kept h hk

all_once_after : (count : ℕ) (earlier xs : List ℕ) → All (λ y. y < count) xs
    → All (λ y. y < count) (once earlier xs)
all_once_after count earlier [] h = h
all_once_after count earlier (x ∷ xs) h =
    let rest : All (λ y. y < count) xs = λ k d l. h (suc k) d (omega arith) in
    all_if count x (list_any (λ i. i == x) earlier) (once earlier xs)
    (once (earlier ++ x ∷ []) xs) (h 0 0 (omega arith))
    (all_once_after count earlier xs rest) (all_once_after count (earlier ++ x ∷ []) xs rest)

pub all_attempts : (count default : ℕ) (fallbacks : List ℕ) → default < count
    → All (λ y. y < count) fallbacks → All (λ y. y < count) (attempt_order default fallbacks)
all_attempts count default fallbacks h hs =
    all_once_after count [] (default ∷ fallbacks) (all_cons count default fallbacks h hs)

-- ---- none is named twice

abbrev IsNew : List ℕ → ℕ → Type 0
IsNew earlier y = list_any (λ i. i == y) earlier ≡ false

neither : (a b : Bool) → (a || b) ≡ false → (a ≡ false) × (b ≡ false)
neither true b e = absurd cc
neither false b e = (refl, e)

parts_of_new : (earlier : List ℕ) (x y : ℕ) → IsNew (earlier ++ x ∷ []) y
    → IsNew earlier y × ((x == y) ≡ false)
parts_of_new earlier x y e =
    let parts =
    neither (list_any (λ i. i == y) earlier) (list_any (λ i. i == y) (x ∷ []))
    (sym (list_any-append (λ i. i == y) earlier (x ∷ [])) ∙ e) in
    (parts.0, (neither (x == y) false parts.1).0)

less : (earlier : List ℕ) (x : ℕ) (ys : List ℕ) → AllByRecursion (IsNew (earlier ++ x ∷ [])) ys
    → AllByRecursion (IsNew earlier) ys
less earlier x [] h = tt
less earlier x (y ∷ ys) h = ((parts_of_new earlier x y h.0).0, less earlier x ys h.1)

apart : (earlier : List ℕ) (x : ℕ) (ys : List ℕ) → AllByRecursion (IsNew (earlier ++ x ∷ [])) ys
    → AllByRecursion (λ y. eqb x y ≡ false) ys
apart earlier x [] h = tt
apart earlier x (y ∷ ys) h = ((parts_of_new earlier x y h.0).1, apart earlier x ys h.1)

new_if : (earlier : List ℕ) (x : ℕ) (b : Bool) (rest kept : List ℕ)
    → list_any (λ i. i == x) earlier ≡ b → AllByRecursion (IsNew earlier) rest
    → AllByRecursion (IsNew (earlier ++ x ∷ [])) kept
    → AllByRecursion (IsNew earlier) (if b then rest else x ∷ kept)
new_if earlier x true rest kept e hr hk = hr
new_if earlier x false rest kept e hr hk = (e, less earlier x kept hk)

new_once : (earlier xs : List ℕ) → AllByRecursion (IsNew earlier) (once earlier xs)
new_once earlier [] = tt
new_once earlier (x ∷ xs) =
    new_if earlier x (list_any (λ i. i == x) earlier) (once earlier xs)
    (once (earlier ++ x ∷ []) xs) refl (new_once earlier xs)
    (new_once (earlier ++ x ∷ []) xs)

distinct_if : (earlier : List ℕ) (x : ℕ) (b : Bool) (rest kept : List ℕ) → IsDistinct eqb rest
    → IsDistinct eqb kept → AllByRecursion (IsNew (earlier ++ x ∷ [])) kept
    → IsDistinct eqb (if b then rest else x ∷ kept)
unfolding IsDistinct
distinct_if earlier x true rest kept hr hk new = hr
distinct_if earlier x false rest kept hr hk new = (apart earlier x kept new, hk)

distinct_once : (earlier xs : List ℕ) → IsDistinct eqb (once earlier xs)
unfolding IsDistinct
distinct_once earlier [] = tt
distinct_once earlier (x ∷ xs) =
    distinct_if earlier x (list_any (λ i. i == x) earlier) (once earlier xs)
    (once (earlier ++ x ∷ []) xs) (distinct_once earlier xs)
    (distinct_once (earlier ++ x ∷ []) xs) (new_once (earlier ++ x ∷ []) xs)

among_if : (count q x : ℕ) (xs : List ℕ) (b : Bool) → eqb q x ≡ b → x < count
    → (list_any (eqb q) xs ≡ true → q < count) → (b || list_any (eqb q) xs) ≡ true → q < count
among_if count q x xs true same first later e =
    let is : q ≡ x = grind (arith, nat_tests) in omega (arith, first, is)
among_if count q x xs false same first later e = later e

among_below : (count : ℕ) (xs : List ℕ) (q : ℕ) → All (λ y. y < count) xs
    → list_any (eqb q) xs ≡ true → q < count
among_below count [] q h e = absurd cc
among_below count (x ∷ xs) q h e =
    among_if count q x xs (eqb q x) refl (h 0 0 (omega arith))
    (among_below count xs q (λ k d l. h (suc k) d (omega arith))) e

pub few_attempts : (count default : ℕ) (fallbacks : List ℕ) → default < count
    → All (λ y. y < count) fallbacks → length (attempt_order default fallbacks) ≤ count
few_attempts count default fallbacks h hs =
    length-le_from_distinct_below (attempt_order default fallbacks) count
    (distinct_once [] (default ∷ fallbacks))
    (λ q e.
    among_below count (attempt_order default fallbacks) q
    (all_attempts count default fallbacks h hs) e)

-- ---- one more

more_if : (b : Bool) (earlier xs : List ℕ) (x : ℕ)
    → (if b then earlier else earlier ++ x ∷ [])
    ++ once (if b then earlier else earlier ++ x ∷ []) xs
    ≡ earlier ++ (if b then once earlier xs else x ∷ once (earlier ++ x ∷ []) xs)
more_if true earlier xs x = refl
more_if false earlier xs x = append_assoc earlier (x ∷ []) (once (earlier ++ x ∷ []) xs)

pub once_more : (earlier rest xs : List ℕ) (x : ℕ) → rest ≡ x ∷ xs
    → (if list_any (λ i. i == x) earlier then earlier else earlier ++ x ∷ [])
    ++ once (if list_any (λ i. i == x) earlier then earlier else earlier ++ x ∷ []) xs
    ≡ earlier ++ once earlier rest
once_more earlier rest xs x e = rw e (more_if (list_any (λ i. i == x) earlier) earlier xs x)
