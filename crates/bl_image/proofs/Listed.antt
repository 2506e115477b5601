-- A list by its elements.
use Rattle.std.proofs.Common.{◌≡◌, ◌+◌, ◌≤◌, ◌<◌, ℕ, zero, suc, List, [], ◌∷◌, ◌++◌, length, get_or}
use Rattle.std.proofs.Common.{slice_range, slice_set, take, drop, All, sym, ap, ◌∙◌, subst, arith}
use Rattle.std.proofs.Common.{rules}
use Rattle.std.proofs.Math.Numerals.{add-one}
use Rattle.std.proofs.lemmas.List.{drop_all, append-nil, same_lists, places}
use Rattle.std.proofs.lemmas.List.Elements.{All-append, All-cons, All-nil}
use Rattle.std.proofs.lemmas.List.Concat.{flat_map-cons}
use Rattle.std.proofs.lemmas.Grind.{flat_map-append}
use Rattle.std.specs.List.{flat_map}
use Rattle.bl_mem.proofs.Overwrites.{range_more}
use Rattle.std.proofs.Math.Seq.{drop-cons, take-length, take-suc-set}

-- n elements from the k-th on
abbrev pub elements : ℕ → ℕ → List ℕ → List ℕ
elements zero k xs = []
elements (suc n) k xs = get_or xs k 0 ∷ elements n (k + 1) xs

pub elements_are : (n k : ℕ) (xs : List ℕ) → length xs ≡ k + n → elements n k xs ≡ drop k xs
elements_are zero k xs e = sym (drop_all k xs (omega arith))
elements_are (suc n) k xs e =
    ap (λ (l : List ℕ). get_or xs k 0 ∷ l)
    (elements_are n (k + 1) xs (omega arith) ∙ ap (λ (j : ℕ). drop j xs) (add-one k))
    ∙ sym (drop-cons xs k 0 (omega arith))

pub listed_parts : (f g l : List ℕ) → length f ≡ 9 → length g ≡ 2 → length l ≡ 9
    → elements 9 0 f ++ (elements 2 0 g ++ elements 9 0 l) ≡ f ++ (g ++ l)
listed_parts f g l nine two last =
    ap (λ (x : List ℕ). x ++ (elements 2 0 g ++ elements 9 0 l)) (elements_are 9 0 f nine)
    ∙ ap (λ (x : List ℕ). f ++ (x ++ elements 9 0 l)) (elements_are 2 0 g two)
    ∙ ap (λ (x : List ℕ). f ++ (g ++ x)) (elements_are 9 0 l last)

part_of : (n : ℕ) (xs : List ℕ) → n ≤ length xs → take n xs ≡ slice_range xs 0 n
part_of n xs h = same_lists _ _ (search (rules, places)) (λ k d within. grind (arith, places))

-- 20 elements are their first 9, the next 2 and the last 9
pub three_parts : (xs : List ℕ) → length xs ≡ 20
    → take 9 xs ++ (slice_range xs 9 11 ++ slice_range xs 11 20) ≡ xs
three_parts xs e =
    let front = part_of 9 xs (omega arith) in
    let whole = part_of 20 xs (omega arith) in
    ap (λ (l : List ℕ). take 9 xs ++ l)
    (range_more xs 9 11 20 (omega arith) (omega arith) (omega arith))
    ∙ ap (λ (l : List ℕ). l ++ slice_range xs 9 20) front
    ∙ range_more xs 0 9 20 (omega arith) (omega arith) (omega arith)
    ∙ sym whole ∙ ap (λ (n : ℕ). take n xs) (sym e) ∙ take-length xs

-- one more number was put down
pub spelled_more : (spelled : ℕ → List ℕ) (xs : List ℕ) (i v : ℕ) → i < length xs
    → flat_map spelled (take (i + 1) (slice_set xs i v))
    ≡ flat_map spelled (take i xs) ++ spelled v
spelled_more spelled xs i v h =
    ap (λ (j : ℕ). flat_map spelled (take j (slice_set xs i v))) (add-one i)
    ∙ ap (flat_map spelled) (take-suc-set xs i v h)
    ∙ flat_map-append spelled (take i xs) (v ∷ [])
    ∙ ap (λ (l : List ℕ). flat_map spelled (take i xs) ++ l)
    (flat_map-cons spelled v [] ∙ append-nil (spelled v))

-- and it fits, as those before it
pub fit_more : (limit : ℕ) (xs : List ℕ) (i v : ℕ) → i < length xs
    → All (λ n. n < limit) (take i xs) → v < limit
    → All (λ n. n < limit) (take (i + 1) (slice_set xs i v))
fit_more limit xs i v h fit small =
    let fits : ℕ → Type 0 = λ n. n < limit in
    let is : take (i + 1) (slice_set xs i v) ≡ take i xs ++ (v ∷ []) =
    ap (λ (j : ℕ). take j (slice_set xs i v)) (add-one i) ∙ take-suc-set xs i v h in
    subst (All fits) (sym is)
    (All-append fits (take i xs) (v ∷ []) fit (All-cons fits v [] small (All-nil fits)))
