-- Runs are determined by the kinds that they give.
use Rattle.std.proofs.Common.{◌≡◌, ◌≢◌, ◌^◌, ◌≤◌, ◌<◌, ℕ, suc, max, List, [], ◌∷◌, All, refl, ap}
use Rattle.std.proofs.Common.{sym, ◌∙◌, arith, inl, inr}
use Rattle.std.proofs.Math.Nat.{max-zero}
use Rattle.std.proofs.lemmas.Bool.{cases_lt}
use Rattle.std.proofs.lemmas.List.Elements.{All-cons, All-head, All-tail, All-weaker}
use Rattle.bl_map.specs.declared.kind.Kind.{Kind}
use Rattle.bl_map.specs.declared.kind.Kind.TheVariants.{Usable, Reserved, Acpi, Nvs, Bad}
use Rattle.bl_map.specs.declared.region.Region.{Region}
use Rattle.std.specs.Prelude.{Some}
use Rattle.bl_map.specs.Kinds.{kind_number, kind_of}
use Rattle.bl_map.specs.NormalMap.{region_end, kind_at, ComesBefore, AreRuns}
use Rattle.bl_map.specs.NormalMap.{IsNormalMap}
use Rattle.bl_map.proofs.KindLemmas.{held, not_held_behind, kind_held, kind_not_held, none_before}
use Rattle.bl_map.proofs.KindLemmas.{number_positive}

-- a kind is read again from its number
pub kind_of-number : (k : Kind) → kind_of (kind_number k) ≡ Some k
unfolding kind_of
kind_of-number Usable = refl
kind_of-number Reserved = refl
kind_of-number Acpi = refl
kind_of-number Nvs = refl
kind_of-number Bad = refl

-- a kind is known by its number
pub same_kind : (p q : Kind) → kind_number p ≡ kind_number q → p ≡ q
same_kind p q same =
    let e : Some p ≡ Some q = sym (kind_of-number p) ∙ ap kind_of same ∙ kind_of-number q in cc

pub later_runs : (x : Region) (xs : List Region) → AreRuns (x ∷ xs) → All (ComesBefore x) xs
later_runs x xs runs = λ k d inside. runs.in_order 0 (suc k) d (omega arith) (omega arith)

pub fewer_runs : (x : Region) (xs : List Region) → AreRuns (x ∷ xs) → AreRuns xs
fewer_runs x xs runs =
    record {
      filled = All-tail (λ run. 1 ≤ run.length) x xs runs.filled;
      low = All-tail (λ run. region_end run ≤ 2 ^ 52) x xs runs.low;
      in_order = λ i j d less inside. runs.in_order (suc i) (suc j) d (omega arith) (omega arith);
    }

later_bases : (x : Region) (xs : List Region) → AreRuns (x ∷ xs)
    → All (λ r. region_end x ≤ r.base) xs
later_bases x xs runs =
    All-weaker (ComesBefore x) (λ r. region_end x ≤ r.base) (λ r h. h.0) xs (later_runs x xs runs)

kind_before : (x : Region) (xs : List Region) (a : ℕ) → AreRuns (x ∷ xs) → a < x.base
    → kind_at (x ∷ xs) a ≡ 0
kind_before x xs a runs below =
    none_before (x ∷ xs) x.base a
    (All-cons (λ r. x.base ≤ r.base) x xs (omega arith)
    (All-weaker (λ r. region_end x ≤ r.base) (λ r. x.base ≤ r.base) (λ r h. omega arith) xs
    (later_bases x xs runs)))
    below

pub kind_in : (x : Region) (xs : List Region) (a : ℕ) → AreRuns (x ∷ xs) → x.base ≤ a → a
    < region_end x
    → kind_at (x ∷ xs) a ≡ kind_number x.kind
kind_in x xs a runs from below =
    kind_held x xs a (held x a from below)
    ∙ ap (λ n. max (kind_number x.kind) n)
    (none_before xs (region_end x) a (later_bases x xs runs) below)
    ∙ max-zero (kind_number x.kind)

-- at its end a run's kind is over
other_behind : (x : Region) (xs : List Region) → AreRuns (x ∷ xs)
    → kind_at xs (region_end x) ≢ kind_number x.kind
other_behind x [] runs same = let p = number_positive x.kind in absurd (omega (arith, same))
other_behind x (y ∷ ys) runs same =
    let next = All-head (ComesBefore x) y ys (later_runs x (y ∷ ys) runs) in
    let rest = fewer_runs x (y ∷ ys) runs in
    let filled = All-head (λ run. 1 ≤ run.length) y ys rest.filled in
    elim (cases_lt (region_end x) y.base) [
      | inl gap ↦
          let p =
          number_positive x.kind in
          absurd (omega (arith, sym (kind_before y ys (region_end x) rest gap) ∙ same))
      | inr none ↦
          let adjoins : region_end x ≡ y.base = omega (arith, next.0) in
          next.1 adjoins
          (sym
          (same_kind y.kind x.kind
          (sym (kind_in y ys (region_end x) rest none (omega arith)) ∙ same)))
    ]

-- two lists of runs, none of them empty, that give the same kinds
record Agree (x : Region) (xs : List Region) (y : Region) (ys : List Region) : Type 0 where
  left : AreRuns (x ∷ xs)
  right : AreRuns (y ∷ ys)
  same : (a : ℕ) → kind_at (x ∷ xs) a ≡ kind_at (y ∷ ys) a

swapped : (x : Region) (xs : List Region) (y : Region) (ys : List Region) → Agree x xs y ys
    → Agree y ys x xs
swapped x xs y ys h = record { left = h.right; right = h.left; same = λ a. sym (h.same a) }

starts_by : (x : Region) (xs : List Region) (y : Region) (ys : List Region) → Agree x xs y ys
    → y.base ≤ x.base
starts_by x xs y ys h =
    elim (cases_lt x.base y.base) [
      | inl before ↦
          let filled = All-head (λ run. 1 ≤ run.length) x xs h.left.filled in
          let p = number_positive x.kind in
          absurd
          (omega (
            arith,
            sym (kind_in x xs x.base h.left (omega arith) (omega arith))
                ∙ h.same x.base ∙ kind_before y ys x.base h.right before,
          ))
      | inr from ↦ from
    ]

same_base : (x : Region) (xs : List Region) (y : Region) (ys : List Region) → Agree x xs y ys
    → x.base ≡ y.base
same_base x xs y ys h =
    let p = starts_by x xs y ys h in
    let q = starts_by y ys x xs (swapped x xs y ys h) in omega arith

same_first_kind : (x : Region) (xs : List Region) (y : Region) (ys : List Region) → Agree x xs y ys
    → x.kind ≡ y.kind
same_first_kind x xs y ys h =
    let b = same_base x xs y ys h in
    let p = All-head (λ run. 1 ≤ run.length) x xs h.left.filled in
    let q = All-head (λ run. 1 ≤ run.length) y ys h.right.filled in
    same_kind x.kind y.kind
    (sym (kind_in x xs x.base h.left (omega arith) (omega arith)) ∙ h.same x.base
    ∙ kind_in y ys x.base h.right (omega arith) (omega arith))

ends_by : (x : Region) (xs : List Region) (y : Region) (ys : List Region) → Agree x xs y ys
    → region_end y ≤ region_end x
ends_by x xs y ys h =
    let b = same_base x xs y ys h in
    elim (cases_lt (region_end x) (region_end y)) [
      | inl before ↦
          absurd (other_behind x xs h.left
          (sym (kind_not_held x xs (region_end x) (not_held_behind x (region_end x) (omega arith)))
          ∙ h.same (region_end x)
          ∙ kind_in y ys (region_end x) h.right (omega arith) before
          ∙ ap kind_number (sym (same_first_kind x xs y ys h))))
      | inr from ↦ from
    ]

same_end : (x : Region) (xs : List Region) (y : Region) (ys : List Region) → Agree x xs y ys
    → region_end x ≡ region_end y
same_end x xs y ys h =
    let p = ends_by x xs y ys h in let q = ends_by y ys x xs (swapped x xs y ys h) in omega arith

same_first : (x : Region) (xs : List Region) (y : Region) (ys : List Region) → Agree x xs y ys
    → x ≡ y
same_first x xs y ys h =
    let b = same_base x xs y ys h in
    let e = same_end x xs y ys h in
    let l : x.length ≡ y.length = omega arith in
    region_by x.base y.base x.length y.length x.kind y.kind b l (same_first_kind x xs y ys h)
  where
    region_of : ℕ → ℕ → Kind → Region
    region_of b l k = record { base = b; length = l; kind = k }

    region_by : (b c l m : ℕ) (k j : Kind) → b ≡ c → l ≡ m → k ≡ j
        → region_of b l k ≡ region_of c m j
    region_by b c l m k j p q r = cc

same_rest : (x : Region) (xs : List Region) (y : Region) (ys : List Region) → Agree x xs y ys
    → (a : ℕ) → kind_at xs a ≡ kind_at ys a
same_rest x xs y ys h a =
    let e = same_end x xs y ys h in
    elim (cases_lt a (region_end x)) [
      | inl before ↦
          none_before xs (region_end x) a (later_bases x xs h.left) before
          ∙ sym (none_before ys (region_end y) a (later_bases y ys h.right) (omega arith))
      | inr behind ↦
          sym (kind_not_held x xs a (not_held_behind x a behind)) ∙ h.same a
          ∙ kind_not_held y ys a (not_held_behind y a (omega arith))
    ]

none_held : (x : Region) (xs : List Region) → AreRuns (x ∷ xs) → kind_at (x ∷ xs) x.base ≢ 0
none_held x xs runs none =
    let filled = All-head (λ run. 1 ≤ run.length) x xs runs.filled in
    let p = number_positive x.kind in
    absurd (omega (arith, sym (kind_in x xs x.base runs (omega arith) (omega arith)) ∙ none))

-- runs that give the same kinds are the same
pub same_runs : (xs ys : List Region) → AreRuns xs → AreRuns ys
    → ((a : ℕ) → kind_at xs a ≡ kind_at ys a) → xs ≡ ys
same_runs [] [] left right same = refl
same_runs [] (y ∷ ys) left right same = absurd (none_held y ys right (sym (same y.base)))
same_runs (x ∷ xs) [] left right same = absurd (none_held x xs left (same x.base))
same_runs (x ∷ xs) (y ∷ ys) left right same =
    let agree : Agree x xs y ys = record { left = left; right = right; same = same } in
    let first = same_first x xs y ys agree in
    let rest =
    same_runs xs ys (fewer_runs x xs left) (fewer_runs y ys right)
    (same_rest x xs y ys agree) in
    cc

pub one_normal_map : (regions others xs ys : List Region)
    → ((a : ℕ) → kind_at regions a ≡ kind_at others a) → IsNormalMap regions xs
    → IsNormalMap others ys → xs ≡ ys
one_normal_map regions others xs ys same left right =
    same_runs xs ys left.runs_are right.runs_are
    (λ a. left.same_kinds a ∙ same a ∙ sym (right.same_kinds a))
