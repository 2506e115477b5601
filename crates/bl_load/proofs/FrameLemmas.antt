-- Frames that are written one after the other.
use Rattle.std.proofs.Common.{◌≡◌, ◌+◌, ◌++◌, ℕ, zero, suc, List, ap, sym, ◌∙◌, arith, append_assoc}
use Rattle.std.proofs.lemmas.List.{append-nil}
use Rattle.std.specs.List.{flat_map, range_with_len}

one_more : (f : ℕ → List ℕ) (a n j : ℕ) → a + n ≡ j
    → flat_map f (range_with_len a (suc n)) ≡ flat_map f (range_with_len a n) ++ f j
one_more f a zero j at = append-nil (f a) ∙ ap f (omega arith)
one_more f a (suc n) j at =
    ap (λ (l : List ℕ). f a ++ l) (one_more f (a + 1) n j (omega arith))
    ∙ sym (append_assoc (f a) (flat_map f (range_with_len (a + 1) n)) (f j))

-- the frames up to the n-th one, and that
pub frames_more : (f : ℕ → List ℕ) (n : ℕ)
    → flat_map f (range_with_len 0 (n + 1)) ≡ flat_map f (range_with_len 0 n) ++ f n
frames_more f n =
    let next : n + 1 ≡ suc n = omega arith in
    ap (λ (k : ℕ). flat_map f (range_with_len 0 k)) next ∙ one_more f 0 n n (omega arith)
