-- One record more is told.
use Rattle.std.proofs.Common.{◌≡◌, ◌∙◌, ◌+◌, ◌<◌, ℕ, zero, suc, List, [], ◌∷◌, ◌++◌, get_or}
use Rattle.std.proofs.Common.{length, map, min, take, drop, set, ap, refl, arith, add-one, inl, inr}
use Rattle.std.proofs.lemmas.Bool.{cases_lt}
use Rattle.std.proofs.lemmas.List.{take_all, drop_all, length-map}
use Rattle.std.proofs.lemmas.Simd.{map-map}

tell_next : {X Y : Type 0} (f : X → Y) (xs : List X) (ys : List Y) (i : ℕ) (x : X)
    → i < length xs → i < length ys → x ≡ get_or xs i x
    → set (map f (take i xs) ++ drop i ys) i (f x) ≡ map f (take (suc i) xs) ++ drop (suc i) ys
tell_next f [] ys i x within fits is = absurd (omega arith)
tell_next f (a ∷ xs) [] i x within fits is = absurd (omega arith)
tell_next f (a ∷ xs) (b ∷ ys) zero x within fits is = ap (λ z. f z ∷ ys) is
tell_next f (a ∷ xs) (b ∷ ys) (suc i) x within fits is =
    ap (λ zs. f a ∷ zs) (tell_next f xs ys i x (omega arith) (omega arith) is)

-- where some were told already, the next one is told at its place
pub tell_more : {X Y : Type 0} (f : X → Y) (xs : List X) (ys zs : List Y) (i : ℕ) (x : X)
    → zs ≡ map f (take i xs) ++ drop i ys → i < length xs → i < length ys
    → x ≡ get_or xs i x → set zs i (f x) ≡ map f (take (i + 1) xs) ++ drop (i + 1) ys
tell_more f xs ys zs i x so within fits is =
    ap (λ told. set told i (f x)) so ∙ rw add-one (tell_next f xs ys i x within fits is)

same_read : {X : Type 0} (xs : List X) (i : ℕ) (d e : X) → i < length xs
    → get_or xs i d ≡ get_or xs i e
same_read [] i d e within = absurd (omega arith)
same_read (x ∷ xs) zero d e within = refl
same_read (x ∷ xs) (suc i) d e within = same_read xs i d e (omega arith)

-- the same, where what is told was read
pub tell_one : {X Y : Type 0} (f : X → Y) (xs : List X) (ys zs : List Y) (i : ℕ) (d : X) (y : Y)
    → zs ≡ map f (take i xs) ++ drop i ys → i < length xs → i < length ys
    → y ≡ f (get_or xs i d) → set zs i y ≡ map f (take (i + 1) xs) ++ drop (i + 1) ys
tell_one f xs ys zs i d y so within fits is =
    ap (set zs i) is
    ∙ tell_more f xs ys zs i (get_or xs i d) so within fits
    (same_read xs i d (get_or xs i d) within)

-- as many are told as there are, or as there is room for
pub told_all : {X Y : Type 0} (f : X → Y) (xs : List X) (ys : List Y) (n : ℕ)
    → n ≡ min (length xs) (length ys)
    → map f (take n xs) ++ drop n ys ≡ map f (take (length ys) xs) ++ drop (length xs) ys
told_all {X = X} {Y = Y} f xs ys n is =
    elim (cases_lt (length ys) (length xs)) [
      | inr fits ↦
          let all : n ≡ length xs = omega (arith, is, fits) in
          rw (all, take_all (length xs) xs (omega arith), take_all (length ys) xs fits) refl
      | inl more ↦
          let all : n ≡ length ys = omega (arith, is, more) in
          rw (
            all,
            drop_all (length ys) ys (omega arith),
            drop_all (length xs) ys (omega arith),
          ) refl
    ]

-- all are told, of what each element has
pub told_under : {X Y Z : Type 0} (f : X → Y) (h : Y → Z) (xs : List X) (ys : List Z) (n : ℕ)
    → n ≡ length xs
    → map (λ x. h (f x)) (take n xs) ++ drop n ys
    ≡ map h (map f xs) ++ drop (length (map f xs)) ys
told_under f h xs ys n is =
    rw (is, take_all (length xs) xs (omega arith), map-map h f xs, length-map xs f) refl

-- all are told
pub told_whole : {X Y : Type 0} (f : X → Y) (xs : List X) (ys : List Y) (n : ℕ) → n ≡ length xs
    → map f (take n xs) ++ drop n ys ≡ map f xs ++ drop (length (map f xs)) ys
told_whole f xs ys n is =
    rw (is, take_all (length xs) xs (omega arith), length-map xs f) refl
