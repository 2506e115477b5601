-- One element more of a list that is made of another's.
use Rattle.std.proofs.Common.{◌≡◌, ◌∙◌, ◌+◌, ◌<◌, ℕ, List, [], ◌∷◌, ◌++◌, length, map}
use Rattle.std.proofs.Common.{append_assoc, take, get_or, ap, sym}
use Rattle.std.proofs.lemmas.List.{map_push, map_more}

pub one_more_mapped : {X Y Z : Type 0} (xs after : List X) (x : X) (ys : List Y) (i : ℕ) (d : Y)
    (f : X → Z) (g : Y → Z) → i < length ys → after ≡ xs ++ x ∷ []
    → f x ≡ g (get_or ys i d) → map f xs ≡ map g (take i ys)
    → map f after ≡ map g (take (i + 1) ys)
one_more_mapped {Z = Z} xs after x ys i d f g within is one so =
    ap (map f) is ∙ map_push f xs x ∙ ap (λ (zs : List Z). zs ++ f x ∷ []) so
    ∙ ap (λ (z : Z). map g (take i ys) ++ z ∷ []) one ∙ sym (map_more g ys i d within)

pub one_more_after : {X Y : Type 0} (before xs after : List X) (ys : List Y) (i : ℕ) (d : Y)
    (f : Y → X) → i < length ys → after ≡ xs ++ f (get_or ys i d) ∷ []
    → xs ≡ before ++ map f (take i ys) → after ≡ before ++ map f (take (i + 1) ys)
one_more_after {X = X} before xs after ys i d f within is so =
    is ∙ ap (λ (zs : List X). zs ++ f (get_or ys i d) ∷ []) so
    ∙ append_assoc before (map f (take i ys)) (f (get_or ys i d) ∷ [])
    ∙ ap (λ (zs : List X). before ++ zs) (sym (map_more f ys i d within))
