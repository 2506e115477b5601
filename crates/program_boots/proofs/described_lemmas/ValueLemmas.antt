-- The values of a menu's entries.
use Rattle.std.proofs.Common.{◌≡◌, ◌++◌, ℕ, List, [], ◌∷◌, All, get_or, length, subst}
use Rattle.std.proofs.Common.{sym, inl, inr}
use Rattle.std.proofs.lemmas.Bool.{cases_lt}
use Rattle.std.proofs.lemmas.List.{get_or_past}
use Rattle.std.proofs.lemmas.List.Elements.{All-get_or, All-push}

-- what holds of each element holds once one more was pushed of which it holds
pub all_more : {X : Type 0} (P : X → Type 0) (xs ys : List X) (x : X) → ys ≡ xs ++ x ∷ []
    → All P xs → P x → All P ys
all_more P xs ys x is all more = subst (All P) (sym is) (All-push P xs x all more)

-- what holds of each element, and of what is read after the last, holds of what is read
pub at_each : {X : Type 0} (P : X → Type 0) (xs : List X) (i : ℕ) (d : X) → All P xs → P d
    → P (get_or xs i d)
at_each P xs i d all behind =
    elim (cases_lt i (length xs)) [
      | inl within ↦ All-get_or P xs i d within all
      | inr past ↦ subst P (sym (get_or_past xs i d past)) behind
    ]
