-- The order in which a menu's entries are attempted. Own.
use Rattle.std.specs.Prelude.{ℕ, ◌==◌, Bool, List, [], ◌∷◌, ◌++◌, if◌then◌else◌}
use Rattle.std.specs.List.{list_any}

-- of these each one that is not among the earlier ones, once, where two are the same by this test
abbrev pub without_repeats_by : {X : Type 0} → (X → X → Bool) → List X → List X → List X
without_repeats_by same earlier [] = []
without_repeats_by same earlier (x ∷ xs) =
    if list_any (λ y. same y x) earlier
    then without_repeats_by same earlier xs
    else x ∷ without_repeats_by same (earlier ++ x ∷ []) xs

-- the default, then the fallbacks; one that was named before is left out
abbrev pub attempt_order : ℕ → List ℕ → List ℕ
attempt_order default fallbacks = without_repeats_by (λ i j. i == j) [] (default ∷ fallbacks)
