-- What the code keeps of the names that are looked for. Own.
use Rattle.std.specs.Borrow.{Bor}
use Rattle.std.specs.Prelude.{◌≡◌, ℕ, ◌++◌, List, map}
use Rattle.std.specs.Str.{bytes_eq}
use Rattle.bl_session.specs.menu.AttemptOrder.{without_repeats_by}

-- the names so far, and after them what these add: each one that is not there yet
abbrev pub with_new_names : List (List ℕ) → List (List ℕ) → List (List ℕ)
with_new_names earlier names = earlier ++ without_repeats_by bytes_eq earlier names

-- to the names so far these were added, each one that was not there yet, whatever is added then
abbrev pub AddsNames : (old new : List (Bor (List ℕ))) → (added : List (List ℕ)) → Type 0
AddsNames old new added =
    (rest : List (List ℕ)) → with_new_names (map (λ n. n.now) new) rest
    ≡ with_new_names (map (λ n. n.now) old) (added ++ rest)
