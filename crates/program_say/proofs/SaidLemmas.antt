-- Lines that are said of the items of a list, one after the other.
use Rattle.std.proofs.Common.{◌≡◌, ℕ, ◌+◌, ◌<◌, ◌≤◌, List, ◌++◌, length, take, get_or, ap, sym}
use Rattle.std.proofs.Common.{◌∙◌, append_assoc}
use Rattle.std.proofs.lemmas.List.{get_or_default, take_all}
use Rattle.std.specs.List.{flat_map}
use Rattle.bl_image.proofs.Spelled.{flat_map-take}

-- one more is said
pub one_more_said : {X : Type 0} (line : X → List ℕ) (xs : List X) (i : ℕ) (x : X)
    (start so_far after : List ℕ)
    → i < length xs → x ≡ get_or xs i x → so_far ≡ start ++ flat_map line (take i xs)
    → after ≡ so_far ++ line x → after ≡ start ++ flat_map line (take (i + 1) xs)
one_more_said line xs i x start so_far after within at_i so one =
    one ∙ ap (λ (said : List ℕ). said ++ line x) so
    ∙ append_assoc start (flat_map line (take i xs)) (line x)
    ∙ ap (λ (said : List ℕ). start ++ said) (sym (flat_map-take line xs i x at_i within))

-- the same of the item that stands at the index
pub one_more_said_at : {X : Type 0} (line : X → List ℕ) (xs : List X) (i : ℕ) (x : X)
    (start so_far after : List ℕ)
    → i < length xs → so_far ≡ start ++ flat_map line (take i xs)
    → after ≡ so_far ++ line (get_or xs i x) → after ≡ start ++ flat_map line (take (i + 1) xs)
one_more_said_at line xs i x start so_far after within so one =
    one_more_said line xs i (get_or xs i x) start so_far after within
    (get_or_default xs i x (get_or xs i x) within) so one

-- after the last one all are
pub all_said : {X : Type 0} (line : X → List ℕ) (xs : List X) (i : ℕ) (start so_far : List ℕ)
    → length xs ≤ i → so_far ≡ start ++ flat_map line (take i xs)
    → so_far ≡ start ++ flat_map line xs
all_said line xs i start so_far past so = rw (take_all i xs past) at so
