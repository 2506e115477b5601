-- Entries that are read one after the other.
use Rattle.std.proofs.Common.{◌≡◌, ◌+◌, ◌*◌, ℕ, List, [], ◌∷◌, ◌++◌, length, arith, subst}
use Rattle.bl_map.specs.declared.region.Region.{Region}
use Rattle.bl_params.specs.Reading.{IsE820Entry, AreE820Entries}

-- one entry more
pub entries_push : (bytes : List ℕ) (at : ℕ) (runs : List Region) (run : Region)
    → AreE820Entries bytes at runs → IsE820Entry bytes (at + 20 * length runs) run
    → AreE820Entries bytes at (runs ++ run ∷ [])
entries_push bytes at [] run are is =
    let here : at + 20 * length {A = Region} [] ≡ at = omega arith in
    (subst (λ (n : ℕ). IsE820Entry bytes n run) here is, tt)
entries_push bytes at (first ∷ runs) run are is =
    let there : at + 20 * length (first ∷ runs) ≡ at + 20 + 20 * length runs = omega arith in (
      are.0,
      entries_push bytes (at + 20) runs run are.1
          (subst (λ (n : ℕ). IsE820Entry bytes n run) there is),
    )
