-- Entries of a memory map that are read one after the other.
use Rattle.std.proofs.Common.{◌≡◌, ◌<◌, ◌+◌, ◌-◌, ◌*◌, ℕ, suc, Option, Some, None, List, [], ◌∷◌}
use Rattle.std.proofs.Common.{◌++◌, drop, arith, refl, sym, ap, ◌∙◌, append_assoc, option_map}
use Rattle.std.specs.Prelude.{option_and_then}
use Rattle.std.proofs.lemmas.List.{drop-drop}
use Rattle.bl_map.specs.declared.region.Region.{Region}
use Rattle.bl_mbi.specs.Bodies.{run_of, runs_of}

-- what was read, and after it what is still read
abbrev pub behind : List Region → Option (List Region) → Option (List Region)
behind done more = option_map (λ runs. done ++ runs) more

behind_one : (done : List Region) (run : Region) (more : Option (List Region))
    → behind done (option_map (λ runs. run ∷ runs) more) ≡ behind (done ++ run ∷ []) more
behind_one done run (Some runs) = ap (λ rs. Some rs) (simp append_assoc)
behind_one done run None = refl

-- the entry at i, and then those from i + 1 on
from_next : (bytes : List ℕ) (count i : ℕ) → i < count
    → runs_of (count - i) (drop (24 * i) bytes)
    ≡ option_and_then
    (λ run.
    option_map (λ runs. run ∷ runs)
    (runs_of (count - (i + 1)) (drop (24 * (i + 1)) bytes)))
    (run_of (drop (24 * i) bytes))
from_next bytes count i lt =
    let left : count - i ≡ suc (count - (i + 1)) = omega arith in
    let next : drop 24 (drop (24 * i) bytes) ≡ drop (24 * (i + 1)) bytes =
    drop-drop 24 (24 * i) bytes ∙ ap (λ (n : ℕ). drop n bytes) (omega arith) in
    rw (left, ← next) refl

pub reads_on : (bytes : List ℕ) (done : List Region) (all : Option (List Region)) (run : Region)
    (count i : ℕ) → i < count → Some run ≡ run_of (drop (24 * i) bytes)
    → behind done (runs_of (count - i) (drop (24 * i) bytes)) ≡ all
    → behind (done ++ run ∷ []) (runs_of (count - (i + 1)) (drop (24 * (i + 1)) bytes)) ≡ all
reads_on bytes done all run count i lt one so_far =
    let here : behind done (runs_of (count - i) (drop (24 * i) bytes))
    ≡ behind (done ++ run ∷ []) (runs_of (count - (i + 1)) (drop (24 * (i + 1)) bytes)) =
    rw (from_next bytes count i lt, ← one) (behind_one done run _) in
    sym here ∙ so_far

pub stops : (bytes : List ℕ) (done : List Region) (all : Option (List Region)) (count i : ℕ)
    → i < count → None ≡ run_of (drop (24 * i) bytes)
    → behind done (runs_of (count - i) (drop (24 * i) bytes)) ≡ all → all ≡ None
stops bytes done all count i lt one so_far =
    let here : behind done (runs_of (count - i) (drop (24 * i) bytes)) ≡ None =
    rw (from_next bytes count i lt, ← one) refl in
    sym so_far ∙ here
