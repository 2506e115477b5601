-- The sizes of a session's files, and of a boot's.
use Rattle.std.proofs.Common.{◌≡◌, ◌∙◌, ◌-◌, ◌^◌, ◌==◌, Bool, true, false, List, [], ◌∷◌}
use Rattle.std.proofs.Common.{map, All, None, Some, if◌then◌else◌, refl, ap, subst}
use Rattle.std.proofs.Common.{inl, inr}
use Rattle.std.proofs.lemmas.List.Elements.{All-head, All-tail}
use Rattle.bl_stage.specs.Files.{missing, whole, size_of}
use Rattle.c_records.specs.declared.given_records.FileRecord.{FileRecord}
use Rattle.c_abi.specs.Boot.{stored_given}
use Rattle.c_records.specs.MenuGiven.{is_unreadable}
use Rattle.c_abi.specs.Sessions.{HasItsLength, size_given}

size_if : (file : FileRecord) (b : Bool) → is_unreadable file ≡ b → HasItsLength file
    → (if b then None else Some file.length)
    ≡ size_of (if b then missing else whole file.bytes.now)
size_if file true is has = refl
size_if file false is (inl none) =
    let differ : true ≡ false = subst (λ n. (n == 2 ^ 64 - 1) ≡ false) none is in absurd cc
size_if file false is (inr long) = ap Some long

-- of a file that has its length
size_as_stored : (file : FileRecord) → HasItsLength file
    → size_given file ≡ size_of (stored_given file)
size_as_stored file has = size_if file (is_unreadable file) refl has

pub sizes_as_stored : (files : List FileRecord) → All HasItsLength files
    → map size_given files ≡ map size_of (map stored_given files)
sizes_as_stored [] all = refl
sizes_as_stored (file ∷ files) all =
    ap (λ size. size ∷ map size_given files)
    (size_as_stored file (All-head HasItsLength file files all))
    ∙ ap (λ sizes. size_of (stored_given file) ∷ sizes)
    (sizes_as_stored files (All-tail HasItsLength file files all))
