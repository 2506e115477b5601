-- What is said on standard error as the program ends. Own.
use Rattle.std.specs.Prelude.{ℕ, if◌then◌else◌, ◌==◌, List, Option, Some, None, codes}

abbrev pub status_message : ℕ → Option (List ℕ)
status_message status =
    if status == 2 then Some (codes "bad description") else
    if status == 3 then Some (codes "file fault") else
    if status == 4 then Some (codes "no memory") else
    if status == 64 then Some (codes "bad command line") else
    None
