-- The first misuse of entries.
use Rattle.std.proofs.Common.{◌≡◌, ◌∙◌, ◌+◌, ◌<◌, ℕ, List, length, ap, sym, drop, get_or}
use Rattle.std.proofs.Common.{Option, None}
use Rattle.std.specs.Option.{option_or}
use Rattle.std.proofs.lemmas.List.{drop_more}
use Rattle.c_records.specs.declared.misuse.Misuse.{Misuse}
use Rattle.c_records.specs.declared.given_records.EntryRecord.{EntryRecord}
use Rattle.c_records.specs.GivenChecks.{entry_misuse, entries_misuse}

-- where an entry has no misuse, that of the entries from it on is that of those behind it
pub sound_left : (entries : List EntryRecord) (i : ℕ) (d : EntryRecord)
    (misuse : Option Misuse) → i < length entries
    → entry_misuse (get_or entries i d) ≡ None
    → entries_misuse (drop i entries) ≡ misuse
    → entries_misuse (drop (i + 1) entries) ≡ misuse
sound_left entries i d misuse within sound is =
    let rest = entries_misuse (drop (i + 1) entries) in
    sym (ap (λ (m : Option Misuse). option_or m rest) sound)
    ∙ sym (ap entries_misuse (drop_more entries i d within)) ∙ is
