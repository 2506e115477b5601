use Rattle.std.proofs.Common.{◌≡◌, drop}
use Rattle.c_records.specs.GivenChecks.{entries_misuse}
use Rattle.c_records.proofs.given_checks.check_entries.Given as goal

-- the entries so far have no misuse
abbrev pub invariant-loop-entry : goal.invariant-loop-entry
invariant-loop-entry l =
    entries_misuse (drop l.entry-index l.entries) ≡ entries_misuse l.entries
