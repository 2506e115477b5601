use Rattle.std.proofs.Common.{◌≡◌, take}
use Rattle.c_records.specs.MenuGiven.{menu_files}
use Rattle.c_abi.proofs.menu_files.files_of.Given as goal

-- the files of the entries so far
abbrev pub invariant-loop-entry : goal.invariant-loop-entry
invariant-loop-entry g l = l.files.items ≡ menu_files (take l.entry-index l.entries)
