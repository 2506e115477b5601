-- How the readers of a description's tables answer. Own.
use Rattle.std.specs.Prelude.{◌≡◌, Option, Some, None, Result, Ok, Err}
use Rattle.program_desc.specs.declared.bad_key.BadKey.{BadKey}
use Rattle.program_desc.specs.declared.table_fault.TableFault.{TableFault}
use Rattle.program_desc.specs.declared.table_fault.TableFault.TheVariants as faults

-- why a table is not read: the definition gives nothing, and this key is bad so; or memory ran out
abbrev pub IsTableFault : {Y : Type 0} → (BadKey → Type 0) → TableFault → Option Y → Type 0
IsTableFault IsBad (faults.BadKey bad) read = (read ≡ None) × IsBad bad
IsTableFault IsBad faults.NoMemory read = Unit {0}

-- what a reader returned, seen by view, is what the definition gives, unless memory ran out
abbrev pub ReadsAs : {X Y : Type 0} → (X → Y) → (BadKey → Type 0) → Result X TableFault
    → Option Y → Type 0
ReadsAs view IsBad (Ok x) read = read ≡ Some (view x)
ReadsAs view IsBad (Err fault) read = IsTableFault IsBad fault read
