-- Why the entries that C gives are not taken for a menu's. Own.
use Rattle.std.specs.Prelude.{◌≡◌, ◌⊎◌, ◌<◌, ◌≤◌, true, false, List, length}
use Rattle.bl_plan.specs.MenuLimits.{max_entries}
use Rattle.bl_session.specs.declared.menu.fault.MenuFault.{MenuFault}
use Rattle.bl_session.specs.declared.menu.fault.MenuFault.TheVariants as menu_faults
use Rattle.c_records.specs.GivenChecks.{have_few_modules}
use Rattle.c_records.specs.MenuGiven.{AreFewGiven}
use Rattle.c_records.specs.declared.given_fault.GivenFault.{GivenFault}
use Rattle.c_records.specs.declared.given_fault.GivenFault.TheVariants.{Misused, NoMemory}
use Rattle.c_records.specs.declared.given_records.EntryRecord.{EntryRecord}
use Rattle.c_records.specs.declared.misuse.Misuse.TheVariants.{TooManyEntries, TooManyModules}
use Rattle.c_records.specs.declared.misuse.Misuse.TheVariants.{LongRsdp, BadIndex}

-- they are too many, or one is beyond its limits: first of modules, then of a copy of an RSDP;
-- memory may run out
abbrev pub AreNotTaken : List EntryRecord → GivenFault → Type 0
AreNotTaken entries (Misused misuse) =
    ((misuse ≡ TooManyEntries) × (max_entries < length entries))
    ⊎ ((misuse ≡ TooManyModules) × (length entries ≤ max_entries)
    × (have_few_modules entries ≡ false))
    ⊎ ((misuse ≡ LongRsdp) × (length entries ≤ max_entries) × (have_few_modules entries ≡ true)
    × (¬ AreFewGiven entries))
AreNotTaken entries NoMemory = Unit {0}

-- a fault of a menu whose entries were taken; of such a menu the first is none
abbrev pub given_fault_of_menu : MenuFault → GivenFault
given_fault_of_menu menu_faults.TooMany = Misused TooManyEntries
given_fault_of_menu menu_faults.BadIndex = Misused BadIndex
given_fault_of_menu menu_faults.NoMemory = NoMemory
