-- Why an entry that C supplies is not taken, and what its faults are as those of a load. Own.
use Rattle.std.specs.Prelude.{◌≡◌, ◌⊎◌, true, false, None, Some}
use Rattle.bl_load.specs.declared.refusal.PrepFault.{PrepFault}
use Rattle.bl_load.specs.declared.refusal.PrepFault.TheVariants as prep_fault
use Rattle.bl_load.specs.EntryValue.{HasLimits}
use Rattle.c_records.specs.declared.given_records.EntryRecord.{EntryRecord}
use Rattle.c_records.specs.declared.misuse.Misuse.{Misuse}
use Rattle.c_records.specs.declared.misuse.Misuse.TheVariants.{TooManyModules, LongRsdp}
use Rattle.c_records.specs.declared.given_fault.GivenFault.{GivenFault}
use Rattle.c_records.specs.declared.given_fault.GivenFault.TheVariants as given_fault
use Rattle.c_records.specs.declared.load_fault.LoadFault.{LoadFault}
use Rattle.c_records.specs.declared.load_fault.LoadFault.TheVariants.{Misused, Refused, NoMemory}
use Rattle.c_records.specs.Given.{entry_without_files}
use Rattle.c_records.specs.GivenChecks.{entry_misuse, are_modules_few}

-- no misuse of an entry stands
pub record IsEntrySound (entry : EntryRecord) : Type 0 where
  pub names : entry_misuse entry ≡ None
  pub limits : HasLimits (entry_without_files entry)

-- its first misuse of size: too many modules, or else a copy of an RSDP that is too long
abbrev pub IsEntrySizeMisuse : EntryRecord → Misuse → Type 0
IsEntrySizeMisuse entry misuse =
    ((misuse ≡ TooManyModules) × (are_modules_few entry ≡ false))
    ⊎ ((misuse ≡ LongRsdp) × (are_modules_few entry ≡ true)
    × (¬ HasLimits (entry_without_files entry)))

-- its first misuse: of what its record names, or else of its size
abbrev pub IsEntryMisuse : EntryRecord → Misuse → Type 0
IsEntryMisuse entry misuse =
    (entry_misuse entry ≡ Some misuse)
    ⊎ ((entry_misuse entry ≡ None) × IsEntrySizeMisuse entry misuse)

-- why it is not taken
abbrev pub IsEntryGivenFault : EntryRecord → GivenFault → Type 0
IsEntryGivenFault entry (given_fault.Misused misuse) = IsEntryMisuse entry misuse
IsEntryGivenFault entry given_fault.NoMemory = Unit {0}

-- why it is not taken, if nothing else of it is misused: its size
abbrev pub IsEntrySizeFault : EntryRecord → GivenFault → Type 0
IsEntrySizeFault entry (given_fault.Misused misuse) = IsEntrySizeMisuse entry misuse
IsEntrySizeFault entry given_fault.NoMemory = Unit {0}

-- ---- as faults of a load

abbrev pub load_fault_of_prep : PrepFault → LoadFault
load_fault_of_prep (prep_fault.Refused refusal) = Refused refusal
load_fault_of_prep prep_fault.NoMemory = NoMemory

abbrev pub load_fault_of_given : GivenFault → LoadFault
load_fault_of_given (given_fault.Misused misuse) = Misused misuse
load_fault_of_given given_fault.NoMemory = NoMemory
