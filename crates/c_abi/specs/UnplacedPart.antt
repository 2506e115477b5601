-- Which part of an entry finds no place, for C: of its files the kernel's bytes are known, and of
-- the others the lengths. Own.
use Rattle.std.specs.Prelude.{List, ℕ, Option, Result, Ok, Err}
use Rattle.bl_map.specs.MachineFacts.{MachineFacts}
use Rattle.bl_plan.specs.declared.part.Row.{Row}
use Rattle.bl_load.specs.Unplaced.{IsUnplaced, IsFaultBeforePlacing}
use Rattle.bl_load.specs.declared.refusal.PrepFault.TheVariants as prep_fault
use Rattle.c_records.specs.declared.given_records.MachineRecord.{MachineRecord}
use Rattle.c_records.specs.declared.given_records.EntryRecord.{EntryRecord}
use Rattle.c_records.specs.declared.given_fault.GivenFault.{GivenFault}
use Rattle.c_records.specs.declared.load_fault.LoadFault.{LoadFault}
use Rattle.c_records.specs.declared.load_fault.LoadFault.TheVariants.{Misused, Refused, NoMemory}
use Rattle.c_records.specs.declared.load_fault.LoadFault.TheVariants.{Outside}
use Rattle.c_records.specs.EntryFaults.{IsEntryMisuse, IsEntrySound, load_fault_of_given}
use Rattle.c_records.specs.Given.{value_with}
use Rattle.c_records.specs.Machines.{IsMachineGiven, IsMachineSound, HasMachineFault}
use Rattle.c_abi.specs.Prepare.{AreFilesOf}

-- on the machine that is given, where neither machine nor entry has a misuse, this is the first
-- part that finds no place, or none if each has one; for all files of the entry
pub record IsSought (machine : MachineRecord) (entry : EntryRecord) (which : Option Row) :
    Type 0 where
  pub facts : MachineFacts
  pub machine_is : IsMachineGiven machine facts
  pub machine_sound : IsMachineSound machine
  pub entry_sound : IsEntrySound entry
  pub is :
      (texts : List (List ℕ)) → AreFilesOf entry texts
      → IsUnplaced facts (value_with entry texts) which

-- why no place is looked for on a machine of these facts, where the entry's files hold these texts:
-- its first misuse, or else what refuses it before; memory may run out
abbrev pub IsEarlyFault : MachineFacts → EntryRecord → List (List ℕ) → LoadFault → Type 0
IsEarlyFault facts entry texts (Misused misuse) = IsEntryMisuse entry misuse
IsEarlyFault facts entry texts (Refused refused) =
    IsEntrySound entry
    × IsFaultBeforePlacing facts (value_with entry texts) (prep_fault.Refused refused)
IsEarlyFault facts entry texts Outside = ⊥
IsEarlyFault facts entry texts NoMemory = Unit {0}

-- there is such a machine, and its entry has this fault
pub record HasEarlyFault (machine : MachineRecord) (entry : EntryRecord) (texts : List (List ℕ))
    (fault : LoadFault) : Type 0 where
  pub facts : MachineFacts
  pub machine_is : IsMachineGiven machine facts
  pub is : IsEarlyFault facts entry texts fault

-- the first that stands: the machine's first fault, the entry's
pub data IsNotSought (machine : MachineRecord) (entry : EntryRecord) (texts : List (List ℕ)) :
    LoadFault → Type 0 where
  machine_refuses : (fault : GivenFault) → HasMachineFault machine fault
      → IsNotSought machine entry texts (load_fault_of_given fault)
  entry_refuses : IsMachineSound machine → (fault : LoadFault)
      → HasEarlyFault machine entry texts fault
      → IsNotSought machine entry texts fault

-- how a call ends
abbrev pub IsSoughtEnd : MachineRecord → EntryRecord → Result (Option Row) LoadFault → Type 0
IsSoughtEnd machine entry (Ok which) = IsSought machine entry which
IsSoughtEnd machine entry (Err fault) =
    (texts : List (List ℕ)) → AreFilesOf entry texts
    → IsNotSought machine entry texts fault
