-- What comes of an entry that C has prepared: what a load of it hands over, or why it is not
-- loaded. Nothing is said of memory. Own.
use Rattle.std.specs.Prelude.{◌≡◌, ◌≤◌, ℕ, List, Result, Ok, Err}
use Rattle.bl_map.specs.MachineFacts.{MachineFacts}
use Rattle.bl_load.specs.FilesByLengths.{HaveKernelAndLengths}
use Rattle.bl_load.specs.HandoffFacts.{HandoffFacts, max_parts}
use Rattle.bl_load.specs.Handover.{Handover}
use Rattle.bl_load.specs.Parts.{IsHandover}
use Rattle.bl_image.specs.ImageHandover.{handoff_of}
use Rattle.c_records.specs.declared.given_records.MachineRecord.{MachineRecord}
use Rattle.c_records.specs.declared.given_records.EntryRecord.{EntryRecord}
use Rattle.c_records.specs.declared.load_fault.LoadFault.{LoadFault}
use Rattle.c_records.specs.Given.{lengths_beside, value_with}
use Rattle.c_abi.specs.Load.{IsNotLoaded}
use Rattle.c_records.specs.EntryFaults.{IsEntrySound}
use Rattle.c_records.specs.Machines.{IsMachineGiven, IsMachineSound}

-- an entry's files may hold these texts: the kernel's bytes, and others of the lengths that are
-- told
abbrev pub AreFilesOf : EntryRecord → List (List ℕ) → Type 0
AreFilesOf entry texts = HaveKernelAndLengths entry.kernel.bytes.now (lengths_beside entry) texts

-- on a machine of these facts the entry, where its files hold these texts, hands over what this
-- handoff says
pub record IsHandoffOf (facts : MachineFacts) (entry : EntryRecord) (texts : List (List ℕ))
    (handoff : HandoffFacts) : Type 0 where
  pub handover : Handover
  pub handover_is : IsHandover facts (value_with entry texts) handover
  pub handoff_is : handoff ≡ handoff_of handover

-- on the machine that is given, where no misuse stands: there is room for the places, and the
-- machine and the entry have none
pub record IsPrepared (machine : MachineRecord) (entry : EntryRecord) (texts : List (List ℕ))
    (room : ℕ) (handoff : HandoffFacts) : Type 0 where
  pub has_room : max_parts ≤ room
  pub facts : MachineFacts
  pub machine_is : IsMachineGiven machine facts
  pub machine_sound : IsMachineSound machine
  pub entry_sound : IsEntrySound entry
  pub handed : IsHandoffOf facts entry texts handoff

-- why an entry is not prepared, where its files hold these texts: as a load of it into memory from
-- address 0 to the machine's end, below which no part can begin
abbrev pub IsNotPrepared : MachineRecord → EntryRecord → List (List ℕ) → ℕ → LoadFault → Type 0
IsNotPrepared machine entry texts room fault =
    IsNotLoaded machine entry texts room 0 machine.size fault

-- how a call ends that has room for so many places, where the entry's files hold these texts
abbrev pub IsGivenPrepareEnd : MachineRecord → EntryRecord → List (List ℕ) → ℕ
    → Result HandoffFacts LoadFault → Type 0
IsGivenPrepareEnd machine entry texts room (Ok handoff) =
    IsPrepared machine entry texts room handoff
IsGivenPrepareEnd machine entry texts room (Err fault) =
    IsNotPrepared machine entry texts room fault
