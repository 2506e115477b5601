-- What comes of an entry that C has loaded. Own.
use Rattle.std.specs.Prelude.{◌≡◌, ℕ, ◌+◌, ◌≤◌, ◌<◌, List, length, All}
use Rattle.std.specs.Prelude.{Result, Ok, Err}
use Rattle.bl_map.specs.MachineFacts.{MachineFacts}
use Rattle.bl_load.specs.EntryValue.{EntryValue}
use Rattle.bl_load.specs.HandoffFacts.{HandoffFacts, max_parts}
use Rattle.bl_load.specs.Handover.{Handover, overwrite_parts}
use Rattle.bl_load.specs.Parts.{IsHandover, IsRefusal}
use Rattle.bl_load.specs.PlanContents.{handover_in}
use Rattle.c_records.specs.declared.given_records.MachineRecord.{MachineRecord}
use Rattle.c_records.specs.declared.given_records.EntryRecord.{EntryRecord}
use Rattle.c_records.specs.declared.misuse.Misuse.TheVariants.{BadMemory, SmallRoom}
use Rattle.c_records.specs.declared.given_fault.GivenFault.{GivenFault}
use Rattle.c_records.specs.declared.load_fault.LoadFault.{LoadFault}
use Rattle.c_records.specs.declared.load_fault.LoadFault.TheVariants.{Misused, Refused, NoMemory}
use Rattle.c_records.specs.declared.load_fault.LoadFault.TheVariants.{Outside}
use Rattle.c_records.specs.EntryFaults.{IsEntryMisuse, IsEntrySound, load_fault_of_given}
use Rattle.c_records.specs.Given.{texts_given, value_with, value_given}
use Rattle.c_records.specs.Machines.{IsMachineGiven, IsMachineSound, HasMachineFault}

-- ---- on a machine of these facts

-- something is handed over, and a part of it begins below this address
pub record HandsOverBelow (facts : MachineFacts) (value : EntryValue) (base : ℕ) : Type 0 where
  pub handover : Handover
  pub handed : IsHandover facts value handover
  pub below : ¬ All (λ part. base ≤ part.address) handover.parts

-- why it is not loaded into memory from this base on, where its files hold these texts: its first
-- misuse, or else its refusal, or else a part that would begin below the base; memory may run out
abbrev pub IsEntryFault : MachineFacts → EntryRecord → List (List ℕ) → ℕ → LoadFault → Type 0
IsEntryFault facts entry texts base (Misused misuse) = IsEntryMisuse entry misuse
IsEntryFault facts entry texts base (Refused refused) =
    IsEntrySound entry × IsRefusal facts (value_with entry texts) refused
IsEntryFault facts entry texts base Outside =
    IsEntrySound entry × HandsOverBelow facts (value_with entry texts) base
IsEntryFault facts entry texts base NoMemory = Unit {0}

-- memory from this base on holds what is handed over, and is what it was with those parts written
-- into it: each byte of no part is as before
pub record IsEntryLoaded (facts : MachineFacts) (entry : EntryRecord) (base : ℕ)
    (old new : List ℕ) (handoff : HandoffFacts) : Type 0 where
  pub handover : IsHandover facts (value_given entry)
      (handover_in new handoff.protocol handoff.registers handoff.places)
  pub after : new
      ≡ overwrite_parts
      (handover_in new handoff.protocol handoff.registers handoff.places).parts old
  pub inside : All (λ place. place.address + place.length ≤ facts.size) handoff.places
  pub above : All (λ place. base ≤ place.address) handoff.places

-- ---- on the machine that is given

-- no fault stands: there is room for the places, the machine and the entry have no misuse, and
-- memory reaches to the machine's end
pub record IsLoaded (machine : MachineRecord) (entry : EntryRecord) (room base : ℕ)
    (old new : List ℕ) (handoff : HandoffFacts) : Type 0 where
  pub has_room : max_parts ≤ room
  pub facts : MachineFacts
  pub machine_is : IsMachineGiven machine facts
  pub machine_sound : IsMachineSound machine
  pub has_memory : machine.size ≤ length old
  pub entry_sound : IsEntrySound entry
  pub handed : IsEntryLoaded facts entry base old new handoff

-- there is such a machine, and its entry has this fault
pub record HasEntryFault (machine : MachineRecord) (entry : EntryRecord) (texts : List (List ℕ))
    (base : ℕ) (fault : LoadFault) : Type 0 where
  pub facts : MachineFacts
  pub machine_is : IsMachineGiven machine facts
  pub is : IsEntryFault facts entry texts base fault

-- the first that stands, for memory from this base to this end: too little room for places, the
-- machine's first fault, a memory that ends below the machine's, the entry's first fault. Each is
-- told only where none before it stands; memory may run out at the machine and at the entry
pub data IsNotLoaded (machine : MachineRecord) (entry : EntryRecord) (texts : List (List ℕ))
    (room base end : ℕ) : LoadFault → Type 0 where
  few_places : room < max_parts
      → IsNotLoaded machine entry texts room base end (Misused SmallRoom)
  bad_machine : max_parts ≤ room → (fault : GivenFault) → HasMachineFault machine fault
      → IsNotLoaded machine entry texts room base end (load_fault_of_given fault)
  bad_memory : max_parts ≤ room → IsMachineSound machine → end < machine.size
      → IsNotLoaded machine entry texts room base end (Misused BadMemory)
  bad_entry : max_parts ≤ room → IsMachineSound machine → machine.size ≤ end
      → (fault : LoadFault) → HasEntryFault machine entry texts base fault
      → IsNotLoaded machine entry texts room base end fault

-- how a call ends that has room for so many places, with memory from this base on; the old and the
-- new bytes are those from address 0 on. After a fault memory has the old ones still
abbrev pub IsGivenLoadEnd : MachineRecord → EntryRecord → (room base : ℕ) → (old new : List ℕ)
    → Result HandoffFacts LoadFault → Type 0
IsGivenLoadEnd machine entry room base old new (Ok handoff) =
    IsLoaded machine entry room base old new handoff
IsGivenLoadEnd machine entry room base old new (Err fault) =
    IsNotLoaded machine entry (texts_given entry) room base (length old) fault
    × (new ≡ old)
