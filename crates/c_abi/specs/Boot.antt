-- What comes of a menu that C has booted. Own.
use Rattle.std.specs.Prelude.{◌≡◌, ◌≢◌, ℕ, ◌<◌, ◌≤◌, if◌then◌else◌, List, length, map, None}
use Rattle.std.specs.Prelude.{Result, Ok, Err}
use Rattle.bl_map.specs.MachineFacts.{MachineFacts}
use Rattle.bl_load.specs.HandoffFacts.{max_parts}
use Rattle.bl_stage.specs.Files.{File, missing, whole, size_of}
use Rattle.bl_session.specs.session.BootMemory.{IsMemoryAt}
use Rattle.bl_session.specs.menu.Menu.{MenuFacts}
use Rattle.bl_session.specs.session.Outcome.{IsOutcome, HasEnded}
use Rattle.bl_session.specs.session.Phases.{PhaseFacts, boot_facts, state_at, HandsOverWithin}
use Rattle.bl_session.specs.session.Phases.{final_phase}
use Rattle.bl_session.specs.declared.session.outcome.BootFault.{BootFault}
use Rattle.bl_session.specs.declared.session.outcome.Outcome.{Outcome}
use Rattle.c_records.specs.declared.given_records.MachineRecord.{MachineRecord}
use Rattle.c_records.specs.declared.given_records.FileRecord.{FileRecord}
use Rattle.c_records.specs.declared.given_records.EntryRecord.{EntryRecord}
use Rattle.c_records.specs.declared.misuse.Misuse.TheVariants.{BadMemory, SmallRoom}
use Rattle.c_records.specs.declared.given_fault.GivenFault.{GivenFault}
use Rattle.c_records.specs.declared.given_fault.GivenFault.TheVariants.{Misused}
use Rattle.c_records.specs.Machines.{IsMachineGiven, IsMachineSound, HasMachineFault}
use Rattle.c_records.specs.MenuGiven.{menu_files, is_unreadable, menu_given, IsMenuAllowed}
use Rattle.c_records.specs.MenuGiven.{IsMenuFault}

-- ---- the files

abbrev pub stored_given : FileRecord → File
stored_given file = if is_unreadable file then missing else whole file.bytes.now

-- the files of a menu
abbrev pub given_files : List EntryRecord → List File
given_files entries = map stored_given (menu_files entries)

-- ---- the end

-- memory that held the old bytes holds the new ones, where a boot on a machine of these facts ended
-- so: the files alone decide, no byte outside the pool and the parts has changed, and what is
-- handed over lies in memory
pub record HasBootEnded (facts : MachineFacts) (menu : MenuFacts) (files : List File)
    (old new : List ℕ) (end : PhaseFacts) : Type 0 where
  pub outcome : HasEnded (state_at new end)
      → IsOutcome (boot_facts facts menu (map size_of files)) files (λ _. None) (state_at new end)
  pub memory : IsMemoryAt facts.pool (state_at new end) old new
  pub inside : HandsOverWithin facts.size end

-- a boot on the machine that is given ended so, where no misuse stands: there is room for the
-- places, memory ends with the machine's, and the machine and the menu have none
pub record HasGivenBootEnded (machine : MachineRecord) (entries : List EntryRecord) (default : ℕ)
    (fallbacks : List ℕ) (room : ℕ) (old new : List ℕ) (end : PhaseFacts) : Type 0 where
  pub has_room : max_parts ≤ room
  pub facts : MachineFacts
  pub machine_is : IsMachineGiven machine facts
  pub machine_sound : IsMachineSound machine
  pub has_memory : length old ≡ machine.size
  pub allowed : IsMenuAllowed entries default fallbacks
  pub booted :
      HasBootEnded facts (menu_given entries default fallbacks) (given_files entries) old new end

-- the first that stands: too little room for places, the machine's first fault, a memory that does
-- not end with the machine's, the menu's first fault. Each is told only where none before it
-- stands; memory may run out at the machine and at the menu
pub data IsBootGivenFault (machine : MachineRecord) (entries : List EntryRecord) (default : ℕ)
    (fallbacks : List ℕ) (room end : ℕ) : GivenFault → Type 0 where
  few_places : room < max_parts
      → IsBootGivenFault machine entries default fallbacks room end (Misused SmallRoom)
  bad_machine : max_parts ≤ room → (fault : GivenFault) → HasMachineFault machine fault
      → IsBootGivenFault machine entries default fallbacks room end fault
  bad_memory : max_parts ≤ room → IsMachineSound machine → end ≢ machine.size
      → IsBootGivenFault machine entries default fallbacks room end (Misused BadMemory)
  bad_menu : max_parts ≤ room → IsMachineSound machine → end ≡ machine.size
      → (fault : GivenFault) → IsMenuFault entries default fallbacks fault
      → IsBootGivenFault machine entries default fallbacks room end fault

-- how a call ends that has room for so many places, with memory that held the old bytes from
-- address 0 on
abbrev pub IsGivenBootEnd : MachineRecord → List EntryRecord → ℕ → List ℕ → ℕ → (old new : List ℕ)
    → Result PhaseFacts GivenFault → Type 0
IsGivenBootEnd machine entries default fallbacks room old new (Ok end) =
    HasGivenBootEnded machine entries default fallbacks room old new end
IsGivenBootEnd machine entries default fallbacks room old new (Err fault) =
    IsBootGivenFault machine entries default fallbacks room (length old) fault
    × (new ≡ old)

-- an end as contracts see it
abbrev pub typed_end : {A : Type 0} → Result (Result (Outcome A) (BootFault A)) GivenFault
    → Result PhaseFacts GivenFault
typed_end (Ok end) = Ok (final_phase end)
typed_end (Err fault) = Err fault
