-- What comes of a session that C gives, and what C is told of it. Own.
use Rattle.std.specs.Prelude.{◌≡◌, ◌⊎◌, ℕ, ◌-◌, ◌^◌, MatchBool, nat_lt, All, List, length, map}
use Rattle.std.specs.Prelude.{Option, None, Some, Result, Ok, Err, if◌then◌else◌}
use Rattle.bl_map.specs.MachineFacts.{MachineFacts}
use Rattle.bl_load.specs.HandoffFacts.{max_parts}
use Rattle.bl_session.specs.session.Phases.{PhaseFacts, SessionFacts, boot_facts, end_facts}
use Rattle.bl_session.specs.session.Phases.{not_started, HandsOverWithin}
use Rattle.c_records.specs.declared.given_records.MachineRecord.{MachineRecord}
use Rattle.c_records.specs.declared.given_records.FileRecord.{FileRecord}
use Rattle.c_records.specs.declared.given_records.EntryRecord.{EntryRecord}
use Rattle.c_records.specs.declared.misuse.Misuse.TheVariants.{SmallRoom}
use Rattle.c_records.specs.declared.given_fault.GivenFault.{GivenFault}
use Rattle.c_records.specs.Machines.{IsMachineGiven, IsMachineSound, HasMachineFault}
use Rattle.c_records.specs.MenuGiven.{menu_files, is_unreadable, menu_given, IsMenuAllowed}
use Rattle.c_records.specs.MenuGiven.{IsMenuFault}
use Rattle.c_records.specs.EntryFaults.{load_fault_of_given}
use Rattle.c_abi.specs.BootTold.{Telling, end_status, end_told}
use Rattle.c_records.specs.Status.{done_status, fault_status, misuse_status}

-- ---- the session

-- how long a file is, none of one that can't be read: its bytes come later
abbrev pub size_given : FileRecord → Option ℕ
size_given file = if is_unreadable file then None else Some file.length

-- how long each file of a menu is
abbrev pub sizes_given : List EntryRecord → List (Option ℕ)
sizes_given entries = map size_given (menu_files entries)

-- its length is that of its bytes, or that of a file that can't be read
abbrev pub HasItsLength : FileRecord → Type 0
HasItsLength file = (file.length ≡ 2 ^ 64 - 1) ⊎ (file.length ≡ length file.bytes.now)

-- each file of a menu has its length
abbrev pub HaveTheirLengths : List EntryRecord → Type 0
HaveTheirLengths entries = All HasItsLength (menu_files entries)

-- a boot of the menu that is given, on the machine that is given, which has not begun; neither of
-- the two has a misuse
pub record IsSessionGiven (machine : MachineRecord) (entries : List EntryRecord) (default : ℕ)
    (fallbacks : List ℕ) (session : SessionFacts) : Type 0 where
  pub facts : MachineFacts
  pub machine_is : IsMachineGiven machine facts
  pub machine_sound : IsMachineSound machine
  pub allowed : IsMenuAllowed entries default fallbacks
  pub session_is : session ≡ record {
    boot = boot_facts facts (menu_given entries default fallbacks) (sizes_given entries);
    phase = not_started;
  }

-- ---- or why there is none

-- the first that stands: the machine's first fault, or else the menu's; memory may run out
pub data IsSessionFault (machine : MachineRecord) (entries : List EntryRecord) (default : ℕ)
    (fallbacks : List ℕ) : GivenFault → Type 0 where
  of_machine : (fault : GivenFault) → HasMachineFault machine fault
      → IsSessionFault machine entries default fallbacks fault
  of_menu : (facts : MachineFacts) → IsMachineGiven machine facts → IsMachineSound machine
      → (fault : GivenFault) → IsMenuFault entries default fallbacks fault
      → IsSessionFault machine entries default fallbacks fault

-- the session that is made of what is given, or why there is none
abbrev pub IsSessionMade : MachineRecord → List EntryRecord → ℕ → List ℕ
    → Result SessionFacts GivenFault → Type 0
IsSessionMade machine entries default fallbacks (Ok session) =
    IsSessionGiven machine entries default fallbacks session
IsSessionMade machine entries default fallbacks (Err fault) =
    IsSessionFault machine entries default fallbacks fault

-- a status, and which session is kept: the one that is made, or after a fault the one that was
abbrev pub TellsSession : Result SessionFacts GivenFault → ℕ → (old new : Option SessionFacts)
    → Type 0
TellsSession (Ok session) status old new = (status ≡ done_status) × (new ≡ Some session)
TellsSession (Err fault) status old new =
    (status ≡ fault_status (load_fault_of_given fault)) × (new ≡ old)

-- ---- its outcome

-- a session has not ended
abbrev pub waiting_status : ℕ
waiting_status = 2

-- the status of an end, if there is one
abbrev pub outcome_status : Option PhaseFacts → ℕ
outcome_status None = waiting_status
outcome_status (Some end) = end_status end

-- what is told beside it
abbrev pub telling_after_outcome : Option PhaseFacts → Telling → Telling
telling_after_outcome None old = old
telling_after_outcome (Some end) old = end_told end old

-- a status and what is told of the outcome of a session, which lies in memory if it is handed over:
-- nothing if there is room for fewer places than there may be
abbrev pub TellsOutcome : SessionFacts → ℕ → (old new : Telling) → Type 0
TellsOutcome session status old new =
    MatchBool (nat_lt (length old.places) max_parts)
    ((status ≡ misuse_status SmallRoom) × (new ≡ old))
    ((status ≡ outcome_status (end_facts session.phase))
    × (new ≡ telling_after_outcome (end_facts session.phase) old)
    × HandsOverWithin session.boot.machine.size session.phase)
