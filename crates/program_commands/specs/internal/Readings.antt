-- What the code keeps of a description that is read, with its machine, or of why it is not. Own.
use Rattle.std.specs.Prelude.{◌≡◌, ◌≢◌, ℕ, List, Result, Ok, Err, Some}
use Rattle.std.specs.Io.{StartsWith}
use Rattle.bl_map.specs.FirmwareFaults.{HasFirstMachineFault}
use Rattle.bl_map.specs.MachineFacts.{MachineFacts}
use Rattle.bl_map.specs.declared.fault.MapFault.{MapFault}
use Rattle.bl_map.specs.declared.fault.MapFault.TheVariants as map_fault
use Rattle.program_desc.specs.Described.{DescriptionFacts, described}
use Rattle.program_desc.specs.Views.{HasMenu, view}
use Rattle.program_desc.specs.declared.desc.Description.{Description}
use Rattle.program_desc.specs.declared.fault.DescFault.{DescFault}
use Rattle.program_desc.specs.declared.fault.DescFault.TheVariants.{BadDescription, NoMemory}
use Rattle.program_boots.specs.described.DescribedMachine.{IsBadDescription, IsMachineOf}
use Rattle.program_commands.specs.declared.described.machine.DescribedMachine.{DescribedMachine}
use Rattle.program_commands.specs.explaining.Explained.{ExplainsBlame}

-- the bytes describe this, and its machine
pub record IsReadMachine {A : Type 0} (desc : List ℕ) (read : DescribedMachine A) : Type 0 where
  pub given : described desc ≡ Some (view read.description)
  pub menu : HasMenu read.description
  pub machine : IsMachineOf (view read.description) read.machine

-- why they are not read: they are a bad description, or memory ran out
abbrev pub IsReadingFault : List ℕ → DescFault → Type 0
IsReadingFault desc BadDescription = IsBadDescription desc
IsReadingFault desc NoMemory = Unit {0}

-- ---- with what is said

-- a blame was told behind what was said before, or memory ran out
abbrev pub SaysMore : (old new : List ℕ) → DescFault → Type 0
SaysMore old new BadDescription = StartsWith new old
SaysMore old new NoMemory = new ≡ old

-- why the bytes are not read: they are a bad description, for a blame that is told, or memory ran
-- out
abbrev pub IsReadBlame : (desc old new : List ℕ) → DescFault → Type 0
IsReadBlame desc old new BadDescription = ExplainsBlame desc old new
IsReadBlame desc old new NoMemory = new ≡ old

-- they are read, and nothing is said
pub record IsRead {A : Type 0} (desc old new : List ℕ) (description : Description A) : Type 0 where
  pub given : described desc ≡ Some (view description)
  pub menu : HasMenu description
  pub kept : new ≡ old

abbrev pub IsReadOrBlamed : {A : Type 0} → (desc old new : List ℕ)
    → Result (Description A) DescFault → Type 0
IsReadOrBlamed desc old new (Ok description) = IsRead desc old new description
IsReadOrBlamed desc old new (Err fault) = IsReadBlame desc old new fault

-- why there is no such machine: a rule is broken, which is told, or memory ran out
abbrev pub IsMachineBlame : DescriptionFacts → (old new : List ℕ) → DescFault → Type 0
IsMachineBlame description old new BadDescription =
    (fault : MapFault) × (fault ≢ map_fault.NoMemory)
    × HasFirstMachineFault description.size description.regions description.pool
    description.firmware fault
    × StartsWith new old
IsMachineBlame description old new NoMemory = new ≡ old

-- there is one, and nothing is said
pub record IsMachineMade (description : DescriptionFacts) (old new : List ℕ) (facts : MachineFacts)
    : Type 0 where
  pub machine : IsMachineOf description facts
  pub kept : new ≡ old

abbrev pub IsMachineOrBlamed : DescriptionFacts → (old new : List ℕ)
    → Result MachineFacts DescFault → Type 0
IsMachineOrBlamed description old new (Ok facts) = IsMachineMade description old new facts
IsMachineOrBlamed description old new (Err fault) = IsMachineBlame description old new fault
