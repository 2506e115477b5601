-- The machine that a description describes, and descriptions that describe none. Own.
use Rattle.std.specs.Prelude.{◌≡◌, ◌≢◌, ◌⊎◌, ℕ, List, None, Some}
use Rattle.bl_map.specs.MachineFacts.{MachineFacts, IsFirmware}
use Rattle.bl_map.specs.Faults.{IsAccepted}
use Rattle.bl_map.specs.Firmware.{FitsFirmwareFields}
use Rattle.bl_map.specs.FirmwareFaults.{HasFirstMachineFault}
use Rattle.bl_map.specs.NormalMap.{IsNormalMap}
use Rattle.bl_map.specs.declared.fault.MapFault.{MapFault}
use Rattle.bl_map.specs.declared.fault.MapFault.TheVariants as map_fault
use Rattle.program_desc.specs.Described.{DescriptionFacts, described}
use Rattle.program_desc.specs.declared.fault.DescFault.{DescFault}
use Rattle.program_desc.specs.declared.fault.DescFault.TheVariants.{BadDescription, NoMemory}

-- these are the facts of the machine that is described
pub record IsMachineOf (description : DescriptionFacts) (facts : MachineFacts) : Type 0 where
  pub accepted : IsAccepted description.size description.regions description.pool
  pub told :
      IsFirmware description.regions description.pool description.firmware
  pub fits : FitsFirmwareFields description.firmware
  pub size : facts.size ≡ description.size
  pub runs : IsNormalMap description.regions facts.runs
  pub pool : facts.pool ≡ description.pool
  pub firmware : facts.firmware ≡ description.firmware

-- a rule of machines is broken, and memory did not just run out
pub record IsBadMachine (description : DescriptionFacts) : Type 0 where
  pub fault : MapFault
  pub named : fault ≢ map_fault.NoMemory
  pub first :
      HasFirstMachineFault description.size description.regions description.pool
      description.firmware fault

-- why there is no such machine: a rule is broken, or memory ran out
abbrev pub IsMachineFault : DescriptionFacts → DescFault → Type 0
IsMachineFault description BadDescription = IsBadMachine description
IsMachineFault description NoMemory = Unit {0}

-- the bytes describe nothing, or no machine
abbrev pub IsBadDescription : List ℕ → Type 0
IsBadDescription desc = (described desc ≡ None)
    ⊎ ((description : DescriptionFacts) × (described desc ≡ Some description)
    × IsBadMachine description)
