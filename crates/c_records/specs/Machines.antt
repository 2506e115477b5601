-- The machine that C gives, or what refuses it. Own.
use Rattle.std.specs.Prelude.{◌≡◌, ◌⊎◌, ℕ, ◌+◌, ◌-◌, ◌^◌, List, map, min, None, IsSomeAnd}
use Rattle.std.specs.declared.ops.Range.{Range}
use Rattle.bl_map.specs.declared.region.Region.{Region}
use Rattle.bl_map.specs.declared.fault.MapFault.{MapFault}
use Rattle.bl_map.specs.declared.fault.MapFault.TheVariants as map_fault
use Rattle.bl_map.specs.Faults.{IsAccepted}
use Rattle.bl_map.specs.Firmware.{FirmwareFacts}
use Rattle.bl_map.specs.FirmwareFaults.{HasFirstMachineFault}
use Rattle.bl_map.specs.NormalMap.{IsNormalMap}
use Rattle.bl_map.specs.MachineFacts.{MachineFacts, IsFirmware}
use Rattle.c_records.specs.declared.given_records.MachineRecord.{MachineRecord}
use Rattle.c_records.specs.declared.misuse.Misuse.TheVariants.{BadSize, TooManyRegions}
use Rattle.c_records.specs.declared.misuse.Misuse.TheVariants.{BadRegion, BadPool, BadFirmware}
use Rattle.c_records.specs.declared.given_fault.GivenFault.{GivenFault}
use Rattle.c_records.specs.declared.given_fault.GivenFault.TheVariants.{Misused, NoMemory}
use Rattle.c_records.specs.Given.{region_given}
use Rattle.c_records.specs.GivenChecks.{machine_misuse}
use Rattle.c_records.specs.FirmwareGiven.{firmware_given}

-- its regions
abbrev pub regions_given : MachineRecord → List Region
regions_given machine = map region_given machine.regions.now

-- the addresses of the pool; one that ends at 2^64 or above ends at 2^64 - 1, which is no frame's
abbrev pub pool_given : MachineRecord → Range ℕ
pool_given machine = record {
  start = machine.pool_base;
  end = min (machine.pool_base + machine.pool_length) (2 ^ 64 - 1);
}

-- what firmware tells of it
abbrev pub machine_firmware : MachineRecord → FirmwareFacts
machine_firmware machine = firmware_given machine.firmware.now

-- its facts, with these runs
abbrev pub machine_facts_given : MachineRecord → List Region → MachineFacts
machine_facts_given machine runs = record {
  size = machine.size;
  runs = runs;
  pool = pool_given machine;
  firmware = machine_firmware machine;
}

-- these are the facts of the machine that is given: their runs are the normal map of its regions
pub record IsMachineGiven (machine : MachineRecord) (facts : MachineFacts) : Type 0 where
  pub is : facts ≡ machine_facts_given machine facts.runs
  pub runs : IsNormalMap (regions_given machine) facts.runs

-- no fault of the machine stands
pub record IsMachineSound (machine : MachineRecord) : Type 0 where
  pub numbers : machine_misuse machine ≡ None
  pub accepted : IsAccepted machine.size (regions_given machine) (pool_given machine)
  pub told :
      IsFirmware (regions_given machine) (pool_given machine) (machine_firmware machine)

-- a fault of a machine's parts, or of what firmware tells, as a misuse
abbrev pub given_fault_of_map : MapFault → GivenFault
given_fault_of_map map_fault.BadSize = Misused BadSize
given_fault_of_map (map_fault.BadRegion index) = Misused BadRegion
given_fault_of_map map_fault.TooManyRegions = Misused TooManyRegions
given_fault_of_map map_fault.BadPool = Misused BadPool
given_fault_of_map map_fault.NoMemory = NoMemory
given_fault_of_map fault = Misused (BadFirmware fault)

-- the machine that is given, whose numbers each stand for something, has this first fault of its
-- parts or of what firmware tells
pub record HasGivenMapFault (machine : MachineRecord) (fault : GivenFault) : Type 0 where
  pub numbers : machine_misuse machine ≡ None
  pub found : MapFault
  pub first : HasFirstMachineFault machine.size (regions_given machine) (pool_given machine)
      (machine_firmware machine) found
  pub is : fault ≡ given_fault_of_map found

-- its first fault: a number that stands for nothing, or else the first of its parts and of what
-- firmware tells; memory may run out
abbrev pub HasMachineFault : MachineRecord → GivenFault → Type 0
HasMachineFault machine fault =
    IsSomeAnd (machine_misuse machine) (λ misuse. fault ≡ Misused misuse)
    ⊎ (fault ≡ NoMemory) ⊎ HasGivenMapFault machine fault
