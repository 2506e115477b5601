-- The numbers that a call answers. Own.
use Rattle.std.specs.Prelude.{ℕ, ◌+◌}
use Rattle.bl_map.specs.Faults.{map_fault_number}
use Rattle.c_records.specs.declared.misuse.Misuse.{Misuse}
use Rattle.c_records.specs.declared.misuse.Misuse.TheVariants as misuse
use Rattle.c_records.specs.declared.load_fault.LoadFault.{LoadFault}
use Rattle.c_records.specs.declared.load_fault.LoadFault.TheVariants.{Misused, Refused, NoMemory}
use Rattle.c_records.specs.declared.load_fault.LoadFault.TheVariants.{Outside}

-- it was done
abbrev pub done_status : ℕ
done_status = 0

-- the entry was refused, or no entry is left
abbrev pub refused_status : ℕ
refused_status = 1

-- memory ran out
abbrev pub no_memory_status : ℕ
no_memory_status = 4

-- a part begins where the memory that is given is not
abbrev pub outside_status : ℕ
outside_status = 6

abbrev pub misuse_status : Misuse → ℕ
misuse_status misuse.SmallRoom = 104
misuse_status misuse.BadKind = 105
misuse_status misuse.BadSize = 106
misuse_status misuse.TooManyRegions = 107
misuse_status misuse.BadRegion = 108
misuse_status misuse.BadPool = 109
misuse_status misuse.BadMemory = 110
misuse_status misuse.BadProtocol = 111
misuse_status misuse.TooManyEntries = 112
misuse_status misuse.TooManyModules = 113
misuse_status misuse.LongRsdp = 114
misuse_status misuse.BadIndex = 115
misuse_status misuse.BadEfiBits = 119
misuse_status misuse.BadSecureBoot = 120
misuse_status (misuse.BadFirmware fault) = 115 + map_fault_number fault

-- of a load that ended so
abbrev pub fault_status : LoadFault → ℕ
fault_status (Misused misuse) = misuse_status misuse
fault_status (Refused refused) = refused_status
fault_status NoMemory = no_memory_status
fault_status Outside = outside_status
