-- The numbers of faults of boot information. Own.
use Rattle.std.specs.Prelude.{ℕ}
use Rattle.bl_mbi.specs.declared.fault.InfoFault.{InfoFault}
use Rattle.bl_mbi.specs.declared.fault.InfoFault.TheVariants.{WrongLength, BadReserved, BadTag}
use Rattle.bl_mbi.specs.declared.fault.InfoFault.TheVariants.{BadOrder, NoMemory}

abbrev pub info_fault_number : InfoFault → ℕ
-- >>> tools/refusals: number cases of InfoFault
info_fault_number WrongLength = 61
info_fault_number BadReserved = 62
info_fault_number (BadTag offset) = 63
info_fault_number (BadOrder offset) = 64
info_fault_number NoMemory = 65

-- <<<
