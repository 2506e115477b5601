-- The numbers of faults of an image. Own.
use Rattle.std.specs.Prelude.{ℕ}
use Rattle.bl_image.specs.declared.fault.ImageFault.{ImageFault}
use Rattle.bl_image.specs.declared.fault.ImageFault.TheVariants.{BadMagic, BadVersion, BadHeader}
use Rattle.bl_image.specs.declared.fault.ImageFault.TheVariants.{BadPart, WrongLength}
use Rattle.bl_image.specs.declared.fault.ImageFault.TheVariants.{DeviceFault, NoMemory}

abbrev pub image_fault_number : ImageFault → ℕ
-- >>> tools/refusals: number cases of ImageFault
image_fault_number BadMagic = 71
image_fault_number BadVersion = 72
image_fault_number BadHeader = 73
image_fault_number (BadPart i) = 74
image_fault_number WrongLength = 75
image_fault_number DeviceFault = 76
image_fault_number NoMemory = 77

-- <<<
