use Rattle.bl_params.proofs.FirmwareLaws.{told_firmware_is_sound}
use Rattle.bl_params.proofs.laws.told_firmware_is_sound.Goals as goal

pub returns : goal.returns
returns c = told_firmware_is_sound
