use Rattle.std.proofs.Common.{arith}
use Rattle.bl_params.proofs.EfiLimitLemmas.{secure_boot_few}
use Rattle.bl_params.proofs.efi_writer.secure_boot.Goals as goal

pub overflow_cast-result : goal.overflow_cast-result
overflow_cast-result c = omega (arith, secure_boot_few c.in-Some.efi.secure_boot, c.number.ensures)
