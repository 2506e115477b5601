use Rattle.std.proofs.Common.{◌^◌, arith}
use Rattle.bl_load.specs.declared.registers.Registers.TheVariants.{Bits64}
use Rattle.bl_image.specs.Image as image
use Rattle.bl_image.proofs.FitLemmas.{all_below}
use Rattle.bl_image.proofs.register_numbers.wide_numbers.Goals as goal

pub returns-clause-fit : goal.returns-clause-fit
returns-clause-fit c =
    all_below (2 ^ 64) (image.wide_values (Bits64 c.args.r))
    (omega arith) (omega arith) (omega arith) (omega arith) (omega arith) (omega arith)
    (omega arith) (omega arith) (omega arith) (omega arith) (omega arith) (omega arith)
    (omega arith) (omega arith) (omega arith) (omega arith) (omega arith) (omega arith)
    (omega arith) (omega arith) (omega arith) (omega arith) (omega arith) (omega arith)
    (omega arith) (omega arith) (omega arith) (omega arith) (omega arith) (omega arith)
    (omega arith)
