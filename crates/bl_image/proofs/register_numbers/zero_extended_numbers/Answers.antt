use Rattle.std.proofs.Common.{◌^◌, arith}
use Rattle.bl_image.specs.Image.{narrow_values}
use Rattle.bl_image.proofs.FitLemmas.{all_below}
use Rattle.bl_image.proofs.register_numbers.zero_extended_numbers.Goals as goal

pub returns-clause-fit : goal.returns-clause-fit
returns-clause-fit c =
    all_below (2 ^ 32) (narrow_values c.args.r.now)
    (omega arith) (omega arith) (omega arith) (omega arith) (omega arith) (omega arith)
    (omega arith) (omega arith) (omega arith) (omega arith) (omega arith) (omega arith)
    (omega arith) (omega arith) (omega arith) (omega arith) (omega arith) (omega arith)
    (omega arith) (omega arith)
