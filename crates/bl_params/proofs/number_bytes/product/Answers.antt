use Rattle.std.proofs.Common.{◌^◌, arith}
use Rattle.std.proofs.lemmas.Nat.{mul-lt}
use Rattle.bl_params.proofs.number_bytes.product.Goals as goal

pub overflow_mul-result : goal.overflow_mul-result
overflow_mul-result c =
    omega (arith, mul-lt c.args.a c.args.b (2 ^ 32) (2 ^ 32) (omega arith) (omega arith))
