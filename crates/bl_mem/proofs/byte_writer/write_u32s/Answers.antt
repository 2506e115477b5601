use Rattle.std.proofs.Common.{◌<◌, ◌^◌, ℕ, arith}
use Rattle.std.proofs.lemmas.List.Elements.{All-from_get_or}
use Rattle.bl_mem.proofs.byte_writer.write_u32s.Goals as goal

pub returns-clause-fit : goal.returns-clause-fit
returns-clause-fit c =
    All-from_get_or (λ (n : ℕ). n < 2 ^ 32) c.args.numbers.now 0
    (λ i within. omega (arith, c.type_inv.numbers i))
