use Rattle.std.proofs.Common.{rules, arith, ◌≡◌}
use Rattle.std.proofs.lemmas.Grind.{common_steps}
use Rattle.c_abi.proofs.booting.boot_files.Goals as goal

pub returns : goal.returns
returns g c =
    let base : c.boot_slices.new.memory.base ≡ c.args.base = grind (arith, common_steps) in
    let booted =
    rw (base, c.from_base-own.ensures.base, c.from_base-own.ensures.bytes) at
    c.boot_slices.ensures.booted in
    search rules
