use Rattle.std.proofs.Common.{arith}
use Rattle.bl_load.proofs.EntryLemmas.{small_address}
use Rattle.bl_load.proofs.addresses.address_of.Goals as goal

pub overflow_cast-result : goal.overflow_cast-result
overflow_cast-result c =
    let small =
    small_address c.args.role c.args.index c.args.places.now 0xFFFFF000 c.requires in
    omega (arith, small, c.find_address.ensures)
