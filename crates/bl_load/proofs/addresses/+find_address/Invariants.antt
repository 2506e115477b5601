use Rattle.std.proofs.Common.{length}
use Rattle.bl_load.proofs.addresses.+find_address.Given as goal

abbrev pub decreases-find_address : goal.decreases-find_address
decreases-find_address l = length l.places.now
