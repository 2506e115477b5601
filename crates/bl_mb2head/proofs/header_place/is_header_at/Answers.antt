use Rattle.std.proofs.Common.{rules}
use Rattle.bl_mb2head.proofs.header_place.is_header_at.Goals as goal

pub returns : goal.returns
returns g c = search rules
