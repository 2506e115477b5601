use Rattle.std.proofs.Common.{rules}
use Rattle.bl_walk.proofs.seen_modules.module_at.Goals as goal

pub follow-requires : goal.follow-requires
follow-requires g c = search rules

pub returns : goal.returns
returns g c = search rules
