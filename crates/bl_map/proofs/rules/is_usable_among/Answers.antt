use Rattle.std.proofs.Common.{rules}
use Rattle.bl_map.proofs.rules.is_usable_among.Goals as goal

pub returns-in-Some-Usable : goal.returns-in-Some-Usable
returns-in-Some-Usable c = search rules
