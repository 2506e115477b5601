use Rattle.std.proofs.Common.{rules}
use Rattle.bl_plan.proofs.unusable_byte.first_unusable.Goals as goal

pub first_between-requires-clause-before : goal.first_between-requires-clause-before
first_between-requires-clause-before g c = search rules
