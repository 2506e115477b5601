use Rattle.std.proofs.Common.{◌-◌}
use Rattle.bl_plan.proofs.unusable_byte.+first_between.Given as goal

abbrev pub decreases-first_between : goal.decreases-first_between
decreases-first_between g l = l.high - l.low
