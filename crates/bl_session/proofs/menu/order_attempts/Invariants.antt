use Rattle.std.proofs.Common.{◌≡◌, ◌++◌, ◌==◌, drop}
use Rattle.bl_session.specs.menu.AttemptOrder.{attempt_order, without_repeats_by}
use Rattle.bl_session.proofs.menu.order_attempts.Given as goal

-- what was taken so far and what is left give all
abbrev pub invariant-loop-index : goal.invariant-loop-index
invariant-loop-index g l =
    l.attempts.items ++ without_repeats_by (λ i j. i == j) l.attempts.items (drop l.index-index l.fallbacks)
    ≡ attempt_order l.default l.fallbacks
