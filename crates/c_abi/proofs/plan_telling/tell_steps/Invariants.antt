use Rattle.std.proofs.Common.{◌≡◌, ◌++◌, map, take, drop}
use Rattle.c_abi.specs.PlanTold.{step_told}
use Rattle.c_abi.proofs.plan_telling.tell_steps.Given as goal

-- the steps so far, and then what stood there
abbrev pub invariant-loop-index : goal.invariant-loop-index
invariant-loop-index l =
    l.records ≡ map step_told (take l.index l.steps) ++ drop l.index l.fn.records
