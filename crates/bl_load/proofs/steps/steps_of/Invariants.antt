use Rattle.std.proofs.Common.{◌≡◌, ◌++◌, length, drop}
use Rattle.bl_load.specs.PlanSteps.{steps_from, own_bytes}
use Rattle.bl_load.proofs.steps.steps_of.Given as goal

-- the steps so far, and those of the parts that are left, are all
abbrev pub invariant-loop-part : goal.invariant-loop-part
invariant-loop-part g l =
    record {
      steps : l.steps.items ++ steps_from (length l.own.items) (drop l.part-index l.parts)
          ≡ steps_from 0 l.parts;
      own : l.own.items ++ own_bytes (drop l.part-index l.parts) ≡ own_bytes l.parts;
    }
