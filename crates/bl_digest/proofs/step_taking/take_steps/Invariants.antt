use Rattle.std.proofs.Common.{◌≡◌, ◌-◌, length, drop}
use Rattle.bl_digest.proofs.FillingLemmas.{StandsAt}
use Rattle.bl_digest.proofs.step_taking.take_steps.Given as goal

-- the steps up to this one were taken
abbrev pub invariant-loop-at : goal.invariant-loop-at
invariant-loop-at g l = record {
  stands : StandsAt l.told.own (drop l.from l.told.steps.items) (drop l.at l.told.steps.items)
      l.fn.hasher.taken l.hasher.taken;
  front : l.hasher.front ≡ l.fn.hasher.front;
  places : l.hasher.places ≡ l.fn.hasher.places;
}

abbrev pub decreases-loop-at : goal.decreases-loop-at
decreases-loop-at g l = length l.told.steps.items - l.at
