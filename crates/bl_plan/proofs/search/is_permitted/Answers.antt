use Rattle.std.proofs.Common.{arith}
use Rattle.bl_plan.proofs.BlockLemmas.{not_all}
use Rattle.bl_plan.proofs.search.is_permitted.Goals as goal

pub returns-in-Some : goal.returns-in-Some
returns-in-Some g c =
    λ p. not_all _ _ _ _ (omega (arith, c.requires.filled)) c.in-Some.ensures p.unavoided

pub returns-in-Some-taken_stretch : goal.returns-in-Some-taken_stretch
returns-in-Some-taken_stretch g c =
    λ p.
    not_all _ _ _ _ (omega (arith, c.requires.filled)) c.in-Some-taken_stretch.ensures p.apart

pub returns-in-None : goal.returns-in-None
returns-in-None g c = record {
  aligned = omega arith;
  above = omega arith;
  below = omega arith;
  usable = c.if-not-is_usable.ensures.usable;
  unavoided = c.in_default.ensures;
  apart = c.in-None.ensures;
}
