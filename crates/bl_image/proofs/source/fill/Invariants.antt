use Rattle.std.proofs.Common.{length, ◌-◌, ◌≡◌, ◌≤◌, take}
use Rattle.bl_image.specs.SourceFacts.{Comes}
use Rattle.bl_image.proofs.source.fill.Given as goal

-- what came stands at the front
abbrev pub invariant-loop-done : goal.invariant-loop-done
invariant-loop-done g l = record {
  within : l.done ≤ length l.out;
  came : Comes (g.S.Source.input l.fn.source) (g.S.Source.input l.source) (take l.done l.out);
  sound : g.S.Source.faults l.source ≡ g.S.Source.faults l.fn.source;
}

abbrev pub decreases-loop-done : goal.decreases-loop-done
decreases-loop-done g l = length l.initial.out - l.done
