use Rattle.std.proofs.Common.{◌≡◌, ◌-◌, ◌≤◌, length}
use Rattle.bl_image.specs.SourceFacts.{Comes}
use Rattle.bl_image.proofs.part_reader.read_bytes.Given as goal

-- what came is kept
abbrev pub invariant-loop-done : goal.invariant-loop-done
invariant-loop-done g l = record {
  within : l.done ≤ l.count;
  size : length l.bytes.items ≡ l.done;
  came : Comes (g.S.Source.input l.fn.source) (g.S.Source.input l.source) l.bytes.items;
  faults : g.S.Source.faults l.source ≡ g.S.Source.faults l.fn.source;
}

abbrev pub decreases-loop-done : goal.decreases-loop-done
decreases-loop-done g l = l.count - l.done
