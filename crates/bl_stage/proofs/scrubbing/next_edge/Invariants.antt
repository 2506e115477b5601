use Rattle.std.proofs.Common.{◌≡◌, ℕ, ◌<◌, ◌≤◌, take}
use Rattle.bl_stage.specs.Ranges.{is_in_ranges}
use Rattle.bl_stage.proofs.scrubbing.next_edge.Given as goal

abbrev pub invariant-loop-range : goal.invariant-loop-range
invariant-loop-range l = record {
  above : l.at < l.edge;
  within : l.edge ≤ l.end;
  same : (a : ℕ) → l.at ≤ a → a < l.edge
      → is_in_ranges (take l.range-index l.keep) a ≡ is_in_ranges (take l.range-index l.keep) l.at;
}
