use Rattle.std.proofs.Common.{◌-◌, ◌≡◌, ◌^◌, ℕ, ◌<◌, ◌≤◌}
use Rattle.bl_map.specs.NormalMap.{kind_at}
use Rattle.bl_map.proofs.normalization.run_end.Given as goal

-- the addresses so far have one kind
abbrev pub invariant-loop-end : goal.invariant-loop-end
invariant-loop-end l = record {
  ahead : l.at < l.end;
  within : l.end ≤ 2 ^ 52;
  same : (a : ℕ) → l.at ≤ a → a < l.end → kind_at l.regions a ≡ kind_at l.regions l.at;
}

abbrev pub decreases-loop-end : goal.decreases-loop-end
decreases-loop-end l = 2 ^ 52 - l.end
