use Rattle.std.proofs.Common.{◌+◌, ◌-◌, ◌*◌, ◌≤◌, ◌^◌, length}
use Rattle.bl_map.proofs.SweepLemmas.{IsMapUpto}
use Rattle.bl_map.proofs.EdgeLemmas.{edges_above}
use Rattle.bl_map.proofs.normalization.normal_map.Given as goal

-- the runs so far are the normal map of the addresses so far, and each of them passed an end of a
-- region
abbrev pub invariant-loop-at : goal.invariant-loop-at
invariant-loop-at g l = record {
  map : IsMapUpto l.regions l.runs.items l.at;
  few : length l.runs.items + edges_above l.regions l.at ≤ 2 * length l.regions;
}

abbrev pub decreases-loop-at : goal.decreases-loop-at
decreases-loop-at g l = 2 ^ 52 - l.at
