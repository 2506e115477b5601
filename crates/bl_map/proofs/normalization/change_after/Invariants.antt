use Rattle.std.proofs.Common.{◌≡◌, ◌^◌, ℕ, ◌<◌, ◌≤◌, drop}
use Rattle.bl_map.specs.NormalMap.{kind_at}
use Rattle.bl_map.proofs.normalization.change_after.Given as goal

-- up to the next address that the regions so far leave, only the rest can change the kind
abbrev pub invariant-loop-region : goal.invariant-loop-region
invariant-loop-region l = record {
  ahead : l.at < l.next;
  within : l.next ≤ 2 ^ 52;
  same : (a : ℕ) → l.at ≤ a → a < l.next
      → kind_at (drop l.region-index l.regions) a ≡ kind_at (drop l.region-index l.regions) l.at
      → kind_at l.regions a ≡ kind_at l.regions l.at;
}
