use Rattle.std.proofs.Common.{◌≡◌, ℕ, ◌<◌, ◌≤◌, ◌-◌}
use Rattle.bl_map.specs.NormalMap.{kind_at}
use Rattle.bl_map.proofs.rules.are_unusable.Given as goal

-- none of the bytes so far is usable
abbrev pub invariant-loop-at : goal.invariant-loop-at
invariant-loop-at l = record {
  from : l.start ≤ l.at;
  so_far : (a : ℕ) → l.start ≤ a → a < l.at → kind_at l.regions a ≡ 1 → ⊥;
}

abbrev pub decreases-loop-at : goal.decreases-loop-at
decreases-loop-at l = l.end - l.at
