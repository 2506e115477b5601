use Rattle.std.proofs.Common.{◌≡◌, ◌-◌, ◌≤◌, ℕ, get_or}
use Rattle.std.specs.Prelude.{vec_capacity, vec_len}
use Rattle.bl_stage.specs.internal.PackedCells.{no_group}
use Rattle.bl_stage.proofs.cells.reach.Given as goal

-- so many stand there, and each reads as before
abbrev pub invariant-loop-at : goal.invariant-loop-at
invariant-loop-at g l = record {
  len : l.at ≡ vec_len l.groups;
  same : (i : ℕ) → get_or l.groups.items i no_group ≡ get_or l.fn.groups.items i no_group;
  capacity : vec_capacity l.fn.groups ≤ vec_capacity l.groups;
}

abbrev pub decreases-loop-at : goal.decreases-loop-at
decreases-loop-at g l = l.count - l.at
