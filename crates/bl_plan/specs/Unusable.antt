-- Which byte of a range is the first that no part may lie on. Own.
use Rattle.std.specs.Prelude.{ℕ, ◌≤◌, All}
use Rattle.bl_map.specs.MachineFacts.{MachineFacts, IsUsable}
use Rattle.bl_mem.specs.Memory.{IsIn}

-- an address from start on that is not usable
pub record IsUnusableFrom (facts : MachineFacts) (start a : ℕ) : Type 0 where
  pub from : start ≤ a
  pub unusable : ¬ IsUsable facts a

-- an address from start on that is not usable, or lies in a range to avoid
pub record IsUnplaceableFrom (facts : MachineFacts) (start a : ℕ) : Type 0 where
  pub from : start ≤ a
  pub unplaceable : ¬ (IsUsable facts a × All (λ range. ¬ IsIn range a) facts.firmware.avoided)
