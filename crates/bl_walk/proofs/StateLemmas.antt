-- The part that the kernel is entered in.
use Rattle.std.proofs.Common.{◌≡◌, ℕ, false, List, Some, None, sym}
use Rattle.bl_load.specs.Handover.{Part}
use Rattle.bl_walk.specs.PartBytes.{part_with}
use Rattle.bl_walk.specs.State.{is_kernel, is_in_kernel}

pub entered_part : (parts : List Part) (address : ℕ) (part : Part)
    → Some part ≡ part_with parts address 1
    → is_kernel part ≡ is_in_kernel parts address
unfolding is_in_kernel
entered_part parts address part found = let is = sym found in rw is

pub entered_nowhere : (parts : List Part) (address : ℕ) → None ≡ part_with parts address 1
    → false ≡ is_in_kernel parts address
unfolding is_in_kernel
entered_nowhere parts address missed = let is = sym missed in rw is
