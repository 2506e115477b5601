-- What the code keeps of memory in a caller's slice.
use Rattle.std.specs.Prelude.{◌≡◌, ℕ, List}
use Rattle.bl_mem.specs.Memory.{overwrite}
use Rattle.bl_mem.specs.declared.slice_memory.SliceMemory.{SliceMemory}

-- the slice has the part from an offset on, and is else the same
pub record IsPutInSlice (old : SliceMemory) (new : SliceMemory) (offset : ℕ) (part : List ℕ)
    : Type 0 where
  pub after : new.held.now ≡ overwrite old.held.now offset part
  pub base : new.base ≡ old.base
  pub lender : new.held.ghost_name ≡ old.held.ghost_name
