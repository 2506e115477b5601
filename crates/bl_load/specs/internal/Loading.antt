-- That a part of a plan can be loaded. It speaks of the files' lengths alone, and not of their
-- bytes.
use Rattle.std.specs.Prelude.{ℕ, ◌+◌, ◌≤◌, List}
use Rattle.bl_mem.specs.FileSet.{IsApartFrom}
use Rattle.bl_mem.specs.Memory.{HasRoom}
use Rattle.bl_load.specs.declared.plan.PlannedPart.{PlannedPart}
use Rattle.bl_load.specs.Loadable.{IsInFiles, content_length}

-- a part can be loaded: it is backed, memory has its place with room, and no file lies there
pub record CanLoad {A : Type 0} (lengths : List ℕ) (size : ℕ) (room holds : ℕ → Type 0)
    (part : PlannedPart A) : Type 0 where
  pub there : IsInFiles lengths part.content
  pub short : content_length part.content ≤ part.place.length
  pub inside : part.place.address + part.place.length ≤ size
  pub writable : HasRoom room part.place.address (part.place.address + part.place.length)
  pub beside : IsApartFrom holds part.place.address (part.place.address + part.place.length)
