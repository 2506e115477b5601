-- The files of an entry, by the kernel's bytes and by the lengths of the others. Own.
use Rattle.std.specs.Prelude.{◌≡◌, ℕ, List, ◌∷◌}
use Rattle.bl_load.specs.Loadable.{lengths_of}

-- the first file is the kernel, of these bytes; the others have these lengths, and any bytes
pub record HaveKernelAndLengths (kernel lengths : List ℕ) (texts : List (List ℕ)) : Type 0 where
  pub others : List (List ℕ)
  pub are : texts ≡ kernel ∷ others
  pub are_long : lengths_of others ≡ lengths
