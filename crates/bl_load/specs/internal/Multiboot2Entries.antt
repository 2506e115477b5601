-- What the code has of the modules of a Multiboot2 entry.
use Rattle.std.specs.Prelude.{ℕ, List, map}
use Rattle.bl_load.specs.declared.entry.Module.{Module}

-- the lines of modules
abbrev pub lines_of_modules : {A : Type 0} → List (Module A) → List (List ℕ)
lines_of_modules modules = map (λ m. m.line) modules
