-- What bootcore keeps of a file that it reads. Own.
use Rattle.std.specs.Prelude.{ℕ, ◌<◌, ◌≤◌, length}
use Rattle.bl_stage.specs.declared.fetched.Fetched.{Fetched}
use Rattle.bl_stage.specs.declared.fetched.Fetched.TheVariants as fetched

-- a file that stands there was read whole, or not at all where it is longer than a limit
abbrev pub IsReadWhole : {A : Type 0} → ℕ → Fetched A → Type 0
IsReadWhole limit fetched.Missing = ⊥
IsReadWhole limit (fetched.TooLong n) = limit < n
IsReadWhole limit (fetched.Bytes file) = length file ≤ limit
