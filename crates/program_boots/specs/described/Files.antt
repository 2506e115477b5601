-- What may be found for the name of a file. Own.
use Rattle.std.specs.Prelude.{◌≡◌, ℕ, ◌+◌, ◌-◌, ◌<◌, ◌≤◌, if◌then◌else◌, nat_lt, List, length}
use Rattle.std.specs.Prelude.{Option, Some, None}
use Rattle.bl_stage.specs.declared.fetched.Fetched.{Fetched}
use Rattle.bl_stage.specs.declared.fetched.Fetched.TheVariants as fetched
use Rattle.bl_stage.specs.Files.{file_limit, File, missing, too_long, whole}
use Rattle.program_desc.specs.Described.{InlineFile, file_named}

-- a file of these bytes: if they are too many, only how many is found
abbrev pub answer_for : List ℕ → File
answer_for bytes =
    if nat_lt file_limit (length bytes)
    then too_long (length bytes - (file_limit + 1))
    else whole bytes

-- a file that may stand there
abbrev pub answer_if : Option (List ℕ) → File
answer_if None = missing
answer_if (Some bytes) = answer_for bytes

-- of these files, the first of the name
abbrev pub inline_answer : List InlineFile → List ℕ → File
inline_answer files name = answer_if (file_named name files)

-- a file's bytes are found only if they are not too many
abbrev pub KeepsLimit : File → Type 0
KeepsLimit missing = Unit {0}
KeepsLimit (too_long over) = Unit {0}
KeepsLimit (whole bytes) = length bytes ≤ file_limit

-- a file is too long only if it is longer than the limit; so it is its own length that is told,
-- where only one answer may be told
abbrev pub TellsLength : {A : Type 0} → Fetched A → Type 0
TellsLength fetched.Missing = Unit {0}
TellsLength (fetched.TooLong n) = file_limit < n
TellsLength (fetched.Bytes file) = Unit {0}

-- there is one fault more exactly if the file is missing
abbrev pub CountsFault : ℕ → ℕ → File → Type 0
CountsFault before after missing = after ≡ before + 1
CountsFault before after (too_long over) = after ≡ before
CountsFault before after (whole bytes) = after ≡ before

-- files in memory, how many names were missing so far, and those that were asked for
pub record MemFilesFacts : Type 0 where
  pub files : List InlineFile
  pub faults : ℕ
  pub asked : List (List ℕ)
