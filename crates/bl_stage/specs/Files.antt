-- What was fetched for a file: the file, its size and its bytes. Own.
use Rattle.std.specs.Prelude.{ℕ, ◌+◌, ◌-◌, List, [], length, map, Option, None, Some}
use Rattle.bl_stage.specs.declared.fetched.Fetched.{Fetched}
use Rattle.bl_stage.specs.declared.fetched.Fetched.TheVariants.{Missing, TooLong, Bytes}

-- the greatest length of a file, in bytes
abbrev pub file_limit : ℕ
file_limit = 0x40000000

-- a file is missing, or too long (it has file_limit + 1 + over bytes), or has these bytes
pub data File : Type 0 where
  missing : File
  too_long : (over : ℕ) → File
  whole : (bytes : List ℕ) → File

abbrev pub size_of : File → Option ℕ
size_of missing = None
size_of (too_long over) = Some (file_limit + 1 + over)
size_of (whole bytes) = Some (length bytes)

abbrev pub file_bytes : File → List ℕ
file_bytes missing = []
file_bytes (too_long over) = []
file_bytes (whole bytes) = bytes

-- what was fetched, as the file that it is
abbrev pub file_of : {A : Type 0} → Fetched A → File
file_of Missing = missing
file_of (TooLong size) = too_long (size - (file_limit + 1))
file_of (Bytes bytes) = whole bytes

abbrev pub stored_files : {A : Type 0} → List (Fetched A) → List File
stored_files files = map file_of files
