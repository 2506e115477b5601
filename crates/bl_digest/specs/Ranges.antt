-- Which ranges of the files are read for a plan, and what of them is wanted next. Own.
use Rattle.std.specs.Prelude.{ℕ, ◌+◌, ◌-◌, ◌%◌, ◌^◌, ◌≤◌, ◌≡◌, List, [], ◌∷◌, ◌++◌, nat_lt}
use Rattle.std.specs.Prelude.{if◌then◌else◌, Option, Some, None, slice_range}
use Rattle.bl_mem.specs.FileSet.{nth_file}
use Rattle.bl_load.specs.declared.step.Step.{Step}
use Rattle.bl_load.specs.declared.step.StepSource.{StepSource}
use Rattle.bl_load.specs.declared.step.StepSource.TheVariants.{File, Own, Zeros}
use Rattle.bl_digest.specs.declared.file_range.FileRange.{FileRange}

-- the range of a file that so many bytes of a source are; none if they are of no file
abbrev pub source_ranges : StepSource → ℕ → List FileRange
source_ranges (File file offset) count =
    record { file = file; offset = offset; length = count } ∷ []
source_ranges (Own offset) count = []
source_ranges Zeros count = []

-- the ranges of files that steps read, in the steps' order
abbrev pub ranges_of : List Step → List FileRange
ranges_of [] = []
ranges_of (step ∷ steps) = source_ranges step.source step.length ++ ranges_of steps

-- the bytes of ranges, one range's after the other's, where the files hold these texts
abbrev pub bytes_of_ranges : List (List ℕ) → List FileRange → List ℕ
bytes_of_ranges texts [] = []
bytes_of_ranges texts (range ∷ ranges) =
    slice_range (nth_file texts range.file) range.offset (range.offset + range.length)
    ++ bytes_of_ranges texts ranges

-- what is left of a range behind its first bytes. An offset is a number of 64 bits; that of a byte
-- of a file never wraps, since no file has 2^64 bytes
abbrev pub range_behind : FileRange → ℕ → FileRange
range_behind range count = record {
  file = range.file;
  offset = (range.offset + count) % 2 ^ 64;
  length = range.length - count;
}

-- what is wanted next of ranges, once so many bytes of them came: what is left of the first that
-- did not come whole
abbrev pub wanted_after : List FileRange → ℕ → Option FileRange
wanted_after [] count = None
wanted_after (range ∷ ranges) count =
    if nat_lt count range.length
    then Some (range_behind range count)
    else wanted_after ranges (count - range.length)

-- so many bytes are no more than are wanted
abbrev pub IsWithinWanted : Option FileRange → ℕ → Type 0
IsWithinWanted None count = count ≡ 0
IsWithinWanted (Some range) count = count ≤ range.length
