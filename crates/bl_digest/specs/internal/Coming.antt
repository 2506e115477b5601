-- What the code keeps as it reads ranges out of files. Own.
use Rattle.std.specs.Prelude.{◌≡◌, ℕ, ◌+◌, ◌<◌, ◌≤◌, List, [], ◌∷◌, length, take}
use Rattle.bl_mem.specs.FileSet.{nth_file}
use Rattle.bl_digest.specs.declared.file_range.FileRange.{FileRange}
use Rattle.bl_digest.specs.Ranges.{bytes_of_ranges}

-- how many bytes ranges have
abbrev pub length_of_ranges : List FileRange → ℕ
length_of_ranges [] = 0
length_of_ranges (range ∷ ranges) = range.length + length_of_ranges ranges

-- a range of one of the files
pub record LiesInFiles (texts : List (List ℕ)) (range : FileRange) : Type 0 where
  pub file : range.file < length texts
  pub inside : range.offset + range.length ≤ length (nth_file texts range.file)

-- these are the first bytes of ranges
abbrev pub AreFirstOf : List (List ℕ) → List FileRange → List ℕ → Type 0
AreFirstOf texts ranges fed = fed ≡ take (length fed) (bytes_of_ranges texts ranges)
