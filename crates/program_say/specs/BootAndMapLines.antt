-- The lines of a boot and of a map, and that of a bad image. Own.
use Rattle.std.specs.Prelude.{ℕ, ◌+◌, ◌-◌, false, List, ◌++◌, length, replicate, codes, decimal}
use Rattle.std.specs.Fmt.{digits}
use Rattle.std.specs.List.{flat_map}
use Rattle.std.specs.declared.ops.Range.{Range}
use Rattle.bl_map.specs.declared.region.Region.{Region}
use Rattle.bl_load.specs.RefusalNumbers.{refusal_number}
use Rattle.bl_load.specs.declared.refused_entry.RefusedEntry.{RefusedEntry}
use Rattle.bl_map.specs.Kinds.{kind_name}

-- ---- boot: one line for each refused entry, and one for the end

-- an entry by its index in the menu, and the number of its refusal
abbrev pub refused_line : ℕ → ℕ → List ℕ
refused_line entry number =
    codes "refused " ++ decimal entry ++ codes " " ++ decimal number ++ codes "\n"

abbrev pub refused_lines : List RefusedEntry → List ℕ
refused_lines refused =
    flat_map (λ r. refused_line r.entry (refusal_number r.refusal)) refused

-- the entry that was booted, and its title
abbrev pub booted_line : ℕ → List ℕ → List ℕ
booted_line entry title = codes "booted " ++ decimal entry ++ codes " " ++ title ++ codes "\n"

abbrev pub no_entry_line : List ℕ
no_entry_line = codes "no entry left\n"

-- ---- map: one line for each run, and three for the rest

-- lower-case hexadecimal digits, zeros in front up to sixteen
unfoldable pub hex16 : ℕ → List ℕ
hex16 n = replicate (16 - length (digits 16 false n)) 48 ++ digits 16 false n

-- such a number between two texts
unfoldable pub hex16_between : (before : List ℕ) → ℕ → (behind : List ℕ) → List ℕ
hex16_between before n behind = before ++ hex16 n ++ behind

abbrev pub run_line : Region → List ℕ
run_line run =
    hex16_between (codes "") run.base (codes " ")
    ++ hex16_between (codes "") (run.base + run.length) (codes " ")
    ++ kind_name run.kind ++ codes "\n"

-- how many KiB are usable from 0 on, and from 1 MiB on
abbrev pub low_kib_line : ℕ → List ℕ
low_kib_line low = codes "low " ++ decimal low ++ codes "\n"

abbrev pub high_kib_line : ℕ → List ℕ
high_kib_line high = codes "high " ++ decimal high ++ codes "\n"

abbrev pub pool_line : Range ℕ → List ℕ
pool_line pool =
    hex16_between (codes "pool ") pool.start (codes " ")
    ++ hex16_between (codes "") pool.end (codes "\n")

abbrev pub map_lines : List Region → ℕ → ℕ → Range ℕ → List ℕ
map_lines runs low high pool =
    flat_map run_line runs ++ low_kib_line low ++ high_kib_line high ++ pool_line pool

-- ---- images

-- what is refused for a fault of this number is no image that a kernel can be entered by; it is
-- said on standard error
abbrev pub bad_image_line : ℕ → List ℕ
bad_image_line number = codes "bad image " ++ decimal number ++ codes "\n"
