-- The normal map of regions, which gives each address its kind. Own.
use Rattle.std.specs.Prelude.{◌≡◌, ◌≢◌, ◌+◌, ◌-◌, ◌/◌, ◌≤◌, ℕ, Bool, ◌&&◌, if◌then◌else◌, ◌==◌}
use Rattle.std.specs.Prelude.{nat_le, nat_lt, min, max, List, [], ◌∷◌, All, AllPairs}
use Rattle.bl_map.specs.Kinds.{kind_number}
use Rattle.bl_map.specs.Limits.{max_region_end, kib, max_low_kib, high_start, max_high_kib}
use Rattle.bl_map.specs.declared.region.Region.{Region}

abbrev pub region_end : Region → ℕ
region_end region = region.base + region.length

-- the region holds this address
abbrev pub region_holds : Region → ℕ → Bool
region_holds region a = nat_le region.base a && nat_lt a (region_end region)

-- the greatest number of the kinds of the regions that hold an address, 0 where none holds it
abbrev pub kind_at : List Region → ℕ → ℕ
kind_at [] a = 0
kind_at (region ∷ regions) a =
    max (if region_holds region a then kind_number region.kind else 0) (kind_at regions a)

-- q lies after p, and has another kind where the two adjoin
abbrev pub ComesBefore : Region → Region → Type 0
ComesBefore p q = (region_end p ≤ q.base) × (region_end p ≡ q.base → p.kind ≢ q.kind)

-- runs are not empty, end at most at 2^52, ascend, and are the longest of one kind
pub record AreRuns (runs : List Region) : Type 0 where
  pub filled : All (λ run. 1 ≤ run.length) runs
  pub low : All (λ run. region_end run ≤ max_region_end) runs
  pub in_order : AllPairs ComesBefore runs

-- the normal map of regions: runs that give each address the kind that the regions give it
pub record IsNormalMap (regions runs : List Region) : Type 0 where
  pub runs_are : AreRuns runs
  pub same_kinds : (a : ℕ) → kind_at runs a ≡ kind_at regions a

-- the end of the run of kind 1 that holds an address, 0 where there is none
abbrev pub usable_end : List Region → ℕ → ℕ
usable_end [] a = 0
usable_end (run ∷ runs) a =
    if (kind_number run.kind == 1) && region_holds run a then region_end run else usable_end runs a

-- Multiboot2 3.6.3 "Basic memory information": mem_lower, KiB of usable memory from address 0 on,
-- at most so many
abbrev pub low_kib : List Region → ℕ
low_kib runs = min (usable_end runs 0 / kib) max_low_kib

-- mem_upper, KiB of usable memory from 1 MiB on, at most so many
abbrev pub high_kib : List Region → ℕ
high_kib runs = min ((usable_end runs high_start - high_start) / kib) max_high_kib
