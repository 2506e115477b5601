-- Which region a misuse of a machine's regions is about. Own.
use Rattle.std.specs.Prelude.{◌≡◌, ◌+◌, ◌<◌, ◌≤◌, ℕ, false, List, length, take, All, MatchBool}
use Rattle.std.specs.Prelude.{slice_get, IfSome}
use Rattle.bl_map.specs.Limits.{max_region_end}
use Rattle.c_records.specs.declared.given_records.RegionRecord.{RegionRecord}
use Rattle.c_records.specs.GivenChecks.{is_kind, have_kinds}

-- its kind is none
abbrev pub HasNoKind : RegionRecord → Type 0
HasNoKind region = is_kind region.kind ≡ false

-- it ends above 2^52
abbrev pub EndsTooHigh : RegionRecord → Type 0
EndsTooHigh region = max_region_end < region.base + region.length

-- the index of the first of these regions that is bad; if none is, how many there are
pub record IsFirstBad (bad : RegionRecord → Type 0) (regions : List RegionRecord) (index : ℕ) :
    Type 0 where
  pub within : index ≤ length regions
  pub before : All (λ region. ¬ bad region) (take index regions)
  pub here : IfSome (slice_get regions index) bad

-- the one that `BadKind` is about, if there is such a region, or else the one of `BadRegion`
abbrev pub IsBadRegion : List RegionRecord → ℕ → Type 0
IsBadRegion regions index =
    MatchBool (have_kinds regions) (IsFirstBad EndsTooHigh regions index)
    (IsFirstBad HasNoKind regions index)
