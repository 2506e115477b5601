-- The detail of a refusal: what is told of it in lines of their own. Own.
use Rattle.std.specs.Prelude.{◌≡◌, ◌+◌, ◌<◌, ℕ, List, map, slice_get, All, Option, Some, None}
use Rattle.std.specs.Prelude.{MatchOption}
use Rattle.bl_mem.specs.Least.{IsLeast}
use Rattle.bl_map.specs.MachineFacts.{MachineFacts, AllUsable}
use Rattle.bl_map.specs.PoolFrames.{open_frames}
use Rattle.bl_plan.specs.Permitted.{AreUnavoided}
use Rattle.bl_plan.specs.Unusable.{IsUnplaceableFrom}
use Rattle.bl_plan.specs.declared.part.Choice.{Choice}
use Rattle.bl_plan.specs.declared.part.Choice.TheVariants.{Fixed, Lowest, Highest, Preferred}
use Rattle.bl_load.specs.Handover.{Handover}
use Rattle.bl_load.specs.Parts.{IsHandover, IsRefusal}
use Rattle.bl_load.specs.Unplaced.{IsUnplaced}
use Rattle.bl_load.specs.EntryValue.{EntryValue}
use Rattle.bl_load.specs.declared.refusal.Refusal.{Refusal}
use Rattle.bl_load.specs.declared.refusal.Refusal.TheVariants.{NotUsable, NoRoom, NoPool}
use Rattle.bl_load.specs.declared.refused_entry.RefusedEntry.{RefusedEntry}
use Rattle.bl_session.specs.attempt.AttemptResult.{part_range}
use Rattle.program_desc.specs.Entries.{Entry}
use Rattle.program_boots.specs.described.DescribedMenu.{entry_value}
use Rattle.program_desc.specs.EntryNames.{file_names}
use Rattle.program_say.specs.Sought.{SoughtFacts, bytes_found}
use Rattle.program_say.specs.declared.subjects.refusal_detail.RefusalDetail.{RefusalDetail}
use Rattle.program_say.specs.declared.subjects.refusal_detail.RefusalDetail.TheVariants as details
use Rattle.program_say.specs.declared.subjects.refusal_detail.ToldRefusal.{ToldRefusal}

-- the value of an entry with what was found for the names of its files
abbrev pub value_sought : SoughtFacts → Entry → EntryValue
value_sought sought entry = entry_value entry (map (bytes_found sought) (file_names entry))

-- ---- a part that finds no place

-- of a part with so many bytes at a fixed address, the first one that is not usable or is avoided,
-- if there is one; of a part whose address is chosen none is told
abbrev pub IsFirstUnplaceable : MachineFacts → (count : ℕ) → Choice → Option ℕ → Type 0
IsFirstUnplaceable facts count (Fixed at) byte =
    MatchOption byte (AllUsable facts at (at + count) × AreUnavoided facts at (at + count))
    (λ a. (a < at + count) × IsLeast (IsUnplaceableFrom facts at) a)
IsFirstUnplaceable facts count (Lowest align low high) byte = byte ≡ None
IsFirstUnplaceable facts count (Highest align low high) byte = byte ≡ None
IsFirstUnplaceable facts count (Preferred at align low high) byte = byte ≡ None

-- the first part that finds no place is told, with that byte
abbrev pub IsPlaceDetail : MachineFacts → EntryValue → RefusalDetail → Type 0
IsPlaceDetail facts value details.Nothing = ⊥
IsPlaceDetail facts value (details.NoPlace row unplaceable) =
    IsUnplaced facts value (Some row)
    × IsFirstUnplaceable facts row.length row.choice unplaceable
IsPlaceDetail facts value (details.Frames beside) = ⊥

-- ---- the frames of the pool

-- how many of the pool's frames meet no part of what the entry hands over, whether or not they are
-- enough; none is told where the entry is refused for what its files hold
abbrev pub AreFramesBeside : MachineFacts → EntryValue → Option ℕ → Type 0
AreFramesBeside facts value None = (refusal : Refusal) × IsRefusal facts value refusal
AreFramesBeside facts value (Some beside) =
    (handover : Handover) × IsHandover facts value handover
    × (beside ≡ open_frames facts.pool (map part_range handover.parts))

abbrev pub IsFramesDetail : MachineFacts → EntryValue → RefusalDetail → Type 0
IsFramesDetail facts value details.Nothing = ⊥
IsFramesDetail facts value (details.NoPlace row unplaceable) = ⊥
IsFramesDetail facts value (details.Frames beside) = AreFramesBeside facts value beside

-- ---- a refusal

-- of an entry of this value: 19 and 20 tell the part, 21 the frames, any other one nothing
abbrev pub IsRefusalDetail : MachineFacts → EntryValue → Refusal → RefusalDetail → Type 0
IsRefusalDetail facts value NotUsable detail = IsPlaceDetail facts value detail
IsRefusalDetail facts value NoRoom detail = IsPlaceDetail facts value detail
IsRefusalDetail facts value NoPool detail = IsFramesDetail facts value detail
IsRefusalDetail facts value _ detail = detail ≡ details.Nothing

abbrev pub IsRefusalDetailOrNothing : MachineFacts → SoughtFacts → Option Entry → Refusal
    → RefusalDetail → Type 0
IsRefusalDetailOrNothing facts sought None refusal detail = detail ≡ details.Nothing
IsRefusalDetailOrNothing facts sought (Some entry) refusal detail =
    IsRefusalDetail facts (value_sought sought entry) refusal detail

-- of an entry of a menu
abbrev pub HasDetail : MachineFacts → List Entry → SoughtFacts → ToldRefusal → Type 0
HasDetail facts entries sought told =
    IsRefusalDetailOrNothing facts sought (slice_get entries told.refused.entry)
    told.refused.refusal told.detail

-- these refusals are told, each with its detail
pub record AreToldRefusals (facts : MachineFacts) (entries : List Entry) (sought : SoughtFacts)
    (refused : List RefusedEntry) (told : List ToldRefusal) : Type 0 where
  pub each : map (λ t. t.refused) told ≡ refused
  pub details : All (HasDetail facts entries sought) told
