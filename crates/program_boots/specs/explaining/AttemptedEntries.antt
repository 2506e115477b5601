-- What is known of an entry that a boot has attempted, before it is told. Own.
use Rattle.std.specs.Prelude.{◌≡◌, ◌⊎◌, ℕ, List, Bool, true, false, Some, slice_get}
use Rattle.bl_map.specs.MachineFacts.{MachineFacts}
use Rattle.bl_load.specs.Handover.{Handover}
use Rattle.bl_load.specs.Parts.{IsHandover, IsRefusal}
use Rattle.bl_load.specs.EntryValue.{EntryValue}
use Rattle.bl_load.specs.declared.refusal.Refusal.{Refusal}
use Rattle.bl_load.specs.declared.refusal.Refusal.TheVariants.{NotUsable, NoRoom}
use Rattle.bl_load.specs.declared.refused_entry.RefusedEntry.{RefusedEntry}
use Rattle.program_desc.specs.Entries.{Entry}
use Rattle.program_say.specs.Sought.{SoughtFacts}
use Rattle.program_boots.specs.explaining.Details.{value_sought}

-- 19 and 20, by which an entry is refused where one of its parts finds no place
abbrev pub is_placing : Refusal → Bool
is_placing NotUsable = true
is_placing NoRoom = true
is_placing _ = false

-- one of them refuses an entry of this value
abbrev pub HasNoPlace : MachineFacts → EntryValue → Type 0
HasNoPlace facts value = IsRefusal facts value NotUsable ⊎ IsRefusal facts value NoRoom

-- such a refusal of an entry of a menu is the first one of its value, with what was found for the
-- names of its files
abbrev pub HasPlaceRefusal : MachineFacts → List Entry → SoughtFacts → RefusedEntry → Type 0
HasPlaceRefusal facts entries sought refused =
    (entry : Entry) → slice_get entries refused.entry ≡ Some entry
    → is_placing refused.refusal ≡ true
    → IsRefusal facts (value_sought sought entry) refused.refusal

-- an entry of this value hands something over
abbrev pub HasHandover : MachineFacts → EntryValue → Type 0
HasHandover facts value = (handover : Handover) × IsHandover facts value handover

-- so does the entry of a menu that has this index, if there is one, with what was found
abbrev pub HasHandoverAt : MachineFacts → List Entry → SoughtFacts → ℕ → Type 0
HasHandoverAt facts entries sought index =
    (entry : Entry) → slice_get entries index ≡ Some entry
    → HasHandover facts (value_sought sought entry)
