-- What comes of the head of an image, with its records, that C has read. Own.
use Rattle.std.specs.Prelude.{◌≡◌, ◌<◌, ◌≤◌, ℕ, List, length, Result, Ok, Err, IfOk, MatchResult}
use Rattle.bl_load.specs.HandoffFacts.{HandoffFacts}
use Rattle.bl_image.specs.Front.{BeginWithFront, FrontFacts, IsKeptFront}
use Rattle.bl_image.specs.ImageFaults.{front_fault}
use Rattle.bl_image.specs.SourceFacts.{IsBytesFault}
use Rattle.bl_image.specs.declared.fault.ImageFault.{ImageFault}
use Rattle.c_records.specs.LoadTold.{handoff_told, places_told}
use Rattle.c_records.specs.Status.{done_status, misuse_status}
use Rattle.c_records.specs.WalkTold.{image_status, stop_told}
use Rattle.c_records.specs.declared.end_records.HandoffRecord.{HandoffRecord}
use Rattle.c_records.specs.declared.end_records.PlaceRecord.{PlaceRecord}
use Rattle.c_records.specs.declared.end_records.RefusalRecord.{RefusalRecord}
use Rattle.c_records.specs.declared.misuse.Misuse.TheVariants.{SmallRoom}
use Rattle.c_records.specs.declared.seen_records.WalkStop.TheVariants.{NoImage}

-- the bytes begin as an image does that says this before its parts' bytes, whatever follows; or
-- they have that first fault there, or memory ran out
pub record IsHeadEnd (bytes : List ℕ) (end : Result FrontFacts ImageFault) : Type 0 where
  pub read : MatchResult end (BeginWithFront bytes) (IsBytesFault front_fault bytes)
  pub kept : IfOk end IsKeptFront

-- the handoff is told with the number of its places, and these, if there is room for them
pub data TellsHead (handoff : HandoffFacts) (status : ℕ) (told : HandoffRecord)
    (places_old places : List PlaceRecord) : Type 0 where
  tells_places : length handoff.places ≤ length places_old → status ≡ done_status
      → told ≡ handoff_told 0 handoff → places ≡ places_told handoff.places places_old
      → TellsHead handoff status told places_old places
  tells_count : length places_old < length handoff.places → status ≡ misuse_status SmallRoom
      → told ≡ handoff_told 0 handoff → places ≡ places_old
      → TellsHead handoff status told places_old places

-- a status, and what is told of a handoff, or of a fault; what is not told is as it was
abbrev pub TellsHeadEnd : Result FrontFacts ImageFault → ℕ → (told_old told : HandoffRecord)
    → (places_old places : List PlaceRecord) → (fault_old fault : RefusalRecord) → Type 0
TellsHeadEnd (Ok front) status told_old told places_old places fault_old fault =
    TellsHead front.handoff status told places_old places × (fault ≡ fault_old)
TellsHeadEnd (Err found) status told_old told places_old places fault_old fault =
    (status ≡ image_status found) × (told ≡ told_old) × (places ≡ places_old)
    × (fault ≡ stop_told (NoImage found))
