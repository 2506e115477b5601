-- What comes of an image that C has walked. Own.
use Rattle.std.specs.Prelude.{◌≡◌, ℕ, List, Result, Ok, Err}
use Rattle.bl_load.specs.Handover.{Handover}
use Rattle.bl_image.specs.ImageFaults.{image_fault}
use Rattle.bl_image.specs.ImageHandover.{IsImage}
use Rattle.bl_image.specs.SourceFacts.{IsBytesFault}
use Rattle.bl_image.specs.declared.version.Version.{Version}
use Rattle.bl_walk.specs.Faults.{HasWalkFault, IsSound}
use Rattle.bl_walk.specs.Seen.{IsSeen}
use Rattle.bl_walk.specs.SeenFacts.{SeenFacts}
use Rattle.bl_walk.specs.declared.fault.WalkFault.{WalkFault}
use Rattle.c_records.specs.SeenTold.{WalkRecordsFacts, walk_records}
use Rattle.c_records.specs.declared.seen_records.WalkStop.{WalkStop}
use Rattle.c_records.specs.declared.seen_records.WalkStop.TheVariants.{NoImage, NotWalked}

-- the bytes are an image, none of whose faults stand, and this is told of what a kernel sees in it
pub record HasWalked (bytes : List ℕ) (told : WalkRecordsFacts) : Type 0 where
  pub image : Handover
  pub version : Version
  pub image_is : IsImage version bytes image
  pub seen : SeenFacts
  pub seen_is : IsSeen image seen
  pub sound : IsSound image
  pub told_is : told ≡ walk_records seen

-- or the bytes are an image that has this fault
pub record HasFaultInImage (bytes : List ℕ) (fault : WalkFault) : Type 0 where
  pub image : Handover
  pub version : Version
  pub image_is : IsImage version bytes image
  pub has : HasWalkFault image fault

abbrev pub IsNotWalked : List ℕ → WalkStop → Type 0
IsNotWalked bytes (NoImage fault) = IsBytesFault image_fault bytes fault
IsNotWalked bytes (NotWalked fault) = HasFaultInImage bytes fault

abbrev pub IsWalkEnd : List ℕ → Result WalkRecordsFacts WalkStop → Type 0
IsWalkEnd bytes (Ok told) = HasWalked bytes told
IsWalkEnd bytes (Err stop) = IsNotWalked bytes stop
