-- What reading an image comes to: a handover, or that what came is no image. Own.
use Rattle.std.specs.Prelude.{◌≡◌, ◌≢◌, ℕ, List, ◌++◌}
use Rattle.bl_load.specs.Handover.{Handover}
use Rattle.bl_image.specs.declared.version.Version.{Version}
use Rattle.bl_image.specs.Image.{spelling}
use Rattle.bl_image.specs.ImageFaults.{image_fault}
use Rattle.bl_image.specs.ImageHandover.{IsKeptByImages}
use Rattle.bl_image.specs.FaultNumbers.{image_fault_number}
use Rattle.bl_image.specs.Versions.{HasProtocol}
use Rattle.bl_image.specs.SourceFacts.{SourceFacts, Comes, IsEnded, IsInputFault}
use Rattle.bl_image.specs.declared.fault.ImageFault.{ImageFault}
use Rattle.bl_image.specs.declared.fault.ImageFault.TheVariants as image
use Rattle.program_say.specs.BootAndMapLines.{bad_image_line}

-- the image of a handover, in a version, came from the source, and then its end
pub record ReadsImage (before after : SourceFacts) (handover : Handover) : Type 0 where
  pub version : Version
  pub has : HasProtocol version handover.protocol
  pub came : Comes before after (spelling version handover)
  pub ended : IsEnded after
  pub kept : IsKeptByImages handover

-- what came is no image, for a fault of this number
pub record IsNoImage (before after : SourceFacts) (number : ℕ) : Type 0 where
  pub fault : ImageFault
  pub no_device : fault ≢ image.DeviceFault
  pub no_memory : fault ≢ image.NoMemory
  pub shown : IsInputFault image_fault before after fault
  pub numbered : number ≡ image_fault_number fault

-- what came is no image, and that was said
pub record IsUnreadable (before after : SourceFacts)
    (blamed_before blamed_after : List ℕ) : Type 0 where
  pub number : ℕ
  pub bad : IsNoImage before after number
  pub blamed : blamed_after ≡ blamed_before ++ bad_image_line number
