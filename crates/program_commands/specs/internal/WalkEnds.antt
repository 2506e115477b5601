-- What the code keeps of how a walk ends, by its result.
use Rattle.std.specs.Prelude.{◌≡◌, ℕ, List, Result, Ok, Err}
use Rattle.bl_image.specs.FaultNumbers.{image_fault_number}
use Rattle.bl_image.specs.SourceFacts.{SourceFacts}
use Rattle.bl_image.specs.declared.fault.ImageFault.{ImageFault}
use Rattle.bl_image.specs.declared.fault.ImageFault.TheVariants as image
use Rattle.bl_walk.specs.Faults.{walk_fault_number}
use Rattle.bl_walk.specs.declared.fault.WalkFault.{WalkFault}
use Rattle.bl_walk.specs.declared.fault.WalkFault.TheVariants as walking
use Rattle.program_commands.specs.Walked.{IsWalked, IsBadImage}
use Rattle.program_commands.specs.declared.image_walk.walk_end.WalkEnd.{WalkEnd}
use Rattle.program_commands.specs.declared.image_walk.walk_end.WalkEnd.TheVariants.{BadImage}
use Rattle.program_commands.specs.declared.image_walk.walk_end.WalkEnd.TheVariants.{Device}
use Rattle.program_commands.specs.declared.image_walk.walk_end.WalkEnd.TheVariants.{NoMemory}

-- a fault of reading
abbrev pub end_of_image_fault : ImageFault → WalkEnd
end_of_image_fault image.DeviceFault = Device
end_of_image_fault image.NoMemory = NoMemory
end_of_image_fault image.BadMagic = BadImage (image_fault_number image.BadMagic)
end_of_image_fault image.BadVersion = BadImage (image_fault_number image.BadVersion)
end_of_image_fault image.BadHeader = BadImage (image_fault_number image.BadHeader)
end_of_image_fault (image.BadPart i) = BadImage (image_fault_number (image.BadPart i))
end_of_image_fault image.WrongLength = BadImage (image_fault_number image.WrongLength)

-- a fault of walking
abbrev pub end_of_walk_fault : WalkFault → WalkEnd
end_of_walk_fault walking.NoMemory = NoMemory
end_of_walk_fault walking.OutsideImage = BadImage (walk_fault_number walking.OutsideImage)
end_of_walk_fault walking.BadInfo = BadImage (walk_fault_number walking.BadInfo)
end_of_walk_fault walking.BadState = BadImage (walk_fault_number walking.BadState)

-- the walk ends so, and says nothing if it does not end well
abbrev pub WalkEnds : SourceFacts → SourceFacts → List ℕ → List ℕ → Result (Unit {0}) WalkEnd
    → Type 0
WalkEnds before after old new (Ok done) = IsWalked before after old new
WalkEnds before after old new (Err (BadImage number)) = IsBadImage before after number × (new ≡ old)
WalkEnds before after old new (Err Device) = new ≡ old
WalkEnds before after old new (Err NoMemory) = new ≡ old

-- how many faults of the source such a walk met
abbrev pub source_faults : Result (Unit {0}) WalkEnd → ℕ
source_faults (Ok done) = 0
source_faults (Err (BadImage number)) = 0
source_faults (Err Device) = 1
source_faults (Err NoMemory) = 0
