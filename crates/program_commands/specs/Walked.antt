-- How a walk of an image ends. Own.
use Rattle.std.specs.Prelude.{◌≡◌, ◌≢◌, ◌⊎◌, ℕ, List, ◌++◌}
use Rattle.bl_load.specs.Handover.{Handover}
use Rattle.bl_image.specs.SourceFacts.{SourceFacts}
use Rattle.bl_walk.specs.Seen.{IsSeen}
use Rattle.bl_walk.specs.SeenFacts.{SeenFacts}
use Rattle.bl_walk.specs.Faults.{HasWalkFault, IsSound, walk_fault_number}
use Rattle.bl_walk.specs.declared.fault.WalkFault.{WalkFault}
use Rattle.bl_walk.specs.declared.fault.WalkFault.TheVariants as walking
use Rattle.program_commands.specs.ReadImage.{ReadsImage, IsNoImage}
use Rattle.program_say.specs.BootAndMapLines.{bad_image_line}
use Rattle.program_say.specs.WalkLines.{walk_lines}

-- what is seen in the image that came was said
pub record IsWalked (before after : SourceFacts) (said_before said_after : List ℕ) : Type 0 where
  pub handover : Handover
  pub read : ReadsImage before after handover
  pub seen : SeenFacts
  pub is_seen : IsSeen handover seen
  pub sound : IsSound handover
  pub said : said_after ≡ said_before ++ walk_lines seen

-- an image came in which a kernel sees nothing, for a fault of this number
pub record ShowsNothing (before after : SourceFacts) (number : ℕ) : Type 0 where
  pub handover : Handover
  pub read : ReadsImage before after handover
  pub fault : WalkFault
  pub no_memory : fault ≢ walking.NoMemory
  pub stands : HasWalkFault handover fault
  pub numbered : number ≡ walk_fault_number fault

-- the image is refused with this number
abbrev pub IsBadImage : SourceFacts → SourceFacts → ℕ → Type 0
IsBadImage before after number = IsNoImage before after number ⊎ ShowsNothing before after number

-- the image is refused, and that was said
pub record IsBlamed (before after : SourceFacts)
    (blamed_before blamed_after : List ℕ) : Type 0 where
  pub number : ℕ
  pub bad : IsBadImage before after number
  pub blamed : blamed_after ≡ blamed_before ++ bad_image_line number
