-- How a conversion of an image ends. Own.
use Rattle.std.specs.Prelude.{◌≡◌, ◌+◌, ◌⊎◌, ℕ, List, ◌++◌, Some}
use Rattle.bl_load.specs.Handover.{Handover}
use Rattle.bl_image.specs.SinkFacts.{TookBeginning}
use Rattle.bl_image.specs.Image.{spelling}
use Rattle.bl_image.specs.SourceFacts.{SourceFacts}
use Rattle.bl_image.specs.Versions.{written_version}
use Rattle.program_commands.specs.ReadImage.{ReadsImage}
use Rattle.program_commands.specs.Walked.{IsWalked, IsBadImage}

-- the image of a handover came, and the sink took it in the version that is written
pub record IsConverted (before after : SourceFacts) (old new : List ℕ) : Type 0 where
  pub handover : Handover
  pub read : ReadsImage before after handover
  pub written : new ≡ old ++ spelling written_version handover

-- the same, but the sink took a beginning
pub record IsTorn (before after : SourceFacts) (old new : List ℕ) : Type 0 where
  pub handover : Handover
  pub read : ReadsImage before after handover
  pub begun : TookBeginning old new (spelling written_version handover)

-- a device stops a conversion: the source has a fault more and the sink took nothing, or the sink
-- has one more and took a beginning
abbrev pub ConvertStops : ℕ → ℕ → ℕ → ℕ → List ℕ → List ℕ → (List ℕ → List ℕ → Type 0) → Type 0
ConvertStops read_before read_after written_before written_after old new Torn =
    ((read_after ≡ read_before + 1) × (written_after ≡ written_before) × (new ≡ old))
    ⊎ ((read_after ≡ read_before) × (written_after ≡ written_before + 1) × Torn old new)

-- ---- of images whose bytes are known

-- to convert these bytes gave those
pub record Converts (image converted : List ℕ) : Type 0 where
  pub before : SourceFacts
  pub after : SourceFacts
  pub old : List ℕ
  pub known : before.rest ≡ Some image
  pub done : IsConverted before after old (old ++ converted)

-- a walk of these bytes said this
pub record Walks (image said : List ℕ) : Type 0 where
  pub before : SourceFacts
  pub after : SourceFacts
  pub old : List ℕ
  pub known : before.rest ≡ Some image
  pub done : IsWalked before after old (old ++ said)

-- a walk of these bytes refused them with this number
pub record WalkRefuses (image : List ℕ) (number : ℕ) : Type 0 where
  pub before : SourceFacts
  pub after : SourceFacts
  pub known : before.rest ≡ Some image
  pub bad : IsBadImage before after number
