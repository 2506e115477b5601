-- How the digest of an image ends. Own.
use Rattle.std.specs.Prelude.{◌≡◌, ℕ, List, ◌++◌}
use Rattle.bl_digest.specs.Digests.{digests_of}
use Rattle.bl_load.specs.Handover.{Handover}
use Rattle.bl_image.specs.ImageHandover.{IsImage}
use Rattle.bl_image.specs.SourceFacts.{SourceFacts}
use Rattle.bl_image.specs.declared.version.Version.{Version}
use Rattle.program_commands.specs.ReadImage.{ReadsImage}
use Rattle.program_say.specs.DigestLines.{digest_lines}

-- the image of a handover came, and its digests were said
pub record IsImageDigested (before after : SourceFacts) (old new : List ℕ) : Type 0 where
  pub handover : Handover
  pub read : ReadsImage before after handover
  pub said : new ≡ old ++ digest_lines (digests_of handover)

-- these bytes are an image, in either version, and these are the lines of its digests
pub record HasDigestLines (image lines : List ℕ) : Type 0 where
  pub version : Version
  pub handover : Handover
  pub is : IsImage version image handover
  pub lines_are : lines ≡ digest_lines (digests_of handover)
