-- The digests of an image. Own.
use Rattle.std.specs.Prelude.{List}
use Rattle.bl_digest.specs.declared.part_digest.PartDigest.{PartDigest}
use Rattle.bl_digest.specs.declared.image_digest.ImageDigest.{ImageDigest}

-- what contracts see of `Digests`: those of the image, and of each part in address order
pub record DigestsFacts : Type 0 where
  pub image : ImageDigest
  pub parts : List PartDigest
