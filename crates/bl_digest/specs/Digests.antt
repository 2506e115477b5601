-- The digests of the image of a handover, and of its parts: SHA-256 (FIPS 180-4, 6.2). Own.
use Rattle.std.specs.Prelude.{length, map}
use Rattle.sha2.specs.Sha256.{sha256}
use Rattle.bl_load.specs.Handover.{Part, Handover}
use Rattle.bl_image.specs.Front.{front_of}
use Rattle.bl_image.specs.Image.{spelling}
use Rattle.bl_image.specs.ImageHandover.{part_place}
use Rattle.bl_image.specs.Versions.{written_version}
use Rattle.bl_digest.specs.declared.part_digest.PartDigest.{PartDigest}
use Rattle.bl_digest.specs.declared.image_digest.ImageDigest.{ImageDigest}
use Rattle.bl_digest.specs.DigestsFacts.{DigestsFacts}

-- of a part: where it lies, and the digest of its bytes
abbrev pub part_digest : Part → PartDigest
part_digest part = record { place = part_place part; sha256 = sha256 part.bytes }

-- of a handover: of its image in the version that is written, and of what the image has before the
-- parts' bytes
abbrev pub image_digest : Handover → ImageDigest
image_digest h = record {
  length = length (spelling written_version h);
  sha256 = sha256 (spelling written_version h);
  front_length = length (front_of written_version h);
  front_sha256 = sha256 (front_of written_version h);
}

-- and of each part
abbrev pub digests_of : Handover → DigestsFacts
digests_of h = record { image = image_digest h; parts = map part_digest h.parts }
