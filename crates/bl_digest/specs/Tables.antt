-- What a table of digests tells of an image. Own.
use Rattle.std.specs.Prelude.{◌≡◌, ℕ, ◌≤◌, List, [], ◌∷◌, length, take, drop}
use Rattle.sha2.specs.Sha256.{sha256}
use Rattle.bl_digest.specs.declared.part_digest.PartDigest.{PartDigest}
use Rattle.bl_digest.specs.DigestsFacts.{DigestsFacts}

-- each row has the digest of as many bytes as its place has, the first row of the first bytes, each
-- other of those behind; no byte is left
abbrev pub AreDigestsOf : List ℕ → List PartDigest → Type 0
AreDigestsOf bytes [] = bytes ≡ []
AreDigestsOf bytes (row ∷ rows) =
    (row.place.length ≤ length bytes)
    × (row.sha256 ≡ sha256 (take row.place.length bytes))
    × AreDigestsOf (drop row.place.length bytes) rows

-- a table covers each byte of an image once by front and parts, and the whole image by its digest
pub record IsTableOf (bytes : List ℕ) (digests : DigestsFacts) : Type 0 where
  pub image_length : digests.image.length ≡ length bytes
  pub image : digests.image.sha256 ≡ sha256 bytes
  pub front_length : digests.image.front_length ≤ length bytes
  pub front : digests.image.front_sha256 ≡ sha256 (take digests.image.front_length bytes)
  pub parts : AreDigestsOf (drop digests.image.front_length bytes) digests.parts
