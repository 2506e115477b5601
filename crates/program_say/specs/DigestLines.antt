-- The lines that tell digests: of an image, of its head with the records, and of each part. Own.
-- A word stands in a field as `printf` puts it there (POSIX.1-2017, Base Definitions, 5 "File
-- Format Notation": the field width): blanks fill the field up to its width, and a longer word
-- stands whole.
use Rattle.std.specs.Prelude.{ℕ, ◌-◌, List, ◌++◌, length, replicate, codes, decimal}
use Rattle.std.specs.List.{flat_map}
use Rattle.hex.specs.Hex.{encode_lower}
use Rattle.bl_digest.specs.DigestsFacts.{DigestsFacts}
use Rattle.bl_digest.specs.declared.part_digest.PartDigest.{PartDigest}
use Rattle.program_say.specs.PartNames.{part_name}
use Rattle.program_say.specs.Addresses.{hex8}

-- ---- fields

-- a word at the left of a field of this width, and at the right
unfoldable pub at_left : ℕ → List ℕ → List ℕ
at_left width word = word ++ replicate (width - length word) 32

unfoldable pub at_right : ℕ → List ℕ → List ℕ
at_right width word = replicate (width - length word) 32 ++ word

-- a number of bytes, and the digest of these
unfoldable pub bytes_words : ℕ → List ℕ → List ℕ
bytes_words count digest =
    at_right 10 (decimal count) ++ codes " " ++ encode_lower digest ++ codes "\n"

-- behind a name, an index and an address
unfoldable pub digest_line : List ℕ → List ℕ → List ℕ → ℕ → List ℕ → List ℕ
digest_line name index address count digest =
    at_left 11 name ++ codes " " ++ at_right 5 index ++ codes " " ++ at_right 8 address
    ++ codes " " ++ bytes_words count digest

-- ---- the lines

-- a part, which one of its role, its address
unfoldable pub part_digest_line : PartDigest → List ℕ
part_digest_line part =
    digest_line (part_name part.place.role) (decimal part.place.index) (hex8 part.place.address)
    part.place.length part.sha256

-- the image and its head, which have no index and no address, and each part
unfoldable pub digest_lines : DigestsFacts → List ℕ
digest_lines digests =
    digest_line (codes "image") (codes "-") (codes "-") digests.image.length digests.image.sha256
    ++ digest_line (codes "head") (codes "-") (codes "-") digests.image.front_length
    digests.image.front_sha256
    ++ flat_map part_digest_line digests.parts
