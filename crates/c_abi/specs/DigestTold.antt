-- What C is told of digests. Own.
use Rattle.std.specs.Prelude.{◌≡◌, ◌≢◌, ℕ, Bool, true, false, List, ◌++◌, length, map, take, drop}
use Rattle.std.specs.Prelude.{Option, Some, None, Result, Ok, Err}
use Rattle.bl_digest.specs.DigestsFacts.{DigestsFacts}
use Rattle.bl_digest.specs.PlanInSteps.{DigestingFacts}
use Rattle.bl_digest.specs.Ranges.{wanted_after, IsWithinWanted}
use Rattle.bl_digest.specs.declared.file_range.FileRange.{FileRange}
use Rattle.bl_digest.specs.declared.part_digest.PartDigest.{PartDigest}
use Rattle.c_records.specs.declared.digest_records.DigestsRecord.{DigestsRecord}
use Rattle.c_records.specs.declared.digest_records.FileRangeRecord.{FileRangeRecord}
use Rattle.c_records.specs.declared.digest_records.PartDigestRecord.{PartDigestRecord}
use Rattle.c_records.specs.declared.end_records.RefusalRecord.{RefusalRecord}
use Rattle.c_records.specs.declared.load_fault.LoadFault.{LoadFault}
use Rattle.c_abi.specs.Digest.{AreDigestsFed, ranges_wanted}
use Rattle.c_records.specs.LoadTold.{after_fault, no_words, place_told}
use Rattle.c_abi.specs.Sessions.{waiting_status}
use Rattle.c_records.specs.Status.{done_status, fault_status}

-- ---- a digest is made

-- a status, which digest is kept, and the record of a refusal: after a fault what was kept still is
abbrev pub TellsDigestMade : Result DigestingFacts LoadFault → ℕ
    → (old new : Option DigestingFacts) → (refusal_old refusal : RefusalRecord) → Type 0
TellsDigestMade (Ok digest) status old new refusal_old refusal =
    (status ≡ done_status) × (new ≡ Some digest) × (refusal ≡ refusal_old)
TellsDigestMade (Err fault) status old new refusal_old refusal =
    (status ≡ fault_status fault) × (new ≡ old) × (refusal ≡ after_fault fault refusal_old)

-- ---- it is fed

-- what it wants next
abbrev pub wanted_of : DigestingFacts → Option FileRange
wanted_of digest = wanted_after (ranges_wanted digest) (length digest.fed)

abbrev pub range_told : FileRange → FileRangeRecord
range_told range =
    record { file = range.file; offset = range.offset; length = range.length; reserved = 0 }

-- what is wanted is told, and that something is; else the record stays as it was
abbrev pub TellsWanted : Option FileRange → (told : Bool) → (old new : FileRangeRecord) → Type 0
TellsWanted None told old new = (told ≡ false) × (new ≡ old)
TellsWanted (Some range) told old new = (told ≡ true) × (new ≡ range_told range)

-- it was fed more than it wants
abbrev pub unwanted_status : ℕ
unwanted_status = 118

-- a status, and the digest after these bytes: fed them, or as it was if they are more than it wants
pub data FeedsDigest (old new : DigestingFacts) (bytes : List ℕ) (status : ℕ) : Type 0 where
  takes : IsWithinWanted (wanted_of old) (length bytes) → status ≡ done_status
      → new ≡ record old { fed = old.fed ++ bytes } → FeedsDigest old new bytes status
  leaves : ¬ IsWithinWanted (wanted_of old) (length bytes) → status ≡ unwanted_status
      → new ≡ old → FeedsDigest old new bytes status

-- ---- the digests

-- what is told beside the status
pub record DigestsTelling : Type 0 where
  pub digests : DigestsRecord
  pub parts : List PartDigestRecord

abbrev pub digests_record : DigestsFacts → DigestsRecord
digests_record digests = record {
  image_length = digests.image.length;
  head_length = digests.image.front_length;
  image_sha256 = digests.image.sha256;
  head_sha256 = digests.image.front_sha256;
  parts = length digests.parts;
  reserved = no_words;
}

abbrev pub part_digest_told : PartDigest → PartDigestRecord
part_digest_told part =
    record { place = place_told part.place; sha256 = part.sha256; reserved = 0 }

-- records whose first ones tell the parts, as many as there is room for
abbrev pub part_digests_told : List PartDigest → List PartDigestRecord → List PartDigestRecord
part_digests_told parts old =
    map part_digest_told (take (length old) parts) ++ drop (length parts) old

abbrev pub digests_told : DigestsFacts → DigestsTelling → DigestsTelling
digests_told digests old = record {
  digests = digests_record digests;
  parts = part_digests_told digests.parts old.parts;
}

-- a status, and what is told of a digest: the digests that it was fed for; or nothing, since it
-- wants bytes
pub data TellsFed (digest : DigestingFacts) (status : ℕ) (old new : DigestsTelling) : Type 0 where
  tells_digests : wanted_of digest ≡ None → (digests : DigestsFacts) → AreDigestsFed digest digests
      → status ≡ done_status → new ≡ digests_told digests old
      → TellsFed digest status old new
  tells_that_it_waits : wanted_of digest ≢ None → status ≡ waiting_status → new ≡ old
      → TellsFed digest status old new

-- a status, and what is told of digests at once, or of a fault
abbrev pub TellsDigests : Result DigestsFacts LoadFault → ℕ → (old new : DigestsTelling)
    → (refusal_old refusal : RefusalRecord) → Type 0
TellsDigests (Ok digests) status old new refusal_old refusal =
    (status ≡ done_status) × (new ≡ digests_told digests old) × (refusal ≡ refusal_old)
TellsDigests (Err fault) status old new refusal_old refusal =
    (status ≡ fault_status fault) × (new ≡ old) × (refusal ≡ after_fault fault refusal_old)
