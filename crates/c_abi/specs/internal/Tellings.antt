-- What stands in the records that C is told by. Own.
use Rattle.std.specs.Prelude.{ℕ, List}
use Rattle.bl_digest.specs.DigestsFacts.{DigestsFacts}
use Rattle.bl_digest.specs.declared.image_digest.ImageDigest.{ImageDigest}
use Rattle.bl_digest.specs.declared.part_digest.PartDigest.{PartDigest}
use Rattle.c_abi.specs.BootTold.{Telling}
use Rattle.c_abi.specs.DigestTold.{DigestsTelling}
use Rattle.c_abi.specs.PlanTold.{PlanTelling}
use Rattle.c_records.specs.declared.digest_records.DigestsRecord.{DigestsRecord}
use Rattle.c_records.specs.declared.digest_records.PartDigestRecord.{PartDigestRecord}
use Rattle.c_records.specs.declared.end_records.HandoffRecord.{HandoffRecord}
use Rattle.c_records.specs.declared.end_records.PlaceRecord.{PlaceRecord}
use Rattle.c_records.specs.declared.end_records.RefusalRecord.{RefusalRecord}
use Rattle.c_records.specs.declared.plan_records.PlanCountsRecord.{PlanCountsRecord}
use Rattle.c_records.specs.declared.plan_records.StepRecord.{StepRecord}

-- of a boot
abbrev pub telling : HandoffRecord → List PlaceRecord → List RefusalRecord → ℕ → Telling
telling handoff places refusals count =
    record { handoff = handoff; places = places; refusals = refusals; count = count }

-- of a plan
abbrev pub plan_telling : HandoffRecord → PlanCountsRecord → List PlaceRecord → List StepRecord
    → List ℕ → PlanTelling
plan_telling handoff counts places steps own =
    record { handoff = handoff; counts = counts; places = places; steps = steps; own = own }

-- digests, by their two pieces
abbrev pub digests_facts : ImageDigest → List PartDigest → DigestsFacts
digests_facts image parts = record { image = image; parts = parts }

-- of digests
abbrev pub digests_telling : DigestsRecord → List PartDigestRecord → DigestsTelling
digests_telling digests parts = record { digests = digests; parts = parts }
