-- Digests on a machine. Own.
use Rattle.std.specs.Prelude.{◌≡◌, ℕ, List, [], All}
use Rattle.bl_map.specs.MachineFacts.{MachineFacts}
use Rattle.bl_load.specs.Handover.{Handover}
use Rattle.bl_load.specs.Parts.{IsHandover}
use Rattle.bl_digest.specs.Digests.{digests_of}
use Rattle.bl_digest.specs.DigestsFacts.{DigestsFacts}
use Rattle.bl_digest.specs.PlanInSteps.{DigestingFacts, handover_in_steps}
use Rattle.c_abi.specs.Digest.{IsInFile, ranges_wanted}
use Rattle.c_records.specs.Given.{value_given, value_with}
use Rattle.c_abi.specs.Plan.{file_lengths, HasStepsOf}
use Rattle.c_abi.specs.Prepare.{AreFilesOf}
use Rattle.c_records.specs.declared.given_records.EntryRecord.{EntryRecord}

-- it is the entry's digest on a machine of these facts, and was fed nothing
pub record IsDigestOn (facts : MachineFacts) (entry : EntryRecord) (digest : DigestingFacts)
    : Type 0 where
  pub begins : digest.fed ≡ []
  pub inside : All (IsInFile (file_lengths entry)) (ranges_wanted digest)
  pub is_plan :
      (texts : List (List ℕ)) → AreFilesOf entry texts
      → HasStepsOf facts (value_with entry texts) digest.plan.steps digest.plan.own
  pub handed :
      (texts : List (List ℕ)) → AreFilesOf entry texts
      → IsHandover facts (value_with entry texts) (handover_in_steps texts digest.plan)

-- they are the digests of what the entry hands over on a machine of these facts
pub record AreDigestsOn (facts : MachineFacts) (entry : EntryRecord) (digests : DigestsFacts)
    : Type 0 where
  pub handover : Handover
  pub handed : IsHandover facts (value_given entry) handover
  pub digests_are : digests ≡ digests_of handover
