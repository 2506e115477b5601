-- What comes of an entry whose digests C asks for: a digest that is fed its files as they come, or
-- at once the digests of what a load of it hands over, or why it is not loaded. Own.
use Rattle.std.specs.Prelude.{◌≡◌, ◌+◌, ◌<◌, ◌≤◌, ℕ, List, [], length, slice_index, All}
use Rattle.std.specs.Prelude.{Result, Ok, Err}
use Rattle.bl_map.specs.MachineFacts.{MachineFacts}
use Rattle.bl_load.specs.HandoffFacts.{max_parts}
use Rattle.bl_load.specs.Handover.{Handover}
use Rattle.bl_load.specs.Parts.{IsHandover}
use Rattle.bl_digest.specs.Digests.{digests_of}
use Rattle.bl_digest.specs.DigestsFacts.{DigestsFacts}
use Rattle.bl_digest.specs.PlanInSteps.{DigestingFacts, handover_in_steps, handover_fed}
use Rattle.bl_digest.specs.Ranges.{bytes_of_ranges, ranges_of}
use Rattle.bl_digest.specs.declared.file_range.FileRange.{FileRange}
use Rattle.c_records.specs.declared.given_records.MachineRecord.{MachineRecord}
use Rattle.c_records.specs.declared.given_records.EntryRecord.{EntryRecord}
use Rattle.c_records.specs.declared.load_fault.LoadFault.{LoadFault}
use Rattle.c_records.specs.Given.{texts_given, value_given, value_with}
use Rattle.c_records.specs.EntryFaults.{IsEntrySound}
use Rattle.c_records.specs.Machines.{IsMachineGiven, IsMachineSound}
use Rattle.c_abi.specs.Plan.{file_lengths, HasStepsOf}
use Rattle.c_abi.specs.Prepare.{AreFilesOf, IsNotPrepared}

-- ---- as files come

-- the ranges of files that a digest wants, in its order
abbrev pub ranges_wanted : DigestingFacts → List FileRange
ranges_wanted digest = ranges_of digest.plan.steps

-- a range is not empty, and lies in a file, where files have these lengths
pub record IsInFile (lengths : List ℕ) (range : FileRange) : Type 0 where
  pub filled : 1 ≤ range.length
  pub file : range.file < length lengths
  pub inside : range.offset + range.length ≤ slice_index lengths range.file

-- on the machine that is given, where no misuse stands: nothing was fed, and the ranges that are
-- wanted lie in the files. It is the digest for all files of the entry: its steps are those of the
-- entry's plan, so that no byte of a file but a setup header's is its own, and no range is wanted
-- beside the plan's; fed these ranges of them, it is of what the entry hands over then
pub record IsDigestMade (machine : MachineRecord) (entry : EntryRecord) (digest : DigestingFacts) :
    Type 0 where
  pub facts : MachineFacts
  pub machine_is : IsMachineGiven machine facts
  pub machine_sound : IsMachineSound machine
  pub entry_sound : IsEntrySound entry
  pub begins : digest.fed ≡ []
  pub inside : All (IsInFile (file_lengths entry)) (ranges_wanted digest)
  pub is_plan :
      (texts : List (List ℕ)) → AreFilesOf entry texts
      → HasStepsOf facts (value_with entry texts) digest.plan.steps digest.plan.own
  pub handed :
      (texts : List (List ℕ)) → AreFilesOf entry texts
      → IsHandover facts (value_with entry texts) (handover_in_steps texts digest.plan)

-- how a call ends that makes a digest: a fault is that of a preparation that has room for the
-- places, for all files of the entry
abbrev pub IsGivenDigestEnd : MachineRecord → EntryRecord → Result DigestingFacts LoadFault → Type 0
IsGivenDigestEnd machine entry (Ok digest) = IsDigestMade machine entry digest
IsGivenDigestEnd machine entry (Err fault) =
    (texts : List (List ℕ)) → AreFilesOf entry texts
    → IsNotPrepared machine entry texts max_parts fault

-- what a digest was fed for: the digests of what is handed over by the bytes that came; so they are
-- those of files, whatever else these hold, of which the ranges were fed
pub record AreDigestsFed (digest : DigestingFacts) (digests : DigestsFacts) : Type 0 where
  pub came : digests ≡ digests_of (handover_fed digest)
  pub files :
      (texts : List (List ℕ)) → digest.fed ≡ bytes_of_ranges texts (ranges_wanted digest)
      → digests ≡ digests_of (handover_in_steps texts digest.plan)

-- ---- at once

-- on the machine that is given, where no misuse stands: the digests of what the entry hands over
pub record AreDigestsGiven (machine : MachineRecord) (entry : EntryRecord)
    (digests : DigestsFacts) : Type 0 where
  pub facts : MachineFacts
  pub machine_is : IsMachineGiven machine facts
  pub machine_sound : IsMachineSound machine
  pub entry_sound : IsEntrySound entry
  pub handover : Handover
  pub handed : IsHandover facts (value_given entry) handover
  pub digests_are : digests ≡ digests_of handover

-- how a call ends that tells them: a fault is that of a load
abbrev pub IsGivenDigestsEnd : MachineRecord → EntryRecord → Result DigestsFacts LoadFault → Type 0
IsGivenDigestsEnd machine entry (Ok digests) = AreDigestsGiven machine entry digests
IsGivenDigestsEnd machine entry (Err fault) =
    IsNotPrepared machine entry (texts_given entry) max_parts fault
