use Rattle.std.proofs.Common.{◌≡◌, ◌++◌, drop}
use Rattle.bl_stage.specs.Files.{stored_files}
use Rattle.bl_session.specs.attempt.AttemptResult.{file_refusal, known_lengths}
use Rattle.program_boots.specs.EntryPlans.{file_sizes}
use Rattle.program_boots.proofs.digesting.size_checks.checked_lengths.Given as goal

-- what is left decides; what was found and what is left give all
abbrev pub invariant-loop-place : goal.invariant-loop-place
invariant-loop-place g l =
    let left = file_sizes (stored_files l.files) (drop l.place l.indices) in
    let all = file_sizes (stored_files l.files) l.indices in
    record {
      refusal : file_refusal l.place left ≡ file_refusal 0 all;
      found : l.lengths.items ++ known_lengths left ≡ known_lengths all;
    }
