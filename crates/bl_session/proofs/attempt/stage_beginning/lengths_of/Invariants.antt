use Rattle.std.proofs.Common.{◌≡◌, ◌++◌, List, Option, None, ℕ, drop, map, slice_index_or}
use Rattle.bl_session.specs.attempt.AttemptResult.{file_refusal}
use Rattle.bl_session.specs.attempt.AttemptResult as attempt
use Rattle.bl_session.proofs.attempt.stage_beginning.lengths_of.Given as goal

-- what is left decides; what was found and what is left give all
abbrev pub invariant-loop-place : goal.invariant-loop-place
invariant-loop-place g l =
    let left : List (Option ℕ) =
    map (λ file. slice_index_or l.sizes file None) (drop l.place l.files) in
    let all : List (Option ℕ) = map (λ file. slice_index_or l.sizes file None) l.files in
    record {
      refusal : file_refusal l.place left ≡ file_refusal 0 all;
      found : l.lengths.items ++ attempt.known_lengths left ≡ attempt.known_lengths all;
    }
