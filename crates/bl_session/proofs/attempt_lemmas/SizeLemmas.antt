-- Files that are not refused are small.
use Rattle.std.proofs.Common.{◌≡◌, ℕ, zero, suc, ◌+◌, ◌<◌, ◌≤◌, Bool, true, false, if◌then◌else◌}
use Rattle.std.proofs.Common.{nat_lt, List, [], ◌∷◌, length, get_or, Option, None, Some, arith}
use Rattle.std.proofs.Common.{refl, sym, subst}
use Rattle.std.proofs.lemmas.Bool.Decides.{nat_tests}
use Rattle.std.proofs.lemmas.List.{get_or_default}
use Rattle.bl_load.specs.declared.refusal.Refusal.TheVariants.{FileTooLong}
use Rattle.bl_stage.specs.Staged.{Staging}
use Rattle.bl_stage.specs.Files.{file_limit}
use Rattle.bl_session.specs.attempt.AttemptResult.{file_refusal, known_lengths}
use Rattle.bl_session.specs.internal.session.KeptPhases.{HasSmallFiles}

-- the first is small, and none after it is refused
first_small : (place size : ℕ) (sizes : List (Option ℕ)) (long : Bool)
    → nat_lt file_limit size ≡ long
    → (if long then Some (FileTooLong place) else file_refusal (place + 1) sizes) ≡ None
    → (size ≤ file_limit) × (file_refusal (place + 1) sizes ≡ None)
first_small place size sizes true is e = absurd cc
first_small place size sizes false is e = (grind (arith, nat_tests), e)

pub all_small : (place : ℕ) (sizes : List (Option ℕ)) → file_refusal place sizes ≡ None → (k : ℕ)
    → k < length (known_lengths sizes) → get_or (known_lengths sizes) k 0 ≤ file_limit
all_small place [] e k h = absurd (omega arith)
all_small place (None ∷ sizes) e k h = absurd cc
all_small place (Some size ∷ sizes) e zero h =
    (first_small place size sizes (nat_lt file_limit size) refl e).0
all_small place (Some size ∷ sizes) e (suc k) h =
    all_small (place + 1) sizes (first_small place size sizes (nat_lt file_limit size) refl e).1 k
    (omega arith)

-- a stage of files of these lengths
pub stage_small : (sizes : List (Option ℕ)) (stage : Staging) → file_refusal 0 sizes ≡ None
    → stage.sizes ≡ known_lengths sizes → HasSmallFiles stage
stage_small sizes stage none same = record {
  all = λ k d h.
      let n : k < length (known_lengths sizes) = subst (λ (l : List ℕ). k < length l) same h in
      let small = all_small 0 sizes none k n in
      subst (λ (l : List ℕ). get_or l k d ≤ file_limit) (sym same)
      (subst (λ m. m ≤ file_limit) (sym (get_or_default (known_lengths sizes) k d 0 n)) small);
}
