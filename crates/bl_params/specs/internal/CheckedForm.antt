-- What the reader keeps as it goes.
use Rattle.std.specs.Prelude.{◌≡◌, ℕ, ◌<◌, ◌≤◌, List, false, Result, MatchResult}
use Rattle.bl_params.specs.BootParamsForm.{breaks_at}
use Rattle.bl_params.specs.Reading.{HasFirstParamFault}
use Rattle.bl_params.specs.declared.fault.ParamFault.{ParamFault}

-- nothing below this offset breaks the form
pub record HasFormBelow (bytes : List ℕ) (end : ℕ) : Type 0 where
  pub sound : (k : ℕ) → k < end → breaks_at bytes k ≡ false

-- nothing from one offset up to another breaks it
abbrev pub HasFormBetween : List ℕ → ℕ → ℕ → Type 0
HasFormBetween bytes start end = (k : ℕ) → start ≤ k → k < end → breaks_at bytes k ≡ false

-- a check found nothing below this offset that breaks the form, and this; or the first fault
abbrev pub GoesOnTo : {X : Type 0} → List ℕ → ℕ → Type 0 → Result X ParamFault → Type 0
GoesOnTo bytes next known result =
    MatchResult result (λ _. HasFormBelow bytes next × known) (HasFirstParamFault bytes)
