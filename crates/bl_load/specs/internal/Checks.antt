-- What the code's own checks answer.
use Rattle.std.specs.Prelude.{◌≡◌, Option, Some, None, MatchResult}
use Rattle.std.specs.declared.result.Result.{Result}
use Rattle.bl_load.specs.declared.refusal.Refusal.{Refusal}

-- a check answers the fault, or that there is none
abbrev pub Tells : {T : Type 0} → Result T Refusal → Option Refusal → Type 0
Tells result fault = MatchResult result (λ _. fault ≡ None) (λ refusal. fault ≡ Some refusal)
