use Rattle.bl_params.specs.internal.CheckedForm.{HasFormBelow}
use Rattle.bl_params.proofs.form_checks.pass_front.Given as goal

-- nothing so far breaks the form
abbrev pub invariant-loop-at : goal.invariant-loop-at
invariant-loop-at l = HasFormBelow l.bytes l.at
