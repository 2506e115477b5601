use Rattle.std.proofs.Common.{◌∙◌, sym}
use Rattle.bl_params.proofs.FormLemmas.{front_is}
use Rattle.bl_params.proofs.form_checks.pass_front.Goals as goal

pub check_field-requires-clause-here : goal.check_field-requires-clause-here
check_field-requires-clause-here c =
    c.breaks_front.ensures ∙ sym (front_is _ c.loop-at.at c.loop-at-test.true)
