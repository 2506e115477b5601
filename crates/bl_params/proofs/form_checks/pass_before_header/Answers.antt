use Rattle.std.proofs.Common.{◌∙◌, sym, arith}
use Rattle.bl_params.proofs.FormLemmas.{count_is, gap_is, secure_boot_is}
use Rattle.bl_params.proofs.form_checks.pass_before_header.Goals as goal

pub check_field-requires-clause-here : goal.check_field-requires-clause-here
check_field-requires-clause-here c = sym (count_is _)

pub pass_zeros-requires-clause-plain : goal.pass_zeros-requires-clause-plain
pass_zeros-requires-clause-plain c = λ k from below. gap_is _ k from (omega arith) (omega arith)

pub check_field-requires-2-clause-here : goal.check_field-requires-2-clause-here
check_field-requires-2-clause-here c = c.breaks_secure_boot.ensures ∙ sym (secure_boot_is _)

pub pass_zeros-requires-2-clause-plain : goal.pass_zeros-requires-2-clause-plain
pass_zeros-requires-2-clause-plain c = λ k from below. gap_is _ k (omega arith) below (omega arith)
