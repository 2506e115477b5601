use Rattle.bl_params.proofs.HeaderFormLemmas.{quiet_1F1, quiet_1FB, quiet_1FF, quiet_203}
use Rattle.bl_params.proofs.HeaderFormLemmas.{vid_mode_is, boot_flag_is, jump_is, long_from}
use Rattle.bl_params.proofs.HeaderFormLemmas.{magic_is}
use Rattle.bl_params.proofs.FormLemmas.{sound_more}
use Rattle.bl_params.proofs.form_checks.pass_before_version.Goals as goal

pub check_field-requires-clause-upto : goal.check_field-requires-clause-upto
check_field-requires-clause-upto c = sound_more _ _ _ c.requires.upto (quiet_1F1 _)

pub check_field-requires-clause-here : goal.check_field-requires-clause-here
check_field-requires-clause-here c = vid_mode_is _ _ c.u16_in.ensures

pub check_field-requires-clause-quiet : goal.check_field-requires-clause-quiet
check_field-requires-clause-quiet c = quiet_1FB _

pub check_field-requires-2-clause-here : goal.check_field-requires-2-clause-here
check_field-requires-2-clause-here c = boot_flag_is _ _ c.u16_in-2.ensures

pub check_field-requires-2-clause-quiet : goal.check_field-requires-2-clause-quiet
check_field-requires-2-clause-quiet c = quiet_1FF _

pub check_field-requires-3-clause-here : goal.check_field-requires-3-clause-here
check_field-requires-3-clause-here c = jump_is _ _ c.end_of_header.ensures.exact

pub check_field-requires-4-clause-here : goal.check_field-requires-4-clause-here
check_field-requires-4-clause-here c =
    magic_is
    _ _ (long_from c.args.bytes.now c.end_of_header.result c.end_of_header.ensures.exact
    c.in_ok-check_field-3.ensures.1) c.u32_in.ensures

pub check_field-requires-4-clause-quiet : goal.check_field-requires-4-clause-quiet
check_field-requires-4-clause-quiet c =
    quiet_203
    _ (long_from c.args.bytes.now c.end_of_header.result c.end_of_header.ensures.exact
    c.in_ok-check_field-3.ensures.1)
