use Rattle.bl_params.proofs.HeaderFormLemmas.{quiet_207, quiet_211, quiet_251, version_is}
use Rattle.bl_params.proofs.HeaderFormLemmas.{loader_is, setup_data_is}
use Rattle.bl_params.proofs.form_checks.pass_from_version.Goals as goal

pub check_field-requires-clause-here : goal.check_field-requires-clause-here
check_field-requires-clause-here c = version_is _ _ c.requires.long c.u16_in.ensures

pub check_field-requires-clause-quiet : goal.check_field-requires-clause-quiet
check_field-requires-clause-quiet c = quiet_207 _ c.requires.long

pub check_field-requires-2-clause-here : goal.check_field-requires-2-clause-here
check_field-requires-2-clause-here c = loader_is _ c.requires.long

pub check_field-requires-2-clause-quiet : goal.check_field-requires-2-clause-quiet
check_field-requires-2-clause-quiet c = quiet_211 _ c.requires.long

pub check_field-requires-3-clause-here : goal.check_field-requires-3-clause-here
check_field-requires-3-clause-here c = setup_data_is _ _ c.requires.long c.u64_in.ensures

pub check_field-requires-3-clause-quiet : goal.check_field-requires-3-clause-quiet
check_field-requires-3-clause-quiet c = quiet_251 _ _ c.end_of_header-end.ensures.exact
