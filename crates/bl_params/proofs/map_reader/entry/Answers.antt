use Rattle.std.proofs.Common.{◌∙◌, ap, not}
use Rattle.bl_params.proofs.FormLemmas.{entry_is, kind_is, quiet_first, quiet_last}
use Rattle.bl_params.proofs.map_reader.entry.Goals as goal

pub check_field-requires-clause-here : goal.check_field-requires-clause-here
check_field-requires-clause-here c =
    entry_is _ c.args.i _ _ c.requires.counted c.u64_in-base.ensures c.u64_in-length.ensures

pub check_field-requires-clause-quiet : goal.check_field-requires-clause-quiet
check_field-requires-clause-quiet c = quiet_first _ c.args.i c.requires.counted

pub check_field-requires-2-clause-here : goal.check_field-requires-2-clause-here
check_field-requires-2-clause-here c =
    ap not c.is_kind.ensures ∙ kind_is _ c.args.i _ c.requires.counted c.u32_in-number.ensures

pub check_field-requires-2-clause-quiet : goal.check_field-requires-2-clause-quiet
check_field-requires-2-clause-quiet c = quiet_last _ c.args.i c.requires.counted
