use Rattle.std.proofs.Common.{sym, ap, ◌∙◌}
use Rattle.bl_load.specs.Handover.{Handover, overwrite_parts}
use Rattle.bl_load.proofs.HandoverLaws.{one_handover}
use Rattle.bl_load.proofs.step_laws.carried_out_steps_are_determined.Goals as goal

pub returns : goal.returns
returns c = λ facts value steps others own held memory a b inside.
    a.written memory inside
    ∙ ap (λ (h : Handover). overwrite_parts h.parts memory)
    (one_handover facts value a.handover b.handover a.handed b.handed)
    ∙ sym (b.written memory inside)
