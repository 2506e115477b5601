use Rattle.bl_load.proofs.HandoverLaws.{one_handover, one_refusal, not_both}
use Rattle.bl_load.proofs.laws.handovers_are_determined.Goals as goal

pub returns-clause-one_handover : goal.returns-clause-one_handover
returns-clause-one_handover c = one_handover

pub returns-clause-one_refusal : goal.returns-clause-one_refusal
returns-clause-one_refusal c = one_refusal

pub returns-clause-not_both : goal.returns-clause-not_both
returns-clause-not_both c = not_both
