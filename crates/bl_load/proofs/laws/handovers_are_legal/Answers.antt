use Rattle.bl_load.proofs.LegalLaws.{handover_legal}
use Rattle.bl_load.proofs.laws.handovers_are_legal.Goals as goal

pub returns : goal.returns
returns c = handover_legal
