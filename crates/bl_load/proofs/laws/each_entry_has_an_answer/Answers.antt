use Rattle.bl_load.proofs.TotalLaws.{handover_or_refusal}
use Rattle.bl_load.proofs.laws.each_entry_has_an_answer.Goals as goal

pub returns : goal.returns
returns c = handover_or_refusal
