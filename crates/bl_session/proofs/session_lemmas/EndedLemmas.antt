-- The end of a session that has ended.
use Rattle.std.proofs.Common.{◌≡◌, ◌≢◌, ◌∙◌, false, Option, None, Some, refl, ap, sym}
use Rattle.std.specs.Prelude.{Result, option_map}
use Rattle.bl_session.specs.declared.session.outcome.BootFault.{BootFault}
use Rattle.bl_session.specs.declared.session.outcome.BootFault.TheVariants.{NoEntryLeft, NoMemory}
use Rattle.bl_session.specs.declared.session.outcome.Outcome.{Outcome}
use Rattle.bl_session.specs.session.Phases.{PhaseFacts, not_started, waits, hands_over, has_none}
use Rattle.bl_session.specs.session.Phases.{lacks_memory, is_waiting, end_facts, fault_facts}
use Rattle.bl_session.specs.session.Phases.{final_phase}

pub ended_facts : (phase : PhaseFacts) → phase ≢ not_started → is_waiting phase ≡ false
    → end_facts phase ≡ Some phase
ended_facts not_started started ended = absurd (started refl)
ended_facts (waits entry rest earlier stage) started ended = absurd cc
ended_facts (hands_over entry earlier handoff) started ended = refl
ended_facts (has_none earlier) started ended = refl
ended_facts lacks_memory started ended = refl

pub has_end : (phase : PhaseFacts) (end : Option PhaseFacts) → phase ≢ not_started
    → is_waiting phase ≡ false → end ≡ end_facts phase → end ≡ None → ⊥
has_end phase end started ended is none =
    let some = ended_facts phase started ended in cc

-- what a session that has ended tells as its end
pub ended_with : {A : Type 0} (phase : PhaseFacts)
    (told : Option (Result (Outcome A) (BootFault A))) (end : Result (Outcome A) (BootFault A))
    → phase ≢ not_started → is_waiting phase ≡ false
    → option_map final_phase told ≡ end_facts phase → told ≡ Some end → final_phase end ≡ phase
ended_with phase told end started ended is some =
    let whole : Some (final_phase end) ≡ Some phase =
    sym (ap (option_map final_phase) some) ∙ is ∙ ended_facts phase started ended in
    cc

-- a fault is an end
pub fault_ends : {A : Type 0} (why : BootFault A)
    → Some (fault_facts why) ≡ end_facts (fault_facts why)
fault_ends (NoEntryLeft refused) = refl
fault_ends NoMemory = refl
