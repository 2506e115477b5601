-- What a boot hands over lies in memory, by what its end or its session tells.
use Rattle.std.proofs.Common.{◌≡◌, ℕ, Option, None, Some, Result, Ok, Err}
use Rattle.std.specs.Prelude.{IfOk, IfSome}
use Rattle.std.specs.Borrow.{Bor}
use Rattle.bl_session.specs.declared.session.outcome.BootFault.{BootFault}
use Rattle.bl_session.specs.declared.session.outcome.BootFault.TheVariants.{NoEntryLeft, NoMemory}
use Rattle.bl_session.specs.declared.session.outcome.Outcome.{Outcome}
use Rattle.bl_session.specs.session.Phases.{final_phase}
use Rattle.bl_session.specs.session.Phases.{HandsOverWithin, LiesWithin, PhaseFacts, end_facts}
use Rattle.bl_session.specs.session.Phases.{fault_facts, has_none, hands_over, lacks_memory}
use Rattle.bl_session.specs.session.Phases.{not_started, outcome_facts, told_end, waits}

-- a boot's end
pub end_within : {A : Type 0} (size : ℕ) (end : Result (Outcome A) (BootFault A))
    → IfOk end (λ outcome. LiesWithin size outcome.handoff) → HandsOverWithin size (final_phase end)
end_within size (Ok outcome) within = within
end_within size (Err (NoEntryLeft refused)) within = tt
end_within size (Err NoMemory) within = tt

fault_within : {A : Type 0} (size : ℕ) (why : BootFault A) → HandsOverWithin size (fault_facts why)
fault_within size (NoEntryLeft refused) = tt
fault_within size NoMemory = tt

-- a phase of which this is the end
ended_within : (size : ℕ) (phase end : PhaseFacts) → Some end ≡ end_facts phase
    → HandsOverWithin size end → HandsOverWithin size phase
ended_within size not_started end is within = tt
ended_within size (waits entry rest earlier stage) end is within = tt
ended_within size (hands_over entry earlier handoff) end is within =
    let same : end ≡ hands_over entry earlier handoff = cc in rw same at within
ended_within size (has_none earlier) end is within = tt
ended_within size lacks_memory end is within = tt

unended_within : (size : ℕ) (phase : PhaseFacts) → None ≡ end_facts phase
    → HandsOverWithin size phase
unended_within size not_started is = tt
unended_within size (waits entry rest earlier stage) is = tt
unended_within size (hands_over entry earlier handoff) is = absurd cc
unended_within size (has_none earlier) is = tt
unended_within size lacks_memory is = tt

-- a session's phase, by the end that is told
pub phase_within : {A : Type 0} (size : ℕ) (phase : PhaseFacts)
    (told : Option (Result (Bor (Outcome A)) (Bor (BootFault A)))) → told_end told ≡ end_facts phase
    → IfSome told (λ end. IfOk end (λ outcome. LiesWithin size outcome.now.handoff))
    → HandsOverWithin size phase
phase_within size phase None is within = unended_within size phase is
phase_within size phase (Some (Ok outcome)) is within =
    ended_within size phase (outcome_facts outcome.now) is within
phase_within size phase (Some (Err why)) is within =
    ended_within size phase (fault_facts why.now) is (fault_within size why.now)
