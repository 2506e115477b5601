-- How a session goes from phase to phase. Own.
use Rattle.std.specs.Prelude.{Option, None, Some, Result, Ok, Err}
use Rattle.bl_session.specs.declared.session.outcome.BootFault.TheVariants.{NoMemory}
use Rattle.bl_session.specs.declared.session.phase.Phase.{Phase}
use Rattle.bl_session.specs.declared.session.phase.Phase.TheVariants.{Failed}

-- the phase after an event, by what the attempt made of it: the attempt runs on, or ended, or
-- memory ran out
abbrev pub phase_after : {A E : Type 0} → Phase A → Result (Option (Phase A)) E → Phase A
phase_after phase (Ok None) = phase
phase_after phase (Ok (Some next)) = next
phase_after phase (Err e) = Failed NoMemory
