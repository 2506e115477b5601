-- A call that ran out of memory led to no phase.
use Rattle.std.proofs.Common.{List, ℕ, Result, Ok, Err, IsErrAnd}
use Rattle.bl_stage.specs.Ranges.{IsSameOutside}
use Rattle.bl_session.specs.declared.session.phase.BootContext.{BootContext}
use Rattle.bl_session.specs.declared.session.phase.Phase.{Phase}
use Rattle.bl_session.specs.session.BootSteps.{State}
use Rattle.bl_session.specs.internal.session.BootCalls.{LeadsToPhase}

pub lacks_memory : {A P E : Type 0} (boot : BootContext A) (leads : State → Type 0) (phase_of : P → Phase A)
    (old new : List ℕ) (Q : E → Type 0) (result : Result P E) → IsErrAnd result Q
    → IsSameOutside boot.machine.now.pool old new → LeadsToPhase boot leads phase_of old new result
lacks_memory boot leads phase_of old new Q (Ok p) is same = absurd is
lacks_memory boot leads phase_of old new Q (Err e) is same =
    record { state = tt; memory = tt; stands = tt; err = same }
