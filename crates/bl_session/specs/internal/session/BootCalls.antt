-- What the calls of a boot share: where they lead.
use Rattle.std.specs.Prelude.{◌≡◌, ℕ, List, [], ◌∷◌, ◌++◌, drop, true, false}
use Rattle.std.specs.Prelude.{MatchBool}
use Rattle.std.specs.Prelude.{Option, None, Result, Ok, IfOk, OnErr}
use Rattle.bl_load.specs.declared.refusal.Refusal.{Refusal}
use Rattle.bl_load.specs.declared.refused_entry.RefusedEntry.{RefusedEntry}
use Rattle.bl_stage.specs.Ranges.{IsSameOutside}
use Rattle.bl_stage.specs.PieceStates.{piece_states}
use Rattle.bl_session.specs.declared.session.phase.BootContext.{BootContext}
use Rattle.bl_session.specs.declared.session.phase.Running.{Running}
use Rattle.bl_session.specs.declared.session.phase.Phase.{Phase}
use Rattle.bl_session.specs.session.BootSteps.{State, StepsTo, is_taken, ends_attempt}
use Rattle.bl_store.specs.Events.{EventFacts}
use Rattle.bl_session.specs.session.BootSteps.{Begins, Continues}
use Rattle.bl_session.specs.session.BootMemory.{IsMemoryAt}
use Rattle.bl_session.specs.internal.session.KeptPhases.{facts_of_boot, running_in, state_in}
use Rattle.bl_session.specs.internal.session.KeptPhases.{phase_by}
use Rattle.bl_session.specs.internal.session.KeptPhases.{IsPhaseKept}

-- a call led to a phase: its state is one that the definition leads to, and memory is as it is
-- then; or memory ran out, and no byte outside the pool changed
pub record LeadsToPhase {A P E : Type 0} (boot : BootContext A) (leads : State → Type 0)
    (phase_of : P → Phase A) (old new : List ℕ) (result : Result P E) : Type 0 where
  pub state : IfOk result (λ p. leads (state_in boot new (phase_of p)))
  pub memory : IfOk result
      (λ p. IsMemoryAt boot.machine.now.pool (state_in boot new (phase_of p)) old new)
  pub stands : IfOk result (λ p. IsPhaseKept boot.machine.now boot.menu.now (phase_of p))
  pub err : OnErr result (IsSameOutside boot.machine.now.pool old new)

-- what an attempt that waits makes of an event: it runs on, or the phase after it is answered. Only
-- an event that ends it can run out of memory, and one that it does not wait for changes nothing
pub record TakesEventOn {A E : Type 0} (boot : BootContext A) (event : EventFacts)
    (r next : Running A) (old new : List ℕ) (result : Result (Option (Phase A)) E) : Type 0 where
  pub step : IfOk result
      (λ ended. StepsTo (facts_of_boot boot) (running_in boot old r) event
      (state_in boot new (phase_by next ended)))
  pub lacking : OnErr result (ends_attempt (running_in boot old r) event ≡ true)
  pub memory : IfOk result
      (λ ended. MatchBool (is_taken (running_in boot old r) event)
      (IsMemoryAt boot.machine.now.pool (state_in boot new (phase_by next ended)) old new)
      (new ≡ old))
  pub unchanged : is_taken (running_in boot old r) event ≡ false
      → (result ≡ Ok None) × (next ≡ r)
  pub stands : IfOk result
      (λ ended. IsPhaseKept boot.machine.now boot.menu.now (phase_by next ended))
  pub err : OnErr result (IsSameOutside boot.machine.now.pool old new)

-- where a boot goes that begins the attempt of this number, after these refusals
abbrev pub GoesFrom : {A : Type 0} → BootContext A → ℕ → List RefusedEntry → State → Type 0
GoesFrom boot number earlier =
    Begins (facts_of_boot boot) (drop number boot.menu.now.attempts) earlier

-- where it goes from an attempt that is refused for this: on with the next ones
abbrev pub FallsBack : {A : Type 0} → BootContext A → Running A → Refusal → State → Type 0
FallsBack boot r refusal =
    GoesFrom boot r.next (r.earlier.items ++ record { entry = r.entry; refusal = refusal } ∷ [])

-- where it goes from an attempt with the pieces that memory of these bytes holds: it runs on while
-- one is missing, and else ends
abbrev pub GoesOnOrEnds : {A : Type 0} → BootContext A → Running A → (bytes : List ℕ) → State
    → Type 0
GoesOnOrEnds boot r bytes =
    Continues (facts_of_boot boot)
    (Begins (facts_of_boot boot) (drop r.next boot.menu.now.attempts)) r.entry
    (drop r.next boot.menu.now.attempts) r.earlier.items (piece_states bytes r.stage)
