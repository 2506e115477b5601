-- What a call leaves that may change a session through its handle. Own.
use Rattle.std.specs.Prelude.{◌≡◌, ◌≢◌, ℕ, List, false, Option, MatchBool, OnErr, OnOk, IfErr, IfOk}
use Rattle.std.specs.Prelude.{Result, length}
use Rattle.bl_mem.specs.Memory.{memory_from}
use Rattle.bl_session.specs.declared.session.outcome.Progress.{Progress}
use Rattle.bl_session.specs.session.BootSteps.{StepsToOrFails, StartsOrFails, is_taken}
use Rattle.bl_store.specs.Events.{EventFacts}
use Rattle.bl_session.specs.session.BootSteps.{attempt_number}
use Rattle.bl_session.specs.session.BootSteps as steps
use Rattle.bl_session.specs.session.BootMemory.{IsMemoryAt}
use Rattle.bl_session.specs.session.Phases.{SessionFacts, state_at, not_started, KeepsFramesIn}
use Rattle.c_handle.specs.declared.handle_fault.HandleFault.{HandleFault}
use Rattle.c_handle.specs.Faults.{IsHandleFault, IsMachineMemory}
use Rattle.c_handle.specs.Handles.{RelatesKept}

-- the start of what a handle keeps, over memory from `base` on that held `before` and holds `after`
pub record IsStarted (old new : Option SessionFacts) (base : ℕ) (before after : List ℕ)
    (told : Result Progress HandleFault) : Type 0 where
  pub err : IfErr told (IsHandleFault old base (length before))
  pub unchanged : OnErr told ((new ≡ old) × (after ≡ before))
  pub fits : OnOk told (RelatesKept old new ⊥
      (λ one other. IsMachineMemory one.boot.machine base (length before)))
  pub boot : OnOk told (RelatesKept old new ⊥ (λ one other. other.boot ≡ one.boot))
  pub step : OnOk told (RelatesKept old new ⊥ (λ one other. StartsOrFails one.boot
      (state_at (memory_from base before) one.phase)
      (state_at (memory_from base after) other.phase)))
  pub progress : IfOk told (λ progress. RelatesKept old new ⊥ (λ one other. progress
      ≡ steps.progress (attempt_number (state_at (memory_from base before) one.phase))
      (state_at (memory_from base after) other.phase)))
  pub memory : OnOk told (RelatesKept old new ⊥ (λ one other. one.phase ≡ not_started
      → IsMemoryAt one.boot.machine.pool (state_at (memory_from base after) other.phase)
      (memory_from base before) (memory_from base after)))
  pub same : OnOk told (RelatesKept old new ⊥ (λ one other. one.phase ≢ not_started
      → (other ≡ one) × (memory_from base after ≡ memory_from base before)))
  pub staged : OnOk told (RelatesKept old new ⊥
      (λ one other. KeepsFramesIn one.boot.machine.pool other.phase))

-- an event of what a handle keeps
pub record IsStepped (old new : Option SessionFacts) (base : ℕ) (before after : List ℕ)
    (event : EventFacts) (told : Result Progress HandleFault) : Type 0 where
  pub err : IfErr told (IsHandleFault old base (length before))
  pub unchanged : OnErr told ((new ≡ old) × (after ≡ before))
  pub fits : OnOk told (RelatesKept old new ⊥
      (λ one other. IsMachineMemory one.boot.machine base (length before)))
  pub boot : OnOk told (RelatesKept old new ⊥ (λ one other. other.boot ≡ one.boot))
  pub step : OnOk told (RelatesKept old new ⊥ (λ one other. StepsToOrFails one.boot
      (state_at (memory_from base before) one.phase) event
      (state_at (memory_from base after) other.phase)))
  pub progress : IfOk told (λ progress. RelatesKept old new ⊥ (λ one other. progress
      ≡ steps.progress (attempt_number (state_at (memory_from base before) one.phase))
      (state_at (memory_from base after) other.phase)))
  pub memory : OnOk told (RelatesKept old new ⊥ (λ one other. MatchBool
      (is_taken (state_at (memory_from base before) one.phase) event)
      (IsMemoryAt one.boot.machine.pool (state_at (memory_from base after) other.phase)
      (memory_from base before) (memory_from base after))
      (memory_from base after ≡ memory_from base before)))
  pub same : OnOk told (RelatesKept old new ⊥ (λ one other.
      is_taken (state_at (memory_from base before) one.phase) event ≡ false → other ≡ one))
  pub staged : OnOk told (RelatesKept old new ⊥
      (λ one other. KeepsFramesIn one.boot.machine.pool other.phase))
