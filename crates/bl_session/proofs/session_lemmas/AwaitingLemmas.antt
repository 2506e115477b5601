-- A session whose attempt waits for pieces, or not.
use Rattle.std.proofs.Common.{◌≡◌, ◌≢◌, ℕ, List, true, refl}
use Rattle.bl_load.specs.declared.refused_entry.RefusedEntry.{RefusedEntry}
use Rattle.bl_stage.specs.PieceStates.{PieceState}
use Rattle.bl_session.specs.declared.session.outcome.BootFault.TheVariants.{NoEntryLeft, NoMemory}
use Rattle.bl_session.specs.declared.session.phase.Phase.{Phase}
use Rattle.bl_session.specs.declared.session.phase.Phase.TheVariants.{Failed, HandedOver, Unstarted}
use Rattle.bl_session.specs.declared.session.phase.Phase.TheVariants.{Waits}
use Rattle.bl_session.specs.declared.session.phase.Running.{Running}
use Rattle.bl_session.specs.session.BootSteps.{on_running}
use Rattle.bl_session.specs.session.Phases.{is_waiting, phase_facts}
use Rattle.bl_session.specs.internal.session.KeptPhases.{state_of}

pub unless_waiting : {A X : Type 0} (attempts bytes : List ℕ) (phase : Phase A) (other : X)
    (runs : ℕ → List ℕ → List RefusedEntry → List (List PieceState) → X)
    → ((r : Running A) → phase ≢ Waits r)
    → other ≡ on_running (state_of attempts bytes phase) other runs
unless_waiting attempts bytes Unstarted other runs idle = refl
unless_waiting attempts bytes (Waits r) other runs idle = absurd (idle r refl)
unless_waiting attempts bytes (HandedOver outcome) other runs idle = refl
unless_waiting attempts bytes (Failed (NoEntryLeft refused)) other runs idle = refl
unless_waiting attempts bytes (Failed NoMemory) other runs idle = refl

pub waits_somewhere : {A : Type 0} (attempts : List ℕ) (phase : Phase A)
    → is_waiting (phase_facts attempts phase) ≡ true → ((r : Running A) → phase ≢ Waits r) → ⊥
waits_somewhere attempts Unstarted waits idle = absurd cc
waits_somewhere attempts (Waits r) waits idle = idle r refl
waits_somewhere attempts (HandedOver outcome) waits idle = absurd cc
waits_somewhere attempts (Failed (NoEntryLeft refused)) waits idle = absurd cc
waits_somewhere attempts (Failed NoMemory) waits idle = absurd cc
