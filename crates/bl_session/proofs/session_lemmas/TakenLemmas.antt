-- What an attempt that waits makes of an event, by whether it waits for it.
use Rattle.std.proofs.Common.{◌≡◌, ◌≢◌, ℕ, true, false, MatchBool, List, Option, None, Some, Result, Ok, Err}
use Rattle.std.proofs.Common.{ap, drop, inl, inr, refl}
use Rattle.bl_load.specs.declared.refusal.Refusal.TheVariants.{FileFault}
use Rattle.bl_stage.specs.PieceStates.{piece_states}
use Rattle.bl_store.specs.declared.ticket.Ticket.{Ticket}
use Rattle.bl_session.specs.declared.session.phase.BootContext.{BootContext}
use Rattle.bl_session.specs.declared.session.phase.Running.{Running}
use Rattle.bl_session.specs.declared.session.phase.Phase.{Phase}
use Rattle.bl_session.specs.declared.session.phase.Phase.TheVariants.{Failed, HandedOver, Unstarted}
use Rattle.bl_session.specs.declared.session.phase.Phase.TheVariants.{Waits}
use Rattle.bl_session.specs.declared.session.outcome.BootFault.TheVariants.{NoEntryLeft, NoMemory}
use Rattle.bl_session.specs.declared.session.outcome.Progress.{Progress}
use Rattle.bl_session.specs.session.BootMemory.{IsMemoryAt}
use Rattle.bl_session.specs.session.BootSteps.{BootFacts, StepsToOrFails, attempt_number, is_taken}
use Rattle.bl_store.specs.Events.{EventFacts, fault}
use Rattle.bl_session.specs.session.BootSteps.{is_wanted, progress}
use Rattle.bl_session.specs.internal.session.KeptPhases.{IsPhaseKept, facts_of_boot, phase_by}
use Rattle.bl_session.specs.internal.session.KeptPhases.{running_in, state_in, state_of}
use Rattle.bl_session.specs.internal.session.BootCalls.{FallsBack, LeadsToPhase}
use Rattle.bl_session.specs.internal.session.BootCalls.{TakesEventOn}
use Rattle.bl_session.specs.internal.session.PhaseMoves.{phase_after}
use Rattle.bl_session.proofs.session_lemmas.StepLemmas.{by_test, memory_taken}
use Rattle.bl_session.proofs.session_lemmas.StepFaultLemmas.{ends_taken, lacks_fault, same_itself}
use Rattle.bl_session.proofs.session_lemmas.StepFaultLemmas.{steps_fault}

pub not_taken : {A E : Type 0} (boot : BootContext A) (event : EventFacts) (r : Running A)
    (bytes : List ℕ) → is_taken (running_in boot bytes r) event ≡ false
    → IsPhaseKept boot.machine.now boot.menu.now (Waits r)
    → TakesEventOn {E = E} boot event r r bytes bytes (Ok None)
not_taken boot event r bytes not_wanted kept = record {
  step = by_test false (is_taken (running_in boot bytes r) event) _ _ not_wanted refl;
  lacking = tt;
  memory = by_test false (is_taken (running_in boot bytes r) event) _ _ not_wanted refl;
  unchanged = λ same. (refl, refl);
  stands = kept;
  err = tt;
}

pub fault_taken : {A E : Type 0} (boot : BootContext A) (ticket : Ticket) (r next : Running A)
    (old new : List ℕ) (result : Result (Option (Phase A)) E)
    → is_wanted r.earlier.items (piece_states old r.stage) (fault ticket) ≡ true
    → LeadsToPhase boot (FallsBack boot r (FileFault ticket.file)) (phase_by next) old new result
    → TakesEventOn boot (fault ticket) r next old new result
fault_taken boot ticket r next old new result wanted leads =
    let files = piece_states old r.stage in
    let rest = drop r.next boot.menu.now.attempts in
    let state = λ (ended : Option (Phase _)). state_in boot new (phase_by next ended) in
    record {
      step =
          steps_fault (facts_of_boot boot) r.entry rest r.earlier.items files ticket result state
          wanted leads.state;
      lacking = lacks_fault r.entry rest r.earlier.items files ticket result wanted;
      memory =
          memory_taken boot.machine.now.pool (is_wanted r.earlier.items files (fault ticket)) old
          old new result state wanted (same_itself boot.machine.now.pool old) leads.memory;
      unchanged = λ not_wanted. absurd cc;
      stands = leads.stands;
      err = leads.err;
    }

-- ---- a session

-- a boot that stood at a phase took an event, and told how far it came. One that it does not wait
-- for changes nothing
pub record HasTakenEvent {A : Type 0} (facts : BootFacts) (event : EventFacts) (p q : Phase A)
    (old new : List ℕ) (told : Progress) : Type 0 where
  pub step :
      StepsToOrFails facts (state_of facts.menu.attempts old p) event
      (state_of facts.menu.attempts new q)
  pub progress :
      told
      ≡ progress (attempt_number (state_of facts.menu.attempts old p))
      (state_of facts.menu.attempts new q)
  pub memory :
      MatchBool (is_taken (state_of facts.menu.attempts old p) event)
      (IsMemoryAt facts.machine.pool (state_of facts.menu.attempts new q) old new) (new ≡ old)
  pub unchanged : is_taken (state_of facts.menu.attempts old p) event ≡ false → q ≡ p
  pub stands : IsPhaseKept facts.machine facts.menu q

ended_on : {A E : Type 0} (boot : BootContext A) (event : EventFacts) (r next : Running A)
    (old new : List ℕ) (result : Result (Option (Phase A)) E) (told : Progress)
    → TakesEventOn boot event r next old new result
    → told
    ≡ progress (attempt_number (running_in boot old r))
    (state_in boot new (phase_after (Waits next) result))
    → HasTakenEvent (facts_of_boot boot) event (Waits r) (phase_after (Waits next) result) old new
    told
ended_on boot event r next old new (Ok None) told taken is = record {
  step = inl taken.step;
  progress = is;
  memory = taken.memory;
  unchanged = λ same. ap Waits (taken.unchanged same).1;
  stands = taken.stands;
}
ended_on boot event r next old new (Ok (Some phase)) told taken is = record {
  step = inl taken.step;
  progress = is;
  memory = taken.memory;
  unchanged = λ same. let runs_on = (taken.unchanged same).0 in absurd cc;
  stands = taken.stands;
}
ended_on boot event r next old new (Err e) told taken is = record {
  step = inr (refl, taken.lacking);
  progress = is;
  memory =
      by_test true (is_taken (running_in boot old r) event) _ _
      (ends_taken (running_in boot old r) event taken.lacking) taken.err;
  unchanged = λ same. let runs_on = (taken.unchanged same).0 in absurd cc;
  stands = tt;
}

-- the phase that it goes on to is kept
pub goes_to_kept : {A E : Type 0} (boot : BootContext A) (event : EventFacts) (r next : Running A)
    (old new : List ℕ) (result : Result (Option (Phase A)) E)
    → TakesEventOn boot event r next old new result
    → IsPhaseKept boot.machine.now boot.menu.now (phase_after (Waits next) result)
goes_to_kept boot event r next old new (Ok None) taken = taken.stands
goes_to_kept boot event r next old new (Ok (Some phase)) taken = taken.stands
goes_to_kept boot event r next old new (Err e) taken = tt

kept_as_is : {A : Type 0} (facts : BootFacts) (event : EventFacts) (phase : Phase A)
    (bytes : List ℕ) (told : Progress) → ((r : Running A) → phase ≢ Waits r)
    → IsPhaseKept facts.machine facts.menu phase
    → told
    ≡ progress (attempt_number (state_of facts.menu.attempts bytes phase))
    (state_of facts.menu.attempts bytes phase)
    → HasTakenEvent facts event phase phase bytes bytes told
kept_as_is facts event Unstarted bytes told other kept is =
    record { step = inl refl; progress = is; memory = refl; unchanged = λ same. refl; stands = kept }
kept_as_is facts event (Waits r) bytes told other kept is = absurd (other r refl)
kept_as_is facts event (HandedOver outcome) bytes told other kept is =
    record { step = inl refl; progress = is; memory = refl; unchanged = λ same. refl; stands = kept }
kept_as_is facts event (Failed (NoEntryLeft refused)) bytes told other kept is =
    record { step = inl refl; progress = is; memory = refl; unchanged = λ same. refl; stands = kept }
kept_as_is facts event (Failed NoMemory) bytes told other kept is =
    record { step = inl refl; progress = is; memory = refl; unchanged = λ same. refl; stands = kept }

-- one whose attempt waits goes on to the phase after the event
pub goes_on : {A E : Type 0} (boot : BootContext A) (event : EventFacts) (p q : Phase A)
    (r next : Running A) (old mid new : List ℕ) (result : Result (Option (Phase A)) E)
    (number : ℕ) (told : Progress)
    → p ≡ Waits r → q ≡ phase_after (Waits next) result → new ≡ mid
    → number ≡ attempt_number (state_in boot old p) → told ≡ progress number (state_in boot new q)
    → TakesEventOn boot event r next old mid result
    → HasTakenEvent (facts_of_boot boot) event p q old new told
goes_on boot event p q r next old mid new result number told waits goes same counts is taken =
    rw (waits, goes, same)
    (ended_on boot event r next old mid result told taken
    (rw (counts, waits, goes, same) at is))

-- one that waits for nothing stays as it is
pub stays : {A : Type 0} (boot : BootContext A) (event : EventFacts) (p q : Phase A)
    (old new : List ℕ) (number : ℕ) (told : Progress)
    → ((r : Running A) → p ≢ Waits r) → q ≡ p → new ≡ old
    → number ≡ attempt_number (state_in boot old p) → told ≡ progress number (state_in boot new q)
    → IsPhaseKept boot.machine.now boot.menu.now p
    → HasTakenEvent (facts_of_boot boot) event p q old new told
stays boot event p q old new number told other goes same counts is kept =
    rw (goes, same)
    (kept_as_is (facts_of_boot boot) event p old told other kept (rw (counts, goes, same) at is))
