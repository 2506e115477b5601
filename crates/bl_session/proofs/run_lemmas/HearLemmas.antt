-- What an attempt that waits hears of one event.
use Rattle.std.proofs.Common.{◌≡◌, ◌≢◌, ℕ, ◌+◌, ◌<◌, true, MatchBool, List, length, refl, sym, ap}
use Rattle.std.proofs.Common.{subst, ◌∙◌, inl, inr}
use Rattle.std.specs.declared.ops.Range.{Range}
use Rattle.bl_load.specs.declared.refused_entry.RefusedEntry.{RefusedEntry}
use Rattle.bl_stage.specs.PieceStates.{PieceState, piece_states}
use Rattle.bl_session.specs.declared.session.outcome.Progress.{Progress}
use Rattle.bl_session.specs.declared.session.outcome.Progress.TheVariants.{Waiting}
use Rattle.bl_session.specs.session.BootSteps.{BootFacts, unstarted, running, is_taken}
use Rattle.bl_store.specs.Events.{EventFacts}
use Rattle.bl_session.specs.session.BootSteps.{StepsToOrFails, attempt_number, progress}
use Rattle.bl_session.specs.session.BootMemory.{IsMemoryAt}
use Rattle.bl_session.specs.session.Phases.{SessionFacts, PhaseFacts, not_started, waits}
use Rattle.bl_session.specs.session.Phases.{hands_over, has_none, lacks_memory, state_at}
use Rattle.bl_session.specs.session.Phases.{is_waiting}
use Rattle.bl_session.specs.internal.runs.RunParts.{attempts_left}
use Rattle.bl_session.specs.internal.runs.AnswerSteps.{WaitsOnOrEnds}
use Rattle.bl_session.proofs.session_lemmas.NextLemmas.{IsNext, next_step, still_runs, has_ended}
use Rattle.bl_session.proofs.session_lemmas.NextLemmas.{fewer_left}
use Rattle.bl_session.proofs.session_lemmas.NextLemmas.{memory_step}

-- ---- one event

running_waits : (phase : PhaseFacts) (bytes : List ℕ) (entry : ℕ) (rest : List ℕ)
    (earlier : List RefusedEntry) (files : List (List PieceState))
    → state_at bytes phase ≡ running entry rest earlier files → is_waiting phase ≡ true
running_waits not_started bytes entry rest earlier files e = absurd cc
running_waits (waits n r refusals stage) bytes entry rest earlier files e = refl
running_waits (hands_over n refusals handoff) bytes entry rest earlier files e = absurd cc
running_waits (has_none refusals) bytes entry rest earlier files e = absurd cc
running_waits lacks_memory bytes entry rest earlier files e = absurd cc

hears_on : (facts : BootFacts) (event : EventFacts) (old new : PhaseFacts)
    (before after : List ℕ) (p : Progress) → is_waiting old ≡ true
    → StepsToOrFails facts (state_at before old) event (state_at after new)
    → p ≡ progress (attempt_number (state_at before old)) (state_at after new) → p ≡ Waiting
    → is_waiting new ≡ true
hears_on facts event (waits entry rest earlier stage) new before after p w step told is =
    let on =
    still_runs facts entry rest earlier (state_at after new)
    (next_step facts entry rest earlier (piece_states before stage) event (state_at after new)
    step) (sym told ∙ is) in
    running_waits new after entry rest earlier on.0 on.1
hears_on facts event not_started new before after p w step told is = absurd cc
hears_on facts event (hands_over n refusals handoff) new before after p w step told is = absurd cc
hears_on facts event (has_none refusals) new before after p w step told is = absurd cc
hears_on facts event lacks_memory new before after p w step told is = absurd cc

hears_as_many : (facts : BootFacts) (event : EventFacts) (old new : PhaseFacts)
    (before after : List ℕ) (p : Progress) → is_waiting old ≡ true
    → StepsToOrFails facts (state_at before old) event (state_at after new)
    → p ≡ progress (attempt_number (state_at before old)) (state_at after new) → p ≡ Waiting
    → attempts_left (state_at after new) ≡ attempts_left (state_at before old)
hears_as_many facts event (waits entry rest earlier stage) new before after p w step told is =
    let on =
    still_runs facts entry rest earlier (state_at after new)
    (next_step facts entry rest earlier (piece_states before stage) event (state_at after new)
    step) (sym told ∙ is) in
    ap attempts_left on.1
hears_as_many facts event not_started new before after p w step told is = absurd cc
hears_as_many facts event (hands_over n refusals handoff) new before after p w step told is =
    absurd cc
hears_as_many facts event (has_none refusals) new before after p w step told is = absurd cc
hears_as_many facts event lacks_memory new before after p w step told is = absurd cc

hears_fewer : (facts : BootFacts) (event : EventFacts) (old new : PhaseFacts)
    (before after : List ℕ) (p : Progress) → is_waiting old ≡ true
    → StepsToOrFails facts (state_at before old) event (state_at after new)
    → p ≡ progress (attempt_number (state_at before old)) (state_at after new) → p ≢ Waiting
    → attempts_left (state_at after new) < attempts_left (state_at before old)
hears_fewer facts event (waits entry rest earlier stage) new before after p w step told is =
    fewer_left facts (length rest) (length earlier + 1) (state_at after new)
    (has_ended facts entry rest earlier (state_at after new)
    (next_step facts entry rest earlier (piece_states before stage) event (state_at after new) step)
    (λ e. is (told ∙ e)))
hears_fewer facts event not_started new before after p w step told is = absurd cc
hears_fewer facts event (hands_over n refusals handoff) new before after p w step told is =
    absurd cc
hears_fewer facts event (has_none refusals) new before after p w step told is = absurd cc
hears_fewer facts event lacks_memory new before after p w step told is = absurd cc

not_unstarted : (facts : BootFacts) (entry : ℕ) (rest : List ℕ) (earlier : List RefusedEntry)
    → IsNext facts entry rest earlier unstarted → ⊥
not_unstarted facts entry rest earlier (inl same) =
    let no : unstarted ≡ running entry rest earlier same.0 = same.1 in absurd cc
not_unstarted facts entry rest earlier (inr later) = later

hears_started : (facts : BootFacts) (event : EventFacts) (old new : PhaseFacts)
    (before after : List ℕ) → is_waiting old ≡ true
    → StepsToOrFails facts (state_at before old) event (state_at after new) → new ≢ not_started
hears_started facts event (waits entry rest earlier stage) new before after w step = λ e.
    not_unstarted facts entry rest earlier
    (subst (λ (p : PhaseFacts). IsNext facts entry rest earlier (state_at after p)) e
    (next_step facts entry rest earlier (piece_states before stage) event (state_at after new)
    step))
hears_started facts event not_started new before after w step = absurd cc
hears_started facts event (hands_over n refusals handoff) new before after w step = absurd cc
hears_started facts event (has_none refusals) new before after w step = absurd cc
hears_started facts event lacks_memory new before after w step = absurd cc

hears_memory : (pool : Range ℕ) (facts : BootFacts) (event : EventFacts) (old new : PhaseFacts)
    (before after : List ℕ) → is_waiting old ≡ true
    → StepsToOrFails facts (state_at before old) event (state_at after new)
    → MatchBool (is_taken (state_at before old) event)
    (IsMemoryAt pool (state_at after new) before after) (after ≡ before)
    → IsMemoryAt pool (state_at after new) before after
hears_memory pool facts event (waits entry rest earlier stage) new before after w step memory =
    memory_step pool facts entry rest earlier (piece_states before stage) event (state_at after new)
    before
    after step memory
hears_memory pool facts event not_started new before after w step memory = absurd cc
hears_memory pool facts event (hands_over n refusals handoff) new before after w step memory =
    absurd cc
hears_memory pool facts event (has_none refusals) new before after w step memory = absurd cc
hears_memory pool facts event lacks_memory new before after w step memory = absurd cc

-- ---- the whole

pub hears : (old new : SessionFacts) (event : EventFacts) (before after : List ℕ) (told : Progress)
    → is_waiting old.phase ≡ true
    → StepsToOrFails old.boot (state_at before old.phase) event (state_at after new.phase)
    → told ≡ progress (attempt_number (state_at before old.phase)) (state_at after new.phase)
    → MatchBool (is_taken (state_at before old.phase) event)
    (IsMemoryAt old.boot.machine.pool (state_at after new.phase) before after) (after ≡ before)
    → WaitsOnOrEnds old new before after told
hears old new event before after told waiting step is memory =
    let facts = old.boot in
    record {
      progress = is;
      goes_on = hears_on facts event old.phase new.phase before after told waiting step is;
      as_many = hears_as_many facts event old.phase new.phase before after told waiting step is;
      fewer = hears_fewer facts event old.phase new.phase before after told waiting step is;
      started = hears_started facts event old.phase new.phase before after waiting step;
      memory =
          hears_memory facts.machine.pool facts event old.phase new.phase before after waiting step
          memory;
    }
