-- One event leaves the attempt as it runs, or ends it for good.
use Rattle.std.proofs.Common.{◌≡◌, ◌≢◌, ◌⊎◌, ℕ, ◌+◌, ◌<◌, ◌==◌, Bool, true, false, MatchBool}
use Rattle.std.proofs.Common.{if◌then◌else◌, List, length, Some, refl, sym, ap, subst, ◌∙◌, inl}
use Rattle.std.proofs.Common.{inr, arith}
use Rattle.std.proofs.lemmas.Bool.Decides.{nat_tests}
use Rattle.std.specs.declared.ops.Range.{Range}
use Rattle.bl_load.specs.declared.refusal.Refusal.TheVariants.{FileFault}
use Rattle.bl_load.specs.declared.refused_entry.RefusedEntry.{RefusedEntry}
use Rattle.bl_stage.specs.Ranges.{IsSameOutside}
use Rattle.bl_stage.specs.PieceStates.{PieceState}
use Rattle.bl_store.specs.declared.ticket.Ticket.{Ticket}
use Rattle.bl_session.specs.declared.session.outcome.Progress.TheVariants.{Waiting, Next}
use Rattle.bl_session.specs.attempt.AttemptResult.{refused}
use Rattle.bl_session.specs.attempt.AwaitedPieces.{with_piece}
use Rattle.bl_session.specs.session.BootSteps.{BootFacts, State, unstarted}
use Rattle.bl_store.specs.Events.{EventFacts, fault}
use Rattle.bl_session.specs.session.BootSteps.{running}
use Rattle.bl_session.specs.session.BootSteps.{handed_over, none_left, out_of_memory, is_wanted}
use Rattle.bl_session.specs.session.BootSteps.{is_taken}
use Rattle.bl_session.specs.session.BootSteps.{TakesEvent}
use Rattle.bl_session.specs.session.BootSteps.{StepsToOrFails, progress}
use Rattle.bl_session.specs.attempt.AwaitedTickets.{first_ticket}
use Rattle.bl_session.specs.session.BootMemory.{IsMemoryAt}
use Rattle.bl_session.specs.internal.runs.RunParts.{attempts_left}
use Rattle.bl_session.proofs.attempt_lemmas.MissingLemmas.{first_wanted}
use Rattle.bl_session.proofs.session_lemmas.StepFaultLemmas.{ends_taken}
use Rattle.bl_session.proofs.run_lemmas.WentLemmas.{IsNewFrom, new_goes, new_begins, step_went}

-- the attempt that runs goes on, or it ended
abbrev pub IsNext : BootFacts → (entry : ℕ) → List ℕ → List RefusedEntry → State → Type 0
IsNext facts entry rest earlier state =
    ((files : List (List PieceState)) × (state ≡ running entry rest earlier files))
    ⊎ IsNewFrom facts (length rest) (length earlier + 1) state

pub next_step : (facts : BootFacts) (entry : ℕ) (rest : List ℕ) (earlier : List RefusedEntry)
    (files : List (List PieceState)) (event : EventFacts) (state : State)
    → StepsToOrFails facts (running entry rest earlier files) event state
    → IsNext facts entry rest earlier state
next_step facts entry rest earlier files event state (inl steps) =
    elim (step_went facts entry rest earlier files event state steps) [
      | inl (unwanted, same) ↦ inl (files, same)
      | inr (wanted, inl (ticket, bytes, is, same)) ↦
          inl (with_piece files ticket.file ticket.piece bytes, same)
      | inr (wanted, inr later) ↦ inr later
    ]
next_step facts entry rest earlier files event state (inr fails) =
    inr (subst (IsNewFrom facts (length rest) (length earlier + 1)) (sym fails.0) tt)

-- ---- by what a call answers

later_ended : (facts : BootFacts) (count number : ℕ) (state : State)
    → IsNewFrom facts count (number + 1) state → progress number state ≢ Waiting
later_ended facts count number unstarted later = absurd later
later_ended facts count number (running entry rest earlier files) (many, few, sized, first) =
    let other : (length earlier == number) ≡ false = grind (arith, nat_tests) in
    λ e. (let told : Next (length earlier) ≡ Waiting = rw other at e in absurd cc)
later_ended facts count number (handed_over entry earlier handover) later = λ e. absurd cc
later_ended facts count number (none_left earlier) later = λ e. absurd cc
later_ended facts count number out_of_memory later = λ e. absurd cc

same_number : (n : ℕ) → (if n == n then Waiting else Next n) ≡ Waiting
same_number n = let same : (n == n) ≡ true = grind (arith, nat_tests) in rw same refl

-- it goes on
pub still_runs : (facts : BootFacts) (entry : ℕ) (rest : List ℕ) (earlier : List RefusedEntry)
    (state : State) → IsNext facts entry rest earlier state
    → progress (length earlier) state ≡ Waiting
    → (files : List (List PieceState)) × (state ≡ running entry rest earlier files)
still_runs facts entry rest earlier state (inl same) e = same
still_runs facts entry rest earlier state (inr later) e =
    absurd (later_ended facts (length rest) (length earlier) state later e)

-- it ended
pub has_ended : (facts : BootFacts) (entry : ℕ) (rest : List ℕ) (earlier : List RefusedEntry)
    (state : State) → IsNext facts entry rest earlier state
    → progress (length earlier) state ≢ Waiting
    → IsNewFrom facts (length rest) (length earlier + 1) state
has_ended facts entry rest earlier state (inl same) e =
    absurd (e (ap (progress (length earlier)) same.1 ∙ same_number (length earlier)))
has_ended facts entry rest earlier state (inr later) e = later

pub fewer_left : (facts : BootFacts) (count number : ℕ) (state : State)
    → IsNewFrom facts count number state → attempts_left state < count + 1
fewer_left facts count number unstarted later = absurd later
fewer_left facts count number (running entry rest earlier files) (many, few, sized, first) =
    omega (arith, few)
fewer_left facts count number (handed_over entry earlier handover) later = omega arith
fewer_left facts count number (none_left earlier) later = omega arith
fewer_left facts count number out_of_memory later = omega arith

-- a fault of the first missing piece ends it
pub lost_ends : (facts : BootFacts) (entry : ℕ) (rest : List ℕ) (earlier : List RefusedEntry)
    (files : List (List PieceState)) (ticket : Ticket) (state : State)
    → first_ticket (length earlier) 0 files ≡ Some ticket
    → StepsToOrFails facts (running entry rest earlier files) (fault ticket) state
    → progress (length earlier) state ≢ Waiting
lost_ends facts entry rest earlier files ticket state first (inl steps) =
    let wanted = first_wanted earlier files ticket first in
    let takes =
    subst
    (λ (b : Bool).
    MatchBool b (TakesEvent facts entry rest earlier files (fault ticket) state)
    (state ≡ running entry rest earlier files)) wanted steps in
    later_ended facts (length rest) (length earlier) state
    (new_goes facts rest entry earlier (refused (FileFault ticket.file)) state
    (new_begins facts rest) takes)
lost_ends facts entry rest earlier files ticket state first (inr fails) =
    later_ended facts 0 (length earlier) state
    (subst (IsNewFrom facts 0 (length earlier + 1)) (sym fails.0) tt)

-- ---- memory

memory_if : (pool : Range ℕ) (facts : BootFacts) (entry : ℕ) (rest : List ℕ)
    (earlier : List RefusedEntry) (files : List (List PieceState)) (event : EventFacts)
    (state : State)
    (old new : List ℕ) (wanted : Bool)
    → is_wanted earlier files event ≡ wanted
    → StepsToOrFails facts (running entry rest earlier files) event state
    → MatchBool wanted (IsMemoryAt pool state old new) (new ≡ old) → IsMemoryAt pool state old new
memory_if pool facts entry rest earlier files event state old new true is step memory = memory
memory_if pool facts entry rest earlier files event state old new false is (inl steps) same =
    let stays =
    subst
    (λ (b : Bool).
    MatchBool b (TakesEvent facts entry rest earlier files event state)
    (state ≡ running entry rest earlier files)) is steps in
    subst (λ (s : State). IsMemoryAt pool s old new) (sym stays)
    (subst (λ (m : List ℕ). IsSameOutside pool old m) (sym same) (λ a outside. refl))
memory_if pool facts entry rest earlier files event state old new false is (inr fails) same =
    let taken = ends_taken (running entry rest earlier files) event fails.1 in
    absurd (let no : true ≡ false = sym taken ∙ is in cc)

pub memory_step : (pool : Range ℕ) (facts : BootFacts) (entry : ℕ) (rest : List ℕ)
    (earlier : List RefusedEntry) (files : List (List PieceState)) (event : EventFacts)
    (state : State)
    (old new : List ℕ)
    → StepsToOrFails facts (running entry rest earlier files) event state
    → MatchBool (is_taken (running entry rest earlier files) event) (IsMemoryAt pool state old new)
    (new ≡ old) → IsMemoryAt pool state old new
memory_step pool facts entry rest earlier files event state old new step memory =
    memory_if pool facts entry rest earlier files event state old new
    (is_wanted earlier files event) refl step memory
