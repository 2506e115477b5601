-- The event that a wanted answer is, and the fault of which an attempt ends.
use Rattle.std.proofs.Common.{◌≡◌, ℕ, ◌+◌, ◌<◌, ◌==◌, Bool, true, false, MatchBool, if◌then◌else◌}
use Rattle.std.proofs.Common.{List, length, map, Option, None, Some, refl, sym, ap, subst, ◌∙◌}
use Rattle.std.proofs.Common.{arith}
use Rattle.std.proofs.lemmas.Bool.Decides.{nat_tests}
use Rattle.bl_load.specs.declared.refusal.Refusal.TheVariants.{FileFault}
use Rattle.bl_load.specs.declared.refused_entry.RefusedEntry.{RefusedEntry}
use Rattle.bl_stage.specs.PieceStates.{PieceState, came_bytes}
use Rattle.bl_stage.specs.Files.{File}
use Rattle.bl_session.specs.attempt.AttemptResult.{AttemptResult, refused}
use Rattle.bl_session.specs.attempt.AwaitedPieces.{are_whole, with_piece}
use Rattle.bl_session.specs.session.BootSteps.{BootFacts, State, running}
use Rattle.bl_store.specs.Events.{EventFacts, piece, fault}
use Rattle.bl_session.specs.session.BootSteps.{TextsHaveResult, AfterAttempt, Begins, TakesEvent}
use Rattle.bl_session.specs.session.Schedules.{Faults, EventAgreesWithFaults}
use Rattle.bl_store.specs.History.{HistoryItem, submitted, came, failed, nothing}
use Rattle.bl_store.specs.History.{file_under}
use Rattle.bl_store.specs.History.{IsPieceOf}
use Rattle.bl_session.specs.runs.Run.{IsAnswer, IsMarked}
use Rattle.bl_session.proofs.run_lemmas.WentLemmas.{IsNewFrom, new_begins, new_goes}

-- ---- an answer that is wanted is one event

one_piece : (files : List File) (under : Option ℕ) (index : ℕ) (a b : List ℕ)
    → IsPieceOf files under index a → IsPieceOf files under index b → a ≡ b
one_piece files None index a b p q = absurd p
one_piece files (Some file) index a b p q = p ∙ sym q

pub one_event : (files : List File) (given : List HistoryItem) (earlier : List RefusedEntry)
    (piece_states : List (List PieceState)) (item : HistoryItem) (a b : EventFacts) → IsMarked item
    → IsAnswer files given earlier piece_states item a
    → IsAnswer files given earlier piece_states item b → a ≡ b
one_event files given earlier piece_states (submitted file ticket) a b marked p q = absurd p
one_event files given earlier piece_states (came ticket count mark) a b marked (x, is, long, mine)
    (y, other, same, its) =
    is ∙ ap (piece ticket)
    (one_piece files (file_under given ticket) ticket.piece x y (mine.0 marked) (its.0 marked))
    ∙ sym other
one_event files given earlier piece_states (failed ticket) a b marked p q = p ∙ sym q
one_event files given earlier piece_states nothing a b marked (s, first, is) (t, found, other) =
    let e : Some s ≡ Some t = sym first ∙ found in
    let same : s ≡ t = cc in
    is ∙ ap fault same ∙ sym other

-- ---- the fault of which an attempt ends

-- the event ends its attempt
abbrev pub is_last : List (List PieceState) → EventFacts → Bool
is_last piece_states (piece ticket bytes) =
    are_whole (with_piece piece_states ticket.file ticket.piece bytes)
is_last piece_states (fault ticket) = true

-- the file of which a fault comes by it
abbrev pub told : EventFacts → Option ℕ
told (piece ticket bytes) = None
told (fault ticket) = Some ticket.file

pub are_told : (faults : Faults) (earlier : List RefusedEntry)
    (piece_states : List (List PieceState))
    (event : EventFacts) → (is_last piece_states event ≡ true
    → faults (length earlier) ≡ told event)
    → EventAgreesWithFaults faults earlier piece_states event
are_told faults earlier piece_states (piece ticket bytes) is = is
are_told faults earlier piece_states (fault ticket) is = is refl

-- these faults, but for one attempt
abbrev pub with_fault : ℕ → Option ℕ → Faults → Faults
with_fault number place faults = λ n. if n == number then place else faults n

pub at_fault : (number : ℕ) (place : Option ℕ) (faults : Faults)
    → with_fault number place faults number ≡ place
at_fault number place faults =
    let same : (number == number) ≡ true = grind (arith, nat_tests) in
    ap (λ (b : Bool). if b then place else faults number) same

pub past_fault : (number : ℕ) (place : Option ℕ) (faults : Faults) (n : ℕ) → number < n
    → with_fault number place faults n ≡ faults n
past_fault number place faults n h =
    let other : (n == number) ≡ false = grind (arith, nat_tests) in
    ap (λ (b : Bool). if b then place else faults n) other

-- ---- an attempt ends

-- the last event of an attempt leads to a new one
pub last_new : (facts : BootFacts) (entry : ℕ) (rest : List ℕ) (earlier : List RefusedEntry)
    (piece_states : List (List PieceState)) (event : EventFacts) (new : State)
    → is_last piece_states event ≡ true
    → TakesEvent facts entry rest earlier piece_states event new
    → IsNewFrom facts (length rest) (length earlier + 1) new
last_new facts entry rest earlier piece_states (piece ticket bytes) new last takes =
    let after = with_piece piece_states ticket.file ticket.piece bytes in
    let ends =
    subst
    (λ (b : Bool).
    MatchBool b
    ((end : AttemptResult) × TextsHaveResult facts entry (map came_bytes after) end
    × AfterAttempt (Begins facts rest) entry earlier end new)
    (new ≡ running entry rest earlier after)) last takes in
    new_goes facts rest entry earlier ends.0 new (new_begins facts rest) ends.2
last_new facts entry rest earlier piece_states (fault ticket) new last takes =
    new_goes facts rest entry earlier (refused (FileFault ticket.file)) new (new_begins facts rest)
    takes

-- each other one leaves it as it runs
pub goes_on : (facts : BootFacts) (entry : ℕ) (rest : List ℕ) (earlier : List RefusedEntry)
    (piece_states : List (List PieceState)) (event : EventFacts) (new : State)
    → is_last piece_states event ≡ false
    → TakesEvent facts entry rest earlier piece_states event new
    → (after : List (List PieceState)) × (new ≡ running entry rest earlier after)
goes_on facts entry rest earlier piece_states (piece ticket bytes) new last takes =
    let after = with_piece piece_states ticket.file ticket.piece bytes in (
      after,
      subst
          (λ (b : Bool).
          MatchBool b
          ((end : AttemptResult) × TextsHaveResult facts entry (map came_bytes after) end
          × AfterAttempt (Begins facts rest) entry earlier end new)
          (new ≡ running entry rest earlier after)) last takes,
    )
goes_on facts entry rest earlier piece_states (fault ticket) new last takes = absurd cc
