-- What an attempt asked for: each of its pieces under its own file, whatever a step does.
use Rattle.std.proofs.Common.{◌≡◌, ℕ, ◌+◌, ◌<◌, ◌==◌, Bool, true, false, if◌then◌else◌, List, []}
use Rattle.std.proofs.Common.{◌++◌, length, get_or, None, Some, sym, ap, subst, ◌∙◌, inl, inr}
use Rattle.std.proofs.Common.{arith}
use Rattle.std.proofs.lemmas.Bool.Decides.{nat_tests}
use Rattle.std.proofs.lemmas.List.{append-nil}
use Rattle.bl_load.specs.declared.refused_entry.RefusedEntry.{RefusedEntry}
use Rattle.bl_stage.specs.PieceStates.{PieceState}
use Rattle.bl_store.specs.declared.ticket.Ticket.{Ticket}
use Rattle.bl_session.specs.menu.Menu.{entry_at}
use Rattle.bl_session.specs.attempt.AwaitedPieces.{with_piece}
use Rattle.bl_session.specs.session.BootSteps.{BootFacts, State, unstarted, running}
use Rattle.bl_store.specs.Events.{EventFacts}
use Rattle.bl_session.specs.session.BootSteps.{handed_over}
use Rattle.bl_session.specs.session.BootSteps.{none_left, out_of_memory, StepsTo, attempt_number}
use Rattle.bl_store.specs.History.{HistoryItem, file_under}
use Rattle.bl_session.specs.attempt.AwaitedTickets.{ticket_of}
use Rattle.bl_session.specs.session.Submissions.{attempt_submissions, new_submissions}
use Rattle.bl_store.proofs.TicketLemmas.{file_both}
use Rattle.bl_session.proofs.run_lemmas.OrderLemmas.{found_files}
use Rattle.bl_session.proofs.attempt_lemmas.AwaitedLemmas.{as_many_files, as_many_pieces}
use Rattle.bl_session.proofs.run_lemmas.WentLemmas.{IsNewFrom, step_went, fresh_length}

-- after these items each piece of the attempt that runs was asked for under its own file
abbrev pub AreAsked : BootFacts → List HistoryItem → State → Type 0
AreAsked facts items unstarted = Unit {0}
AreAsked facts items (running entry rest earlier files) =
    (length files ≡ length (entry_at facts.menu entry).files)
    × ((place piece : ℕ) → piece < length (get_or files place [])
    → file_under items (ticket_of (length earlier) place piece)
    ≡ Some (get_or (entry_at facts.menu entry).files place 0))
AreAsked facts items (handed_over entry earlier handover) = Unit {0}
AreAsked facts items (none_left earlier) = Unit {0}
AreAsked facts items out_of_memory = Unit {0}

-- an attempt that has just begun, once it asked for its pieces
pub asked_new : (facts : BootFacts) (given : List HistoryItem) (count number : ℕ) (state : State)
    → IsNewFrom facts count number state
    → AreAsked facts (given ++ attempt_submissions facts state) state
asked_new facts given count number unstarted is = tt
asked_new facts given count number (running entry rest earlier files) (l, few, sized, is) =
    let long : length files ≡ length (entry_at facts.menu entry).files =
    ap length is ∙ fresh_length facts entry in (
      long,
      λ place piece h.
          file_both None given (attempt_submissions facts (running entry rest earlier files))
          (ticket_of (length earlier) place piece)
          ∙ found_files (file_under given (ticket_of (length earlier) place piece)) (length earlier)
          (entry_at facts.menu entry).files files place piece long h,
    )
asked_new facts given count number (handed_over entry earlier handover) is = tt
asked_new facts given count number (none_left earlier) is = tt
asked_new facts given count number out_of_memory is = tt

-- items that ask for nothing leave it
pub asked_same : (facts : BootFacts) (items more : List HistoryItem) (state : State)
    → ((ticket : Ticket) → file_under more ticket ≡ file_under items ticket)
    → AreAsked facts items state → AreAsked facts more state
asked_same facts items more unstarted same asked = tt
asked_same facts items more (running entry rest earlier files) same (long, under) =
    (long, λ place piece h. same (ticket_of (length earlier) place piece) ∙ under place piece h)
asked_same facts items more (handed_over entry earlier handover) same asked = tt
asked_same facts items more (none_left earlier) same asked = tt
asked_same facts items more out_of_memory same asked = tt

-- so does a piece
asked_piece : (facts : BootFacts) (items : List HistoryItem) (entry : ℕ) (rest : List ℕ)
    (earlier : List RefusedEntry) (files : List (List PieceState)) (ticket : Ticket)
    (bytes : List ℕ)
    → AreAsked facts items (running entry rest earlier files)
    → AreAsked facts items
    (running entry rest earlier (with_piece files ticket.file ticket.piece bytes))
asked_piece facts items entry rest earlier files ticket bytes (long, under) = (
  as_many_files files ticket.file ticket.piece bytes ∙ long,
  λ place piece h. let many =
      as_many_pieces files ticket.file ticket.piece bytes place in
      under place piece (omega (arith, many, h)),
)

-- nothing more is asked for as long as the attempt goes on
owed_same : (facts : BootFacts) (old new : State) → attempt_number new ≡ attempt_number old
    → new_submissions facts old new ≡ []
owed_same facts old new e =
    let same : (attempt_number new == attempt_number old) ≡ true = grind (arith, nat_tests) in
    ap (λ (b : Bool). if b then [] else attempt_submissions facts new) same

on_same : (facts : BootFacts) (items : List HistoryItem) (old new : State)
    → attempt_number new ≡ attempt_number old → AreAsked facts items new
    → AreAsked facts (items ++ new_submissions facts old new) new
on_same facts items old new e asked =
    subst (λ (xs : List HistoryItem). AreAsked facts xs new)
    (sym (ap (λ (xs : List HistoryItem). items ++ xs) (owed_same facts old new e)
    ∙ append-nil items))
    asked

on_new : (facts : BootFacts) (items : List HistoryItem) (entry : ℕ) (rest : List ℕ)
    (earlier : List RefusedEntry) (files : List (List PieceState)) (new : State)
    → IsNewFrom facts (length rest) (length earlier + 1) new
    → AreAsked facts (items ++ new_submissions facts (running entry rest earlier files) new) new
on_new facts items entry rest earlier files unstarted is = tt
on_new facts items entry rest earlier files (running index others before piece_states) is =
    let low = is.0 in
    let other : (length before == length earlier) ≡ false = grind (arith, nat_tests) in
    let owed : new_submissions facts (running entry rest earlier files)
    (running index others before piece_states)
    ≡ attempt_submissions facts (running index others before piece_states) =
    ap (λ (b : Bool). if b then [] else attempt_submissions facts
    (running index others before piece_states))
    other in
    subst (λ (xs : List HistoryItem). AreAsked facts (items ++ xs)
    (running index others before piece_states))
    (sym owed)
    (asked_new facts items (length rest) (length earlier + 1)
    (running index others before piece_states)
    is)
on_new facts items entry rest earlier files (handed_over index before handover) is = tt
on_new facts items entry rest earlier files (none_left before) is = tt
on_new facts items entry rest earlier files out_of_memory is = tt

-- each step keeps it, once what it asks for was asked for
pub asked_step : (facts : BootFacts) (items : List HistoryItem) (entry : ℕ) (rest : List ℕ)
    (earlier : List RefusedEntry) (files : List (List PieceState)) (event : EventFacts)
    (new : State)
    → AreAsked facts items (running entry rest earlier files)
    → StepsTo facts (running entry rest earlier files) event new
    → AreAsked facts (items ++ new_submissions facts (running entry rest earlier files) new) new
asked_step facts items entry rest earlier files event new asked goes =
    elim (step_went facts entry rest earlier files event new goes) [
      | inl (e, same) ↦
          on_same facts items (running entry rest earlier files) new (ap attempt_number same)
          (subst (AreAsked facts items) (sym same) asked)
      | inr (e, inl (ticket, bytes, is, same)) ↦
          on_same facts items (running entry rest earlier files) new (ap attempt_number same)
          (subst (AreAsked facts items) (sym same)
          (asked_piece facts items entry rest earlier files ticket bytes asked))
      | inr (e, inr later) ↦ on_new facts items entry rest earlier files new later
    ]
