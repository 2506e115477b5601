-- An answer of a genuine history is an event of a genuine schedule.
use Rattle.std.proofs.Common.{◌≡◌, ℕ, ◌<◌, ◌==◌, true, false, List, [], ◌∷◌, ◌++◌, length, get_or}
use Rattle.std.proofs.Common.{Option, None, Some, sym, ap, subst, ◌∙◌, inl, inr, arith}
use Rattle.std.proofs.lemmas.Bool.{cases_lt}
use Rattle.std.proofs.lemmas.Bool.Decides.{nat_tests}
use Rattle.std.proofs.lemmas.List.{get_or_past, get_or-map}
use Rattle.bl_load.specs.declared.refused_entry.RefusedEntry.{RefusedEntry}
use Rattle.bl_stage.specs.PieceStates.{PieceState, has, piece_of}
use Rattle.bl_stage.specs.Files.{File, missing, file_bytes}
use Rattle.bl_store.specs.declared.ticket.Ticket.{Ticket}
use Rattle.bl_session.specs.menu.Menu.{entry_at}
use Rattle.bl_session.specs.attempt.AwaitedPieces.{awaits, piece_state_of}
use Rattle.bl_session.specs.session.BootSteps.{BootFacts, running, is_wanted}
use Rattle.bl_store.specs.Events.{EventFacts, piece}
use Rattle.bl_session.specs.menu.EntryContents.{texts_of}
use Rattle.bl_session.specs.session.Schedules.{IsGenuineEvent, EventAgreesWithFaults}
use Rattle.bl_store.specs.History.{HistoryItem, submitted, came, failed, nothing}
use Rattle.bl_store.specs.History.{file_under}
use Rattle.bl_store.specs.History.{IsPieceOf}
use Rattle.bl_session.specs.runs.Run.{IsEventOf, IsGenuineItem}
use Rattle.bl_store.proofs.TicketLemmas.{both, file_both}
use Rattle.bl_session.proofs.run_lemmas.AskedLemmas.{AreAsked}

-- ---- what is wanted

awaits_none : (piece_state : PieceState) (count : ℕ) → piece_state ≡ has []
    → awaits piece_state count ≡ true → ⊥
awaits_none piece_state count is e =
    absurd (let no : awaits piece_state count
    ≡ false = ap (λ (s : PieceState). awaits s count) is in cc)

-- a piece that is awaited is one of the attempt's
awaited_piece : (files : List (List PieceState)) (file index count : ℕ)
    → awaits (piece_state_of files file index) count ≡ true → index < length (get_or files file [])
awaited_piece files file index count e =
    elim (cases_lt index (length (get_or files file []))) [
      | inl h ↦ h
      | inr past ↦
          absurd
          (awaits_none (piece_state_of files file index) count
          (get_or_past (get_or files file []) index (has []) past) e)
    ]

awaited_file : (files : List (List PieceState)) (file index : ℕ)
    → index < length (get_or files file [])
    → file < length files
awaited_file files file index h =
    elim (cases_lt file (length files)) [
      | inl within ↦ within
      | inr past ↦
          let none : length (get_or files file []) ≡ 0 =
          ap length (get_or_past files file [] past) in absurd (omega (arith, none, h))
    ]

-- ---- an answer is an event of the schedule

module _ (facts : BootFacts) (files : List File) (faults : ℕ → Option ℕ) where
  -- a piece that is wanted, and marked as that of the file under its ticket, is its own file's
  true_piece : (given : List HistoryItem) (entry : ℕ) (rest : List ℕ) (earlier : List RefusedEntry)
      (piece_states : List (List PieceState)) (ticket : Ticket) (bytes : List ℕ)
      → AreAsked facts given (running entry rest earlier piece_states)
      → is_wanted earlier piece_states (piece ticket bytes) ≡ true
      → IsPieceOf files (file_under given ticket) ticket.piece bytes
      → bytes ≡ piece_of (get_or (texts_of facts files entry) ticket.file []) ticket.piece
  true_piece given entry rest earlier piece_states ticket bytes (long, under) wanted is =
      let tests =
      both (ticket.attempt == length earlier)
      (awaits (piece_state_of piece_states ticket.file ticket.piece) (length bytes)) wanted in
      let mine = tests.0 in
      let number : length earlier ≡ ticket.attempt = grind (arith, nat_tests) in
      let within = awaited_piece piece_states ticket.file ticket.piece (length bytes) tests.1 in
      let named : ticket.file < length (entry_at facts.menu entry).files =
      omega (arith, long, awaited_file piece_states ticket.file ticket.piece within) in
      let own = under ticket.file ticket.piece within in
      let same : file_under given ticket
      ≡ Some (get_or (entry_at facts.menu entry).files ticket.file 0) =
      subst
      (λ (n : ℕ).
      file_under given (record { attempt = n; file = ticket.file; piece = ticket.piece })
      ≡ Some (get_or (entry_at facts.menu entry).files ticket.file 0)) number own in
      let text =
      get_or-map (λ file. file_bytes (get_or files file missing)) (entry_at facts.menu entry).files
      ticket.file 0 [] named in
      subst (λ (f : Option ℕ). IsPieceOf files f ticket.piece bytes) same is
      ∙ ap (λ (t : List ℕ). piece_of t ticket.piece) (sym text)

  pub genuine_event : (given : List HistoryItem) (entry : ℕ) (rest : List ℕ)
      (earlier : List RefusedEntry)
      (piece_states : List (List PieceState)) (item : HistoryItem) (event : EventFacts)
      → AreAsked facts given (running entry rest earlier piece_states)
      → IsEventOf files given (running entry rest earlier piece_states) item event
      → IsGenuineItem faults (running entry rest earlier piece_states) item event
      → is_wanted earlier piece_states event ≡ true
      → IsGenuineEvent facts files faults entry earlier piece_states event
  genuine_event given entry rest earlier piece_states (submitted file ticket) event asked is genuine
      wanted = absurd is
  genuine_event given entry rest earlier piece_states (came ticket count mark) event asked
      (bytes, same, long, marked) genuine wanted =
      let want : is_wanted earlier piece_states (piece ticket bytes) ≡ true =
      subst (λ (e : EventFacts). is_wanted earlier piece_states e ≡ true) same wanted in
      let told = genuine wanted in
      let faultless =
      subst (λ (e : EventFacts). EventAgreesWithFaults faults earlier piece_states e) same told.1 in
      subst (IsGenuineEvent facts files faults entry earlier piece_states) (sym same) (
        true_piece given entry rest earlier piece_states ticket bytes asked want (marked.0 told.0),
        faultless,
      )
  genuine_event given entry rest earlier piece_states (failed ticket) event asked same genuine
      wanted =
      subst (IsGenuineEvent facts files faults entry earlier piece_states) (sym same)
      (subst (λ (e : EventFacts). EventAgreesWithFaults faults earlier piece_states e) same
      (genuine wanted).1)
  genuine_event given entry rest earlier piece_states nothing event asked (ticket, first, same)
      genuine
      wanted =
      subst (IsGenuineEvent facts files faults entry earlier piece_states) (sym same)
      (subst (λ (e : EventFacts). EventAgreesWithFaults faults earlier piece_states e) same
      (genuine wanted).1)

  -- an answer asks for nothing
  pub same_under : (given : List HistoryItem) (entry : ℕ) (rest : List ℕ)
      (earlier : List RefusedEntry)
      (piece_states : List (List PieceState)) (item : HistoryItem) (event : EventFacts)
      → IsEventOf files given (running entry rest earlier piece_states) item event
      → (ticket : Ticket) → file_under (given ++ item ∷ []) ticket ≡ file_under given ticket
  same_under given entry rest earlier piece_states (submitted file t) event is ticket = absurd is
  same_under given entry rest earlier piece_states (came t count mark) event is ticket =
      file_both None given (came t count mark ∷ []) ticket
  same_under given entry rest earlier piece_states (failed t) event is ticket =
      file_both None given (failed t ∷ []) ticket
  same_under given entry rest earlier piece_states nothing event is ticket =
      file_both None given (nothing ∷ []) ticket
