-- An answer of a faithful store to a ticket that is awaited.
use Rattle.std.proofs.Common.{◌≡◌, ℕ, ◌-◌, ◌*◌, ◌<◌, ◌==◌, Bool, true, false, min, List, length}
use Rattle.std.proofs.Common.{map, Option, Some, None, refl, sym, ap, subst, ◌∙◌, arith}
use Rattle.std.proofs.lemmas.Bool.Decides.{nat_tests}
use Rattle.bl_load.specs.declared.refused_entry.RefusedEntry.{RefusedEntry}
use Rattle.bl_stage.specs.PieceStates.{PieceState, lacks, piece_of}
use Rattle.bl_stage.proofs.PieceStateLemmas.{piece_long}
use Rattle.bl_stage.specs.Files.{File, size_of}
use Rattle.bl_store.specs.declared.ticket.Ticket.{Ticket}
use Rattle.bl_session.specs.attempt.AwaitedPieces.{is_awaited, awaits, piece_state_of}
use Rattle.bl_session.specs.session.BootSteps.{BootFacts, running}
use Rattle.bl_store.specs.Events.{EventFacts, piece, fault}
use Rattle.bl_session.specs.session.BootSteps.{is_wanted}
use Rattle.bl_store.specs.History.{HistoryItem, submitted, came, failed, nothing, is_same}
use Rattle.bl_store.specs.History.{file_under}
use Rattle.bl_store.specs.History.{IsPieceOf}
use Rattle.bl_session.specs.session.Schedules.{EventAgreesWithFaults}
use Rattle.bl_session.specs.attempt.AwaitedTickets.{first_ticket}
use Rattle.bl_session.specs.runs.Run.{IsAnswer, IsMarked}
use Rattle.bl_store.specs.Faithful.{times_asked, times_answered, HasPiece, IsFaithfulItem}
use Rattle.bl_store.proofs.TicketLemmas.{both, IsAskedOnce, same_ticket}
use Rattle.bl_store.proofs.TicketLemmas.{other_ticket}
use Rattle.bl_session.proofs.attempt_lemmas.AwaitedLemmas.{first_is_awaited, awaits_is_awaited}
use Rattle.bl_session.proofs.run_lemmas.SteadyLemmas.{file_at, Steady, text_at, awaited_piece}

module _ (earlier : List RefusedEntry) (piece_states : List (List PieceState)) where
  abbrev pub Awaited : Ticket → Type 0
  Awaited t =
      (t.attempt ≡ length earlier) × (is_awaited (piece_state_of piece_states t.file t.piece)
      ≡ true)

module _ (facts : BootFacts) (files : List File) (known : facts.sizes ≡ map size_of files)
    (entry : ℕ) (rest : List ℕ) (earlier : List RefusedEntry)
    (piece_states : List (List PieceState))
    (given : List HistoryItem)
    (steady : Steady facts given (running entry rest earlier piece_states)) where
  pub once : (t : Ticket) → Awaited earlier piece_states t
      → IsAskedOnce (file_at facts entry t.file) given t
  once t (a, e) = steady.3 t a e

  file_is : (t : Ticket) → Awaited earlier piece_states t
      → file_under given t ≡ Some (file_at facts entry t.file)
  file_is t waiting_files = (once t waiting_files).2 None

  piece_is : (t : Ticket) → Awaited earlier piece_states t
      → (4096 * t.piece < length (text_at facts files known entry t.file))
      × (piece_state_of piece_states t.file t.piece
      ≡ lacks (min 4096 (length (text_at facts files known entry t.file) - 4096 * t.piece)))
  piece_is t (a, e) =
      let same = steady.1 t.file t.piece e in
      let one =
      awaited_piece facts files known entry t.file t.piece steady.0
      (ap is_awaited (sym same) ∙ e) in
      (one.0, same ∙ one.1)

  -- no fault comes of a piece that is awaited
  pub no_fault : (t : Ticket) → Awaited earlier piece_states t
      → IsFaithfulItem files given (failed t) → ⊥
  no_fault t waiting_files (fewer, is) =
      is (once t waiting_files).0
      (subst (λ (file : Option ℕ). HasPiece files file t.piece) (sym (file_is t waiting_files))
      (piece_is t waiting_files).0)

  -- while a piece is awaited something is to come
  pub no_end : (t : Ticket) → first_ticket (length earlier) 0 piece_states ≡ Some t
      → IsFaithfulItem files given nothing → ⊥
  no_end t first even =
      let asked_for = once t (first_is_awaited (length earlier) piece_states t first) in
      let a = asked_for.0 in
      let b = asked_for.1 in
      let same = even t in
      omega arith

  pub marked : (t : Ticket) (count : ℕ) (genuine : Bool) → Awaited earlier piece_states t
      → IsFaithfulItem files given (came t count genuine) → genuine ≡ true
  marked t count genuine waiting_files (fewer, is) = is (once t waiting_files).0

  same_count : (piece_state : PieceState) (size count : ℕ) → piece_state ≡ lacks size → count ≡ size
      → awaits piece_state count ≡ true
  same_count piece_state size count e f =
      let same : (size == count) ≡ true = grind (arith, nat_tests) in
      rw e same

  -- a piece that is awaited and comes has the right length
  is_long : (t : Ticket) (bytes : List ℕ) → Awaited earlier piece_states t
      → IsPieceOf files (file_under given t) t.piece bytes
      → awaits (piece_state_of piece_states t.file t.piece) (length bytes) ≡ true
  is_long t bytes waiting_files of_file =
      let text = text_at facts files known entry t.file in
      let is : bytes ≡ piece_of text t.piece =
      subst (λ (file : Option ℕ). IsPieceOf files file t.piece bytes) (file_is t waiting_files)
      of_file in
      same_count (piece_state_of piece_states t.file t.piece)
      (min 4096 (length text - 4096 * t.piece))
      (length bytes) (piece_is t waiting_files).1 (ap length is ∙ piece_long text t.piece)

  right_attempt : (t : Ticket) → t.attempt ≡ length earlier → (t.attempt == length earlier) ≡ true
  right_attempt t a = grind (arith, nat_tests)

  pub wants_piece : (t : Ticket) (bytes : List ℕ) → Awaited earlier piece_states t
      → IsPieceOf files (file_under given t) t.piece bytes
      → is_wanted earlier piece_states (piece t bytes) ≡ true
  wants_piece t bytes waiting_files of_file =
      rw (right_attempt t waiting_files.0, is_long t bytes waiting_files of_file) refl

  attempt_is : (t : Ticket) → (t.attempt == length earlier) ≡ true → t.attempt ≡ length earlier
  attempt_is t e = grind (arith, nat_tests)

  wanted_piece : (t : Ticket) (bytes : List ℕ)
      → is_wanted earlier piece_states (piece t bytes) ≡ true
      → Awaited earlier piece_states t
  wanted_piece t bytes e =
      let parts =
      both (t.attempt == length earlier)
      (awaits (piece_state_of piece_states t.file t.piece) (length bytes))
      e in (
        attempt_is t parts.0,
        awaits_is_awaited (piece_state_of piece_states t.file t.piece) (length bytes) parts.1,
      )

  pub wanted_fault : (t : Ticket) → is_wanted earlier piece_states (fault t) ≡ true
      → Awaited earlier piece_states t
  wanted_fault t e =
      let parts =
      both (t.attempt == length earlier) (is_awaited (piece_state_of piece_states t.file t.piece))
      e in
      (attempt_is t parts.0, parts.1)

  -- no answer is to a ticket of a later attempt
  pub is_no_later : (s t : Ticket) → times_answered given s < times_asked given s
      → length earlier < t.attempt
      → is_same s t ≡ false
  is_no_later s t fewer later = other_ticket s t (λ e.
      let h : times_answered given t < times_asked given t =
      subst (λ (x : Ticket). times_answered given x < times_asked given x) (same_ticket s t e)
      fewer in
      let none = (steady.2 t later).0 in
      omega arith)

  pub tell_true : (item : HistoryItem) (event : EventFacts) → IsFaithfulItem files given item
      → IsAnswer files given earlier piece_states item event
      → is_wanted earlier piece_states event ≡ true
      → IsMarked item × EventAgreesWithFaults (λ attempt. None) earlier piece_states event
  tell_true (submitted file t) event faithful is wanted = absurd is
  tell_true (came t count genuine) event faithful (bytes, same, long, of_file) wanted =
      let here : is_wanted earlier piece_states (piece t bytes) ≡ true =
      ap (is_wanted earlier piece_states) (sym same) ∙ wanted in (
        marked t count genuine (wanted_piece t bytes here) faithful,
        subst (λ (e : EventFacts). EventAgreesWithFaults (λ attempt. None) earlier piece_states e)
            (sym same)
            (λ whole. refl),
      )
  tell_true (failed t) event faithful same wanted =
      absurd
      (no_fault t (wanted_fault t (ap (is_wanted earlier piece_states) (sym same) ∙ wanted))
      faithful)
  tell_true nothing event faithful (t, first, same) wanted = absurd (no_end t first faithful)
