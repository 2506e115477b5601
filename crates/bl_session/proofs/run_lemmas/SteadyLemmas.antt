-- What holds of a history and of what is still to be asked for, whatever a faithful store answers.
use Rattle.std.proofs.Common.{◌≡◌, ℕ, ◌-◌, ◌*◌, ◌<◌, ◌≤◌, true, min, List, [], ◌++◌, length, map}
use Rattle.std.proofs.Common.{get_or, None, refl, ap, ◌∙◌, arith}
use Rattle.std.proofs.lemmas.List.{get_or-map}
use Rattle.bl_stage.specs.PieceStates.{lacks}
use Rattle.bl_stage.specs.Files.{File, missing, size_of, file_bytes}
use Rattle.bl_store.specs.declared.ticket.Ticket.{Ticket}
use Rattle.bl_session.specs.attempt.AttemptResult.{size_refusal, known_lengths}
use Rattle.bl_session.specs.menu.Menu.{entry_at}
use Rattle.bl_session.specs.attempt.AwaitedPieces.{is_awaited, piece_state_of}
use Rattle.bl_session.specs.session.BootSteps.{BootFacts, State, unstarted, running, handed_over}
use Rattle.bl_session.specs.session.BootSteps.{none_left}
use Rattle.bl_session.specs.session.BootSteps.{out_of_memory, sizes_of, fresh}
use Rattle.bl_store.specs.History.{HistoryItem}
use Rattle.bl_session.specs.menu.EntryContents.{texts_of}
use Rattle.bl_session.specs.session.Submissions.{attempt_submissions, submissions_for_files}
use Rattle.bl_session.proofs.attempt_lemmas.EntryEndLemmas.{are_read, length_read}
use Rattle.bl_store.proofs.TicketLemmas.{IsUntouched, IsAskedOnce, untouched_both}
use Rattle.bl_store.proofs.TicketLemmas.{once_last}
use Rattle.bl_session.proofs.run_lemmas.OrderLemmas.{untouched_files, once_files}
use Rattle.bl_session.proofs.run_lemmas.WentLemmas.{IsNewFrom, fresh_length}
use Rattle.bl_session.proofs.attempt_lemmas.AwaitedLemmas.{is_piece}

module _ (facts : BootFacts) where
  -- the file at a place of an entry
  abbrev pub file_at : (entry place : ℕ) → ℕ
  file_at entry place = get_or (entry_at facts.menu entry).files place 0

  -- ---- what holds of all that was asked, answered, and is to be asked for

  -- tickets of later attempts are not in it; one whose piece is awaited is asked for once, and not
  -- answered
  abbrev pub Steady : List HistoryItem → State → Type 0
  Steady all (running entry rest earlier piece_states) =
      (size_refusal facts.machine (sizes_of facts entry) ≡ None)
      × ((file piece : ℕ) → is_awaited (piece_state_of piece_states file piece) ≡ true
      → piece_state_of piece_states file piece ≡ piece_state_of (fresh facts entry) file piece)
      × ((t : Ticket) → length earlier < t.attempt → IsUntouched all t)
      × ((t : Ticket) → t.attempt ≡ length earlier
      → is_awaited (piece_state_of piece_states t.file t.piece) ≡ true
      → IsAskedOnce (file_at entry t.file) all t)
  Steady all unstarted = Unit {0}
  Steady all (handed_over entry earlier handover) = Unit {0}
  Steady all (none_left earlier) = Unit {0}
  Steady all out_of_memory = Unit {0}

  -- ---- an attempt that begins

  -- its orders are to be asked for, and none of its tickets was
  pub steady_new : (given : List HistoryItem) (count number : ℕ) (new : State)
      → IsNewFrom facts count number new
      → ((t : Ticket) → number ≤ t.attempt → IsUntouched given t)
      → Steady (given ++ attempt_submissions facts new) new
  steady_new given count number unstarted is apart = tt
  steady_new given count number (handed_over entry later handover) is apart = tt
  steady_new given count number (none_left later) is apart = tt
  steady_new given count number out_of_memory is apart = tt
  steady_new given count number (running entry rest later piece_states) (long, few, sized, first)
      apart =
      let indices = (entry_at facts.menu entry).files in
      let asked_for = submissions_for_files (length later) 0 indices piece_states in (
        sized,
        λ file piece e. rw first refl,
        λ t l.
            untouched_both given asked_for t (apart t (omega arith))
            (untouched_files (length later) 0 indices piece_states t (λ (a, p). omega arith)),
        λ t a e.
            let one =
            is_piece (known_lengths (sizes_of facts entry)) t.file t.piece (rw first at e) in
            let many = fresh_length facts entry in
            let file_in : t.file < length piece_states = rw first one.file_in in
            let piece_in : t.piece < length (get_or piece_states t.file []) =
            rw first one.piece_in in
            let within : t.file < length indices = let f = one.file_in in omega arith in
            once_last (file_at entry t.file) given asked_for t (apart t (omega arith))
            (once_files (length later) 0 indices piece_states t.file t a (omega arith) within
            file_in
            piece_in),
      )

-- ---- a piece that a new attempt awaits

module _ (facts : BootFacts) (files : List File) (known : facts.sizes ≡ map size_of files) where
  -- what the file at a place of an entry holds
  abbrev pub text_at : (entry place : ℕ) → List ℕ
  text_at entry place = file_bytes (get_or files (file_at facts entry place) missing)

  text_is : (entry place : ℕ) → place < length (entry_at facts.menu entry).files
      → get_or (texts_of facts files entry) place [] ≡ text_at entry place
  text_is entry place h =
      get_or-map (λ file. file_bytes (get_or files file missing)) (entry_at facts.menu entry).files
      place 0 [] h

  length_is : (entry place : ℕ) → size_refusal facts.machine (sizes_of facts entry) ≡ None
      → place < length (entry_at facts.menu entry).files
      → get_or (known_lengths (sizes_of facts entry)) place 0 ≡ length (text_at entry place)
  length_is entry place sized h =
      length_read (sizes_of facts entry) (texts_of facts files entry)
      (are_read facts files entry known sized) place ∙ ap length (text_is entry place h)

  pub awaited_piece : (entry place index : ℕ)
      → size_refusal facts.machine (sizes_of facts entry) ≡ None
      → is_awaited (piece_state_of (fresh facts entry) place index) ≡ true
      → (4096 * index < length (text_at entry place))
      × (piece_state_of (fresh facts entry) place index
      ≡ lacks (min 4096 (length (text_at entry place) - 4096 * index)))
  awaited_piece entry place index sized e =
      let one = is_piece (known_lengths (sizes_of facts entry)) place index e in
      let file_in = one.file_in in
      let many = fresh_length facts entry in
      let long = length_is entry place sized (omega arith) in
      (rw (← long) one.inside, rw (← long) one.piece_state)
