-- The pieces that an attempt awaits, one after the other.
use Rattle.std.proofs.Common.{◌≡◌, ℕ, ◌+◌, ◌-◌, ◌*◌, ◌<◌, ◌≤◌, ◌&&◌, Bool, true, false, not, nat_lt}
use Rattle.std.proofs.Common.{min, List, [], length, drop, get_or, Option, None, Some, refl, sym}
use Rattle.std.proofs.Common.{ap}
use Rattle.std.proofs.Common.{◌∙◌, arith, subst, option_map}
use Rattle.std.proofs.lemmas.List.{drop_all, get_or_past}
use Rattle.std.proofs.lemmas.Bool.Decides.{nat_tests}
use Rattle.bl_map.specs.PoolFrames.{frames_of}
use Rattle.bl_load.specs.declared.refused_entry.RefusedEntry.{RefusedEntry}
use Rattle.bl_stage.specs.Staged.{Staging, staged_file}
use Rattle.bl_stage.specs.Pieces.{is_missing, slot_in}
use Rattle.bl_stage.specs.PieceStates as stage
use Rattle.bl_stage.specs.PieceStates.{PieceState, piece_states, piece_of}
use Rattle.bl_session.specs.declared.attempt.request.Request.{Request}
use Rattle.bl_store.specs.declared.ticket.Ticket.{Ticket}
use Rattle.bl_session.specs.session.BootSteps.{BootFacts}
use Rattle.bl_session.specs.menu.Menu.{entry_at}
use Rattle.bl_session.specs.session.Phases.{PhaseFacts, waits, state_at}
use Rattle.bl_session.specs.attempt.AwaitedPieces.{piece_state_of}
use Rattle.bl_session.specs.attempt.AwaitedTickets.{first_awaited_piece, first_ticket, ticket_or}
use Rattle.bl_session.specs.internal.attempt.Cursors.{first_ticket_from}
use Rattle.bl_session.specs.attempt.AwaitedTickets.{length_awaited, request_for}
use Rattle.bl_session.specs.session.Requests.{first_request}
use Rattle.bl_session.specs.session.Requests.{request_after}
use Rattle.bl_session.specs.attempt.AwaitedTickets.{ticket_after}
use Rattle.bl_session.proofs.attempt_lemmas.PieceStateLemmas.{Named, length-piece_states}
use Rattle.bl_session.proofs.attempt_lemmas.PieceStateLemmas.{piece_state_named}
use Rattle.bl_session.proofs.attempt_lemmas.StoredLemmas.{piece_size}

-- ---- a piece that did not come

both : (a b : Bool) → (a && b) ≡ true → (a ≡ true) × (b ≡ true)
both true b e = (refl, e)
both false b e = absurd cc

pub missing_named : (stage : Staging) (file index : ℕ) → is_missing stage file index ≡ true
    → Named stage file index
missing_named stage file index e =
    let size = get_or stage.sizes file 0 in
    let came = get_or stage.came (slot_in stage file index) false in
    let first =
    both (nat_lt file (length stage.sizes)) (nat_lt index (frames_of size) && not came) e
    in
    let second = both (nat_lt index (frames_of size)) (not came) first.1 in
    let file_is = first.0 in
    let index_is = second.0 in (
      (let h : file < length stage.sizes = grind (arith, nat_tests) in h),
      (let i : index < frames_of size = grind (arith, nat_tests) in i),
    )

length_if : (came : Bool) (piece : List ℕ) → not came ≡ true
    → length_awaited (stage.piece_state_if_came came piece) ≡ length piece
length_if true piece e = absurd cc
length_if false piece e = refl

pub missing_length : (bytes : List ℕ) (stage : Staging) (file index : ℕ)
    → is_missing stage file index ≡ true
    → length_awaited (piece_state_of (piece_states bytes stage) file index)
    ≡ min 4096 (get_or stage.sizes file 0 - 4096 * index)
missing_length bytes stage file index e =
    let size = get_or stage.sizes file 0 in
    let came = get_or stage.came (slot_in stage file index) false in
    let first =
    both (nat_lt file (length stage.sizes)) (nat_lt index (frames_of size) && not came) e
    in
    let second = both (nat_lt index (frames_of size)) (not came) first.1 in
    ap length_awaited (piece_state_named bytes stage file index (missing_named stage file index e))
    ∙ length_if came (piece_of (staged_file bytes stage file) index) second.1
    ∙ piece_size bytes stage file index

-- ---- from a piece on

pub from_is : (attempt : ℕ) (files : List (List PieceState)) (file piece : ℕ) (found : Option ℕ)
    → found ≡ first_awaited_piece piece (drop piece (get_or files file []))
    → ticket_or attempt file (first_ticket attempt (file + 1) (drop (file + 1) files)) found
    ≡ first_ticket_from attempt files file piece
from_is attempt files file piece found e =
    ap (ticket_or attempt file (first_ticket attempt (file + 1) (drop (file + 1) files))) e

pub from_past : (attempt : ℕ) (bytes : List ℕ) (stage : Staging) (file piece : ℕ)
    → length stage.sizes ≤ file
    → None ≡ first_ticket_from attempt (piece_states bytes stage) file piece
from_past attempt bytes stage file piece h =
    let long = length-piece_states bytes stage in
    let files = piece_states bytes stage in
    let none : get_or files file [] ≡ [] = get_or_past files file [] (omega arith) in
    let piece_state : None ≡ first_awaited_piece piece (drop piece (get_or files file [])) =
    sym
    (ap (λ (s : List PieceState). first_awaited_piece piece (drop piece s)) none
    ∙ ap (first_awaited_piece piece) (drop_all piece [] (omega arith))) in
    sym
    (ap (first_ticket attempt (file + 1)) (drop_all (file + 1) files (omega arith)))
    ∙ from_is attempt files file piece None piece_state

-- ---- requests

abbrev pub asked_by : (file : ℕ) → Ticket → (len : ℕ) → Request
asked_by file ticket len = record { file = file; ticket = ticket; len = len }

pub request_is : (indices : List ℕ) (files : List (List PieceState)) (ticket : Ticket)
    (found : Option Ticket) (file len : ℕ) → found ≡ Some ticket
    → file ≡ get_or indices ticket.file 0
    → len ≡ length_awaited (piece_state_of files ticket.file ticket.piece)
    → Some (asked_by file ticket len) ≡ option_map (request_for indices files) found
request_is indices files ticket found file len e file_is len_is =
    let here : Some (asked_by file ticket len) ≡ Some (request_for indices files ticket) =
    ap (λ n. Some (asked_by n ticket len)) file_is
    ∙ ap (λ n. Some (asked_by (get_or indices ticket.file 0) ticket n)) len_is in
    here ∙ sym (ap (option_map (request_for indices files)) e)

-- the request for what is found, by the session's own lists
same_request : (indices own : List ℕ) (files : List (List PieceState)) (found right : Option Ticket)
    (result : Option Request) → indices ≡ own → found ≡ right
    → result ≡ option_map (request_for indices files) found
    → result ≡ option_map (request_for own files) right
same_request indices own files found right result indices_are found_is is =
    is ∙ ap (option_map (request_for indices files)) found_is
    ∙ ap (λ (is : List ℕ). option_map (request_for is files) right) indices_are

pub first_request_is : (boot : BootFacts) (phase : PhaseFacts) (entry : ℕ) (rest : List ℕ)
    (earlier : List RefusedEntry) (stage : Staging) (number : ℕ) (indices : List ℕ)
    (found : Option Ticket) (result : Option Request) (bytes : List ℕ)
    → phase ≡ waits entry rest earlier stage → number ≡ length earlier
    → indices ≡ (entry_at boot.menu entry).files
    → found ≡ first_ticket number 0 (piece_states bytes stage)
    → result ≡ option_map (request_for indices (piece_states bytes stage)) found
    → result ≡ first_request boot (state_at bytes phase)
first_request_is boot phase entry rest earlier stage number indices found result bytes phase_is
    number_is indices_are found_is is =
    let files = piece_states bytes stage in
    let right : found ≡ first_ticket (length earlier) 0 files =
    found_is ∙ ap (λ n. first_ticket n 0 files) number_is in
    subst (λ (p : PhaseFacts). result ≡ first_request boot (state_at bytes p)) (sym phase_is)
    (same_request indices (entry_at boot.menu entry).files files found
    (first_ticket (length earlier) 0 files) result indices_are right is)

pub request_after_is : (boot : BootFacts) (phase : PhaseFacts) (entry : ℕ) (rest : List ℕ)
    (earlier : List RefusedEntry) (stage : Staging) (number : ℕ) (indices : List ℕ)
    (found : Option Ticket) (result : Option Request) (ticket : Ticket) (bytes : List ℕ)
    → phase ≡ waits entry rest earlier stage → number ≡ length earlier
    → indices ≡ (entry_at boot.menu entry).files
    → found ≡ ticket_after number (piece_states bytes stage) ticket
    → result ≡ option_map (request_for indices (piece_states bytes stage)) found
    → result ≡ request_after boot (state_at bytes phase) ticket
request_after_is boot phase entry rest earlier stage number indices found result ticket bytes
    phase_is number_is indices_are found_is is =
    let files = piece_states bytes stage in
    let right : found ≡ ticket_after (length earlier) files ticket =
    found_is ∙ ap (λ n. ticket_after n files ticket) number_is in
    subst (λ (p : PhaseFacts). result ≡ request_after boot (state_at bytes p) ticket)
    (sym phase_is)
    (same_request indices (entry_at boot.menu entry).files files found
    (ticket_after (length earlier) files ticket) result indices_are right is)
