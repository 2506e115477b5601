-- The first piece that is awaited.
use Rattle.std.proofs.Common.{◌≡◌, ℕ, suc, ◌+◌, ◌<◌, ◌≤◌, ◌==◌, true, false, not, List, [], ◌∷◌}
use Rattle.std.proofs.Common.{length, drop, get_or, Option, None, Some, refl, sym, ap, subst, ◌∙◌}
use Rattle.std.proofs.Common.{arith}
use Rattle.std.specs.List.{list_all}
use Rattle.std.proofs.lemmas.List.{drop_more, drop_all}
use Rattle.std.proofs.lemmas.Bool.Decides.{nat_tests}
use Rattle.bl_map.specs.PoolFrames.{frames_of}
use Rattle.bl_load.specs.declared.refused_entry.RefusedEntry.{RefusedEntry}
use Rattle.bl_stage.specs.Staged.{Staging}
use Rattle.bl_stage.specs.PieceStates.{PieceState, lacks, has, piece_states}
use Rattle.bl_store.specs.declared.ticket.Ticket.{Ticket}
use Rattle.bl_session.specs.attempt.AwaitedPieces.{is_awaited, piece_state_of, are_whole}
use Rattle.bl_session.specs.session.BootSteps.{is_wanted}
use Rattle.bl_store.specs.Events.{fault}
use Rattle.bl_session.specs.attempt.AwaitedTickets.{ticket_of, first_awaited_piece, first_ticket}
use Rattle.bl_session.specs.attempt.AwaitedTickets.{ticket_or}
use Rattle.bl_session.proofs.attempt_lemmas.PieceStateLemmas.{length-piece_states_of}
use Rattle.bl_session.proofs.attempt_lemmas.PieceStateLemmas.{length-piece_states}
use Rattle.bl_session.proofs.attempt_lemmas.PieceStateLemmas.{file_piece_states}

-- ---- one piece, or one file, further on

here : (i : ℕ) (piece_state : PieceState) (rest : List PieceState) → is_awaited piece_state ≡ true
    → first_awaited_piece i (piece_state ∷ rest) ≡ Some i
here i (lacks size) rest e = refl
here i (has bytes) rest e = absurd cc

not_here : (i : ℕ) (piece_state : PieceState) (rest : List PieceState)
    → is_awaited piece_state ≡ false
    → first_awaited_piece i (piece_state ∷ rest) ≡ first_awaited_piece (i + 1) rest
not_here i (lacks size) rest e = absurd cc
not_here i (has bytes) rest e = refl

pub piece_here : (all : List PieceState) (i : ℕ) (x : Option ℕ) → i < length all
    → is_awaited (get_or all i (has [])) ≡ true → x ≡ first_awaited_piece i (drop i all)
    → Some i ≡ x
piece_here all i x h e so_far =
    sym
    (so_far ∙ ap (first_awaited_piece i) (drop_more all i (has []) h)
    ∙ here i (get_or all i (has [])) (drop (i + 1) all) e)

pub piece_later : (all : List PieceState) (i : ℕ) (x : Option ℕ) → i < length all
    → is_awaited (get_or all i (has [])) ≡ false → x ≡ first_awaited_piece i (drop i all)
    → x ≡ first_awaited_piece (i + 1) (drop (i + 1) all)
piece_later all i x h e so_far =
    so_far ∙ ap (first_awaited_piece i) (drop_more all i (has []) h)
    ∙ not_here i (get_or all i (has [])) (drop (i + 1) all) e

pub piece_none : (all : List PieceState) (i : ℕ) (x : Option ℕ) → length all ≤ i
    → x ≡ first_awaited_piece i (drop i all) → None ≡ x
piece_none all i x h so_far = sym (so_far ∙ ap (first_awaited_piece i) (drop_all i all h))

pub length-file_piece_states : (bytes : List ℕ) (stage : Staging) (file : ℕ)
    → file < length stage.sizes
    → length (get_or (piece_states bytes stage) file []) ≡ frames_of (get_or stage.sizes file 0)
length-file_piece_states bytes stage file h =
    ap (λ (s : List PieceState). length s) (file_piece_states bytes stage file h)
    ∙ length-piece_states_of bytes stage file

pub file_next : (attempt place : ℕ) (files : List (List PieceState)) → place < length files
    → first_ticket attempt place (drop place files)
    ≡ ticket_or attempt place (first_ticket attempt (place + 1) (drop (place + 1) files))
    (first_awaited_piece 0 (get_or files place []))
file_next attempt place files h = ap (first_ticket attempt place) (drop_more files place [] h)

pub ticket_here : (attempt place piece : ℕ) (bytes : List ℕ) (stage : Staging) (x : Option Ticket)
    → place < length stage.sizes → Some piece
    ≡ first_awaited_piece 0 (get_or (piece_states bytes stage) place [])
    → x ≡ first_ticket attempt place (drop place (piece_states bytes stage))
    → Some (ticket_of attempt place piece) ≡ x
ticket_here attempt place piece bytes stage x h e so_far =
    let long = length-piece_states bytes stage in
    let files = piece_states bytes stage in
    sym
    (so_far ∙ file_next attempt place files (omega arith)
    ∙ ap
    (ticket_or attempt place
    (first_ticket attempt (place + 1) (drop (place + 1) files))) (sym e))

pub ticket_later : (attempt place : ℕ) (bytes : List ℕ) (stage : Staging) (x : Option Ticket)
    → place < length stage.sizes → None
    ≡ first_awaited_piece 0 (get_or (piece_states bytes stage) place [])
    → x ≡ first_ticket attempt place (drop place (piece_states bytes stage))
    → x ≡ first_ticket attempt (place + 1) (drop (place + 1) (piece_states bytes stage))
ticket_later attempt place bytes stage x h e so_far =
    let long = length-piece_states bytes stage in
    let files = piece_states bytes stage in
    so_far ∙ file_next attempt place files (omega arith)
    ∙ ap (ticket_or attempt place (first_ticket attempt (place + 1) (drop (place + 1) files)))
    (sym e)

pub ticket_none : (attempt place : ℕ) (bytes : List ℕ) (stage : Staging) (x : Option Ticket)
    → length stage.sizes ≤ place
    → x ≡ first_ticket attempt place (drop place (piece_states bytes stage)) → None ≡ x
ticket_none attempt place bytes stage x h so_far =
    let long = length-piece_states bytes stage in
    sym
    (so_far
    ∙ ap (first_ticket attempt place) (drop_all place (piece_states bytes stage) (omega arith)))

-- ---- where no piece is awaited, each came

none_awaited : (i : ℕ) (all : List PieceState) → first_awaited_piece i all ≡ None
    → list_all (λ piece_state. not (is_awaited piece_state)) all ≡ true
none_awaited i [] e = refl
none_awaited i (lacks size ∷ all) e = absurd cc
none_awaited i (has bytes ∷ all) e = none_awaited (i + 1) all e

whole_by : (attempt place : ℕ) (all : List PieceState) (files : List (List PieceState))
    (found : Option ℕ)
    → first_awaited_piece 0 all ≡ found
    → ticket_or attempt place (first_ticket attempt (place + 1) files) found ≡ None
    → (first_ticket attempt (place + 1) files ≡ None → are_whole files ≡ true)
    → are_whole (all ∷ files) ≡ true
whole_by attempt place all files None is e more = rw (none_awaited 0 all is) (more e)
whole_by attempt place all files (Some piece) is e more = absurd cc

pub none_missing : (attempt place : ℕ) (files : List (List PieceState))
    → first_ticket attempt place files ≡ None → are_whole files ≡ true
none_missing attempt place [] e = refl
none_missing attempt place (all ∷ files) e =
    whole_by attempt place all files (first_awaited_piece 0 all) refl e
    (none_missing attempt (place + 1) files)

-- ---- a fault of the first one is wanted

piece_awaited : (i : ℕ) (all : List PieceState) (k : ℕ) → first_awaited_piece i all ≡ Some k
    → (d : ℕ) × (k ≡ i + d) × (is_awaited (get_or all d (has [])) ≡ true)
piece_awaited i [] k e = absurd cc
piece_awaited i (lacks size ∷ all) k e = (0, (let q : k ≡ i = cc in omega arith), refl)
piece_awaited i (has bytes ∷ all) k e =
    let more = piece_awaited (i + 1) all k e in
    (suc more.0, (let q = more.1 in omega arith), more.2)

-- the file lies so far after this place
abbrev pub IsAwaitedFrom : (attempt place : ℕ) → List (List PieceState) → Ticket → Type 0
IsAwaitedFrom attempt place files ticket =
    (d : ℕ) × (ticket.file ≡ place + d) × (ticket.attempt ≡ attempt)
    × (is_awaited (piece_state_of files d ticket.piece) ≡ true)

awaited_by : (attempt place : ℕ) (all : List PieceState) (files : List (List PieceState))
    (ticket : Ticket)
    (found : Option ℕ) → first_awaited_piece 0 all ≡ found
    → ticket_or attempt place (first_ticket attempt (place + 1) files) found ≡ Some ticket
    → (first_ticket attempt (place + 1) files ≡ Some ticket
    → IsAwaitedFrom attempt (place + 1) files ticket)
    → IsAwaitedFrom attempt place (all ∷ files) ticket
awaited_by attempt place all files ticket None is e more =
    let later = more e in
    (suc later.0, (let q = later.1 in omega arith), later.2, later.3)
awaited_by attempt place all files ticket (Some piece) is e more =
    let found = piece_awaited 0 all piece is in
    let same : ticket ≡ ticket_of attempt place piece = cc in
    let at : found.0 ≡ ticket.piece =
    (let q = found.1 in let s = ap (λ (t : Ticket). t.piece) same in omega arith) in (
      0,
      (let s = ap (λ (t : Ticket). t.file) same in omega arith),
      ap (λ (t : Ticket). t.attempt) same,
      rw (← at) found.2,
    )

first_awaited : (attempt place : ℕ) (files : List (List PieceState)) (ticket : Ticket)
    → first_ticket attempt place files ≡ Some ticket → IsAwaitedFrom attempt place files ticket
first_awaited attempt place [] ticket e = absurd cc
first_awaited attempt place (all ∷ files) ticket e =
    awaited_by attempt place all files ticket (first_awaited_piece 0 all) refl e
    (first_awaited attempt (place + 1) files ticket)

pub first_wanted : (earlier : List RefusedEntry) (files : List (List PieceState)) (ticket : Ticket)
    → first_ticket (length earlier) 0 files ≡ Some ticket
    → is_wanted earlier files (fault ticket) ≡ true
first_wanted earlier files ticket e =
    let found = first_awaited (length earlier) 0 files ticket e in
    let number = found.2 in
    let test : (ticket.attempt == length earlier) ≡ true = grind (arith, nat_tests) in
    let at : found.0 ≡ ticket.file = (let q = found.1 in omega arith) in
    let waiting_files =
    subst (λ n. is_awaited (piece_state_of files n ticket.piece) ≡ true) at found.3 in
    rw (test, waiting_files) refl
