-- The pieces that an attempt awaits: as it begins, after one came, and the first of them.
use Rattle.std.proofs.Common.{◌≡◌, ℕ, zero, suc, ◌+◌, ◌-◌, ◌*◌, ◌<◌, true, min, List, [], ◌∷◌}
use Rattle.std.proofs.Common.{length, get_or, set, Option, Some, None, refl, sym, ap, ◌∙◌, inl, inr}
use Rattle.std.proofs.Common.{arith}
use Rattle.std.proofs.lemmas.Bool.{cases_lt}
use Rattle.std.proofs.lemmas.List.{length-set, get_or-map, get_or_past, length-map}
use Rattle.std.proofs.lemmas.List.FromFn.{get_or-map-range_with_len, length-map-range_with_len}
use Rattle.bl_map.specs.PoolFrames.{frames_of}
use Rattle.bl_stage.specs.PieceStates.{PieceState, lacks, has, waiting_pieces}
use Rattle.bl_store.specs.declared.ticket.Ticket.{Ticket}
use Rattle.bl_session.specs.attempt.AwaitedTickets.{ticket_of, first_awaited_piece, first_ticket}
use Rattle.bl_session.specs.attempt.AwaitedTickets.{ticket_or}
use Rattle.bl_session.specs.attempt.AwaitedPieces.{is_awaited, awaits, piece_state_of, with_piece}
use Rattle.bl_session.specs.attempt.AwaitedPieces.{waiting_files}

-- ---- a new attempt's

-- a piece of these files, and how long it is
pub record IsPiece (lengths : List ℕ) (file piece : ℕ) : Type 0 where
  pub file_in : file < length (waiting_files lengths)
  pub piece_in : piece < length (get_or (waiting_files lengths) file [])
  pub inside : 4096 * piece < get_or lengths file 0
  pub piece_state : piece_state_of (waiting_files lengths) file piece
      ≡ lacks (min 4096 (get_or lengths file 0 - 4096 * piece))

pub is_piece : (lengths : List ℕ) (file piece : ℕ)
    → is_awaited (piece_state_of (waiting_files lengths) file piece) ≡ true
    → IsPiece lengths file piece
is_piece lengths file piece e =
    let d : List PieceState = [] in
    elim (cases_lt file (length lengths)) [
      | inl h ↦
          let n = get_or lengths file 0 in
          let at : get_or (waiting_files lengths) file d ≡ waiting_pieces n =
          get_or-map waiting_pieces lengths file 0 d h in
          let size : ℕ → PieceState = λ index. lacks (min 4096 (n - 4096 * index)) in
          let long = length-map-range_with_len size 0 (frames_of n) in
          let many = length-map lengths waiting_pieces in
          elim (cases_lt piece (frames_of n)) [
            | inl k ↦ record {
              file_in = omega arith;
              piece_in = rw at (omega arith);
              inside = omega arith;
              piece_state =
                  ap (λ (s : List PieceState). get_or s piece (has [])) at
                  ∙ get_or-map-range_with_len size 0 (frames_of n) piece piece (has []) k
                  (omega arith);
            }
            | inr past ↦
                let none : piece_state_of (waiting_files lengths) file piece ≡ has [] =
                ap (λ (s : List PieceState). get_or s piece (has [])) at
                ∙ get_or_past (waiting_pieces n) piece (has []) (omega arith) in
                absurd (let f = ap is_awaited none in cc)
          ]
      | inr past ↦
          let many = length-map lengths waiting_pieces in
          let none : piece_state_of (waiting_files lengths) file piece ≡ has [] =
          ap (λ (s : List PieceState). get_or s piece (has []))
          (get_or_past (waiting_files lengths) file d (omega arith)) in
          absurd (let f = ap is_awaited none in cc)
    ]

-- ---- after a piece came

piece_state_left : (piece_states : List PieceState) (k j : ℕ) (bytes : List ℕ)
    → is_awaited (get_or (set piece_states k (has bytes)) j (has [])) ≡ true
    → (¬ (j ≡ k)) × (get_or (set piece_states k (has bytes)) j (has [])
    ≡ get_or piece_states j (has []))
piece_state_left [] k j bytes e = absurd cc
piece_state_left (piece_state ∷ piece_states) zero zero bytes e = absurd cc
piece_state_left (piece_state ∷ piece_states) zero (suc j) bytes e = (λ s. omega arith, refl)
piece_state_left (piece_state ∷ piece_states) (suc k) zero bytes e = (λ s. omega arith, refl)
piece_state_left (piece_state ∷ piece_states) (suc k) (suc j) bytes e =
    let next = piece_state_left piece_states k j bytes e in
    (λ s. next.0 (omega arith), next.1)

-- each one that is still awaited is another, and as it was
pub still_awaited : (files : List (List PieceState)) (file piece : ℕ) (bytes : List ℕ) (f k : ℕ)
    → is_awaited (piece_state_of (with_piece files file piece bytes) f k) ≡ true
    → (¬ ((f ≡ file) × (k ≡ piece)))
    × (piece_state_of (with_piece files file piece bytes) f k ≡ piece_state_of files f k)
still_awaited [] file piece bytes f k e = absurd cc
still_awaited (piece_states ∷ files) zero piece bytes zero k e =
    let next = piece_state_left piece_states piece k bytes e in
    (λ (a, b). next.0 b, next.1)
still_awaited (piece_states ∷ files) zero piece bytes (suc f) k e = (λ (a, b). omega arith, refl)
still_awaited (piece_states ∷ files) (suc file) piece bytes zero k e = (λ (a, b). omega arith, refl)
still_awaited (piece_states ∷ files) (suc file) piece bytes (suc f) k e =
    let next = still_awaited files file piece bytes f k e in
    (λ (a, b). next.0 (omega arith, b), next.1)

pub awaits_is_awaited : (piece_state : PieceState) (count : ℕ) → awaits piece_state count ≡ true
    → is_awaited piece_state ≡ true
awaits_is_awaited (lacks size) count e = refl
awaits_is_awaited (has bytes) count e = absurd cc

-- ---- the number of a file's pieces stays

pub as_many_files : (files : List (List PieceState)) (file piece : ℕ) (bytes : List ℕ)
    → length (with_piece files file piece bytes) ≡ length files
as_many_files files file piece bytes =
    length-set files file (set (get_or files file []) piece (has bytes))

pub as_many_pieces : (files : List (List PieceState)) (file piece : ℕ) (bytes : List ℕ) (place : ℕ)
    → length (get_or (with_piece files file piece bytes) place []) ≡ length (get_or files place [])
as_many_pieces [] file piece bytes place = refl
as_many_pieces (piece_states ∷ files) zero piece bytes zero =
    length-set piece_states piece (has bytes)
as_many_pieces (piece_states ∷ files) zero piece bytes (suc place) = refl
as_many_pieces (piece_states ∷ files) (suc file) piece bytes zero = refl
as_many_pieces (piece_states ∷ files) (suc file) piece bytes (suc place) =
    as_many_pieces files file piece bytes place

-- ---- the first piece that is awaited

piece_state_first : (start : ℕ) (piece_states : List PieceState) (k : ℕ)
    → first_awaited_piece start piece_states ≡ Some k
    → (j : ℕ) × (k ≡ start + j) × (is_awaited (get_or piece_states j (has [])) ≡ true)
piece_state_first start [] k e = absurd cc
piece_state_first start (lacks size ∷ piece_states) k e =
    (0, (let same : start ≡ k = cc in omega arith), refl)
piece_state_first start (has bytes ∷ piece_states) k e =
    let next = piece_state_first (start + 1) piece_states k e in
    (suc next.0, (let at = next.1 in omega arith), next.2)

-- it is awaited
ticket_first : (attempt place : ℕ) (files : List (List PieceState)) (t : Ticket)
    → first_ticket attempt place files ≡ Some t
    → (i : ℕ) × (t.attempt ≡ attempt) × (t.file ≡ place + i)
    × (is_awaited (piece_state_of files i t.piece) ≡ true)
ticket_first attempt place [] t e = absurd cc
ticket_first attempt place (piece_states ∷ files) t e =
    chosen (ticket_first attempt (place + 1) files t) (first_awaited_piece 0 piece_states) refl e
  where
    chosen : (first_ticket attempt (place + 1) files ≡ Some t
        → (i : ℕ) × (t.attempt ≡ attempt) × (t.file ≡ place + 1 + i)
        × (is_awaited (piece_state_of files i t.piece) ≡ true))
        → (found : Option ℕ) → first_awaited_piece 0 piece_states ≡ found
        → ticket_or attempt place (first_ticket attempt (place + 1) files) found ≡ Some t
        → (i : ℕ) × (t.attempt ≡ attempt) × (t.file ≡ place + i)
        × (is_awaited (piece_state_of (piece_states ∷ files) i t.piece) ≡ true)
    chosen others None is e =
        let next = others e in
        (suc next.0, next.1, (let at = next.2 in omega arith), next.3)
    chosen others (Some k) is e =
        let here : ticket_of attempt place k ≡ t = cc in
        let first = piece_state_first 0 piece_states k is in
        let piece : t.piece ≡ first.0 =
        let at = first.1 in ap (λ (x : Ticket). x.piece) (sym here) ∙ at ∙ omega arith in (
          0,
          sym (ap (λ (x : Ticket). x.attempt) here),
          ap (λ (x : Ticket). x.file) (sym here) ∙ omega arith,
          rw piece first.2,
        )

pub first_is_awaited : (attempt : ℕ) (files : List (List PieceState)) (t : Ticket)
    → first_ticket attempt 0 files ≡ Some t
    → (t.attempt ≡ attempt) × (is_awaited (piece_state_of files t.file t.piece) ≡ true)
first_is_awaited attempt files t e =
    let first = ticket_first attempt 0 files t e in
    let place : t.file ≡ first.0 = let at = first.2 in omega arith in
    (first.1, rw place first.3)
