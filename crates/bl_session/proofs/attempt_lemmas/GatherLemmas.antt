-- Pieces of a file that come in any order are the file once each came.
use Rattle.std.proofs.Common.{◌≡◌, ℕ, zero, suc, ◌+◌, ◌-◌, ◌*◌, ◌≤◌, Bool, true, false, not, ◌&&◌}
use Rattle.std.proofs.Common.{List, [], ◌∷◌, length, take, drop, set, get_or, map, min, refl, sym}
use Rattle.std.proofs.Common.{ap, ◌∙◌, arith, length-drop}
use Rattle.std.specs.List.{list_all, range_with_len}
use Rattle.std.proofs.lemmas.List.{take-append-drop, drop-drop}
use Rattle.bl_map.specs.PoolFrames.{frames_of}
use Rattle.bl_stage.specs.PieceStates.{PieceState, lacks, has, waiting_pieces, piece_of, came_bytes}
use Rattle.bl_session.specs.attempt.AwaitedPieces.{is_awaited, are_whole, with_piece}

-- each piece that came is the file's, and each other one is awaited
abbrev pub Fits : List PieceState → List ℕ → Type 0
Fits [] text = text ≡ []
Fits (lacks size ∷ piece_states) text = Fits piece_states (drop 4096 text)
Fits (has bytes ∷ piece_states) text = (bytes ≡ take 4096 text) × Fits piece_states (drop 4096 text)

abbrev pub FitAll : List (List PieceState) → List (List ℕ) → Type 0
FitAll [] [] = Unit {0}
FitAll [] (text ∷ texts) = ⊥
FitAll (piece_states ∷ files) [] = ⊥
FitAll (piece_states ∷ files) (text ∷ texts) = Fits piece_states text × FitAll files texts

no_bytes : (text : List ℕ) → length text ≤ 0 → text ≡ []
no_bytes [] h = refl
no_bytes (b ∷ text) h = absurd (omega arith)

fits_waiting : (size : ℕ → ℕ) (start count : ℕ) (text : List ℕ) → length text ≤ 4096 * count
    → Fits (map (λ index. lacks (size index)) (range_with_len start count)) text
fits_waiting size start zero text h = no_bytes text (omega arith)
fits_waiting size start (suc count) text h =
    fits_waiting size (start + 1) count (drop 4096 text) (rw length-drop (omega arith))

-- at first
pub fits_first : (text : List ℕ) (size : ℕ) → size ≡ length text → Fits (waiting_pieces size) text
fits_first text size e =
    fits_waiting (λ index. min 4096 (size - 4096 * index)) 0 (frames_of size) text (omega arith)

next_piece : (text : List ℕ) (k : ℕ) → piece_of text (suc k) ≡ piece_of (drop 4096 text) k
next_piece text k =
    let same : 4096 + 4096 * k ≡ 4096 * suc k = omega arith in
    ap (take 4096) (sym (drop-drop (4096 * k) 4096 text ∙ ap (λ n. drop n text) same))

fits_set : (piece_states : List PieceState) (text : List ℕ) (k : ℕ) (bytes : List ℕ)
    → bytes ≡ piece_of text k
    → Fits piece_states text → Fits (set piece_states k (has bytes)) text
fits_set [] text k bytes e f = f
fits_set (lacks size ∷ piece_states) text zero bytes e f = (e, f)
fits_set (has other ∷ piece_states) text zero bytes e f = (e, f.1)
fits_set (lacks size ∷ piece_states) text (suc k) bytes e f =
    fits_set piece_states (drop 4096 text) k bytes (e ∙ next_piece text k) f
fits_set (has other ∷ piece_states) text (suc k) bytes e f =
    (f.0, fits_set piece_states (drop 4096 text) k bytes (e ∙ next_piece text k) f.1)

-- after one piece
pub fits_piece : (files : List (List PieceState)) (texts : List (List ℕ)) (file k : ℕ)
    (bytes : List ℕ)
    → bytes ≡ piece_of (get_or texts file []) k → FitAll files texts
    → FitAll (with_piece files file k bytes) texts
fits_piece [] texts file k bytes e f = f
fits_piece (piece_states ∷ files) [] file k bytes e f = absurd f
fits_piece (piece_states ∷ files) (text ∷ texts) zero k bytes e f =
    (fits_set piece_states text k bytes e f.0, f.1)
fits_piece (piece_states ∷ files) (text ∷ texts) (suc file) k bytes e f =
    (f.0, fits_piece files texts file k bytes e f.1)

both : (a b : Bool) → (a && b) ≡ true → (a ≡ true) × (b ≡ true)
both true b e = (refl, e)
both false b e = absurd cc

whole_file : (piece_states : List PieceState) (text : List ℕ) → Fits piece_states text
    → list_all (λ piece_state. not (is_awaited piece_state)) piece_states ≡ true
    → came_bytes piece_states ≡ text
whole_file [] text f w = sym f
whole_file (lacks size ∷ piece_states) text f w = absurd cc
whole_file (has bytes ∷ piece_states) text f w =
    rw (f.0, whole_file piece_states (drop 4096 text) f.1 (both true _ w).1)
    (take-append-drop 4096 text)

-- once each came
pub whole_files : (files : List (List PieceState)) (texts : List (List ℕ)) → FitAll files texts
    → are_whole files ≡ true → map came_bytes files ≡ texts
whole_files [] [] f w = refl
whole_files [] (text ∷ texts) f w = absurd f
whole_files (piece_states ∷ files) [] f w = absurd f
whole_files (piece_states ∷ files) (text ∷ texts) f w =
    let parts =
    both (list_all (λ piece_state. not (is_awaited piece_state)) piece_states) (are_whole files)
    w in
    rw (whole_file piece_states text f.0 parts.0, whole_files files texts f.1 parts.1) refl
