-- A stage's files as the piece states of an attempt.
use Rattle.std.proofs.Common.{◌≡◌, ℕ, ◌<◌, ◌≤◌, List, [], length, get_or, arith, ap, ◌∙◌}
use Rattle.std.proofs.lemmas.List.{get_or_past}
use Rattle.std.proofs.lemmas.List.FromFn.{length-map-range_with_len, get_or-map-range_with_len}
use Rattle.bl_map.specs.PoolFrames.{frames_of}
use Rattle.bl_stage.specs.Staged.{Staging}
use Rattle.bl_stage.specs.PieceStates.{PieceState, has, piece_states, piece_states_of}
use Rattle.bl_stage.specs.PieceStates.{piece_state_at}
use Rattle.bl_session.specs.attempt.AwaitedPieces.{piece_state_of}

-- ---- one piece

abbrev pub Named : Staging → ℕ → ℕ → Type 0
Named stage file index =
    (file < length stage.sizes) × (index < frames_of (get_or stage.sizes file 0))

pub length-piece_states_of : (bytes : List ℕ) (stage : Staging) (file : ℕ)
    → length (piece_states_of bytes stage file) ≡ frames_of (get_or stage.sizes file 0)
length-piece_states_of bytes stage file =
    length-map-range_with_len (λ index. piece_state_at bytes stage file index) 0
    (frames_of (get_or stage.sizes file 0))

pub length-piece_states : (bytes : List ℕ) (stage : Staging)
    → length (piece_states bytes stage) ≡ length stage.sizes
length-piece_states bytes stage =
    length-map-range_with_len (λ file. piece_states_of bytes stage file) 0 (length stage.sizes)

pub file_piece_states : (bytes : List ℕ) (stage : Staging) (file : ℕ) → file < length stage.sizes
    → get_or (piece_states bytes stage) file [] ≡ piece_states_of bytes stage file
file_piece_states bytes stage file h =
    get_or-map-range_with_len (λ f. piece_states_of bytes stage f) 0 (length stage.sizes) file file
    [] h
    (omega arith)

pub piece_state_named : (bytes : List ℕ) (stage : Staging) (file index : ℕ) → Named stage file index
    → piece_state_of (piece_states bytes stage) file index ≡ piece_state_at bytes stage file index
piece_state_named bytes stage file index (h, i) =
    ap (λ (s : List PieceState). get_or s index (has [])) (file_piece_states bytes stage file h)
    ∙ get_or-map-range_with_len (λ k. piece_state_at bytes stage file k) 0
    (frames_of (get_or stage.sizes file 0)) index index (has []) i (omega arith)

pub piece_state_past : (bytes : List ℕ) (stage : Staging) (file index : ℕ)
    → length stage.sizes ≤ file
    → piece_state_of (piece_states bytes stage) file index ≡ has []
piece_state_past bytes stage file index h =
    let long = length-piece_states bytes stage in
    ap (λ (s : List PieceState). get_or s index (has []))
    (get_or_past (piece_states bytes stage) file [] (omega arith))

pub index_past : (bytes : List ℕ) (stage : Staging) (file index : ℕ) → file < length stage.sizes
    → frames_of (get_or stage.sizes file 0) ≤ index
    → piece_state_of (piece_states bytes stage) file index ≡ has []
index_past bytes stage file index h i =
    let long = length-piece_states_of bytes stage file in
    ap (λ (s : List PieceState). get_or s index (has [])) (file_piece_states bytes stage file h)
    ∙ get_or_past (piece_states_of bytes stage file) index (has []) (omega arith)
