-- What a stage means: for each file the states of its pieces, as memory has them. Own.
use Rattle.std.specs.Prelude.{ℕ, ◌*◌, ◌-◌, ◌++◌, min, List, [], ◌∷◌, length, take, drop, map}
use Rattle.std.specs.Prelude.{slice_index, slice_index_or, slice_set, Bool, true, false}
use Rattle.std.specs.List.{range_with_len}
use Rattle.bl_map.specs.PoolFrames.{frames_of}
use Rattle.bl_stage.specs.Staged.{Staging, staged_file}
use Rattle.bl_stage.specs.Pieces.{slot_in}

-- a piece of so many bytes is awaited, or it came and has these bytes
pub data PieceState : Type 0 where
  lacks : ℕ → PieceState
  has : List ℕ → PieceState

-- a file's piece of this index: 4096 of its bytes, or what is left
abbrev pub piece_of : List ℕ → ℕ → List ℕ
piece_of file index = take 4096 (drop (4096 * index) file)

abbrev pub piece_state_if_came : Bool → List ℕ → PieceState
piece_state_if_came true piece = has piece
piece_state_if_came false piece = lacks (length piece)

abbrev pub piece_state_at : List ℕ → Staging → ℕ → ℕ → PieceState
piece_state_at bytes stage file index =
    piece_state_if_came (slice_index_or stage.came (slot_in stage file index) false)
    (piece_of (staged_file bytes stage file) index)

-- the states of a file's pieces
abbrev pub piece_states_of : List ℕ → Staging → ℕ → List PieceState
piece_states_of bytes stage file =
    map (λ index. piece_state_at bytes stage file index)
    (range_with_len 0 (frames_of (slice_index stage.sizes file)))

-- those of each file
abbrev pub piece_states : List ℕ → Staging → List (List PieceState)
piece_states bytes stage =
    map (λ file. piece_states_of bytes stage file) (range_with_len 0 (length stage.sizes))

-- the states of all pieces after one came
abbrev pub piece_states_after_put : List ℕ → Staging → ℕ → ℕ → List ℕ → List (List PieceState)
piece_states_after_put bytes stage file index piece =
    slice_set (piece_states bytes stage) file
    (slice_set (piece_states_of bytes stage file) index (has piece))

-- the states of the pieces of a file of this size of which none came
abbrev pub waiting_pieces : ℕ → List PieceState
waiting_pieces size =
    map (λ index. lacks (min 4096 (size - 4096 * index))) (range_with_len 0 (frames_of size))

-- the bytes that came, in the file's order
abbrev pub came_bytes : List PieceState → List ℕ
came_bytes [] = []
came_bytes (lacks size ∷ piece_states) = came_bytes piece_states
came_bytes (has bytes ∷ piece_states) = bytes ++ came_bytes piece_states
