-- The pieces that an attempt waits for: for each of its files, the state of each piece. Own.
use Rattle.std.specs.Prelude.{ℕ, ◌==◌, Bool, true, false, not, List, [], slice_index_or, slice_set}
use Rattle.std.specs.Prelude.{map}
use Rattle.std.specs.List.{list_all}
use Rattle.bl_stage.specs.PieceStates.{PieceState, lacks, has, waiting_pieces}

abbrev pub is_awaited : PieceState → Bool
is_awaited (lacks size) = true
is_awaited (has bytes) = false

-- a piece of so many bytes is awaited
abbrev pub awaits : PieceState → ℕ → Bool
awaits (lacks size) count = size == count
awaits (has bytes) count = false

-- the state of a piece; where there is no such file or piece, nothing is awaited
abbrev pub piece_state_of : List (List PieceState) → ℕ → ℕ → PieceState
piece_state_of files file piece = slice_index_or (slice_index_or files file []) piece (has [])

-- the files after a piece came
abbrev pub with_piece : List (List PieceState) → ℕ → ℕ → List ℕ → List (List PieceState)
with_piece files file piece bytes =
    slice_set files file (slice_set (slice_index_or files file []) piece (has bytes))

-- each piece of each file came
abbrev pub are_whole : List (List PieceState) → Bool
are_whole files =
    list_all (λ states. list_all (λ state. not (is_awaited state)) states) files

-- files of these lengths of which no piece came
abbrev pub waiting_files : List ℕ → List (List PieceState)
waiting_files lengths = map waiting_pieces lengths
