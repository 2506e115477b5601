-- Laws of a stage's meaning, for the crates above: at first each piece is awaited, at last the
-- pieces have the file's bytes, and files read as before if their frames do.
use Rattle.std.proofs.Common.{◌≡◌, ℕ, zero, suc, ◌+◌, ◌-◌, ◌*◌, ◌<◌, List, [], ◌∷◌, ◌++◌, length}
use Rattle.std.proofs.Common.{get_or, take, take-add, drop, min, map, replicate, false, arith, refl}
use Rattle.std.proofs.Common.{sym, ap, ◌∙◌, inl, inr}
use Rattle.std.specs.List.{range_with_len}
use Rattle.std.specs.declared.ops.Range.{Range}
use Rattle.std.proofs.lemmas.Bool.{cases_lt}
use Rattle.std.proofs.lemmas.List.{take_all, append_assoc, append-nil, get_or-replicate}
use Rattle.std.proofs.lemmas.List.{length-replicate, get_or_past}
use Rattle.std.proofs.lemmas.List.FromFn.{map-range_with_len_more}
use Rattle.bl_map.specs.PoolFrames.{frames_of}
use Rattle.bl_stage.specs.internal.Cells.{ReadAlike}
use Rattle.bl_stage.specs.Staged.{Staging, AreStaged, AllCame, staged_file, empty_stage}
use Rattle.bl_stage.specs.Staged.{frames_of_file}
use Rattle.bl_stage.specs.Pieces.{slot_in}
use Rattle.bl_stage.specs.PieceStates.{PieceState, lacks, has, piece_state_at, piece_states_of}
use Rattle.bl_stage.specs.PieceStates.{piece_states, piece_of}
use Rattle.bl_stage.specs.PieceStates.{waiting_pieces, came_bytes}
use Rattle.bl_stage.proofs.FrameLemmas.{staged_length}
use Rattle.bl_stage.proofs.FileLemmas.{file_within}
use Rattle.bl_stage.proofs.PieceLemmas.{file_evacuated}
use Rattle.bl_stage.specs.internal.FileSetLaws.{same_firsts}
use Rattle.bl_stage.proofs.PieceStateLemmas.{piece_long}

-- a stage to which no piece came waits for each
pub fresh_piece_states : (bytes : List ℕ) (pool : Range ℕ) (sizes frames : List ℕ)
    → piece_states bytes (empty_stage pool sizes frames)
    ≡ map (λ file. waiting_pieces (get_or sizes file 0)) (range_with_len 0 (length sizes))
fresh_piece_states bytes pool sizes frames =
    let stage = empty_stage pool sizes frames in
    let d : List PieceState = [] in
    same_firsts d (λ file. piece_states_of bytes stage file)
    (λ file. waiting_pieces (get_or sizes file 0))
    (length sizes) (λ file h.
    let size = get_or sizes file 0 in
    same_firsts (has []) (λ k. piece_state_at bytes stage file k)
    (λ k. lacks (min 4096 (size - 4096 * k)))
    (frames_of size) (λ k hk.
    let long : length (staged_file bytes stage file) ≡ size =
    staged_length bytes (frames_of_file stage file) size in
    rw (never (length frames) (slot_in stage file k))
    (ap lacks
    (piece_long (staged_file bytes stage file) k ∙ ap (λ n. min 4096 (n - 4096 * k)) long))))
  where
    never : (n k : ℕ) → get_or (replicate n false) k false ≡ false
    never n k = elim (cases_lt k n) [
      | inl within ↦ get_or-replicate n k false false within
      | inr past ↦
          get_or_past (replicate n false) k false (let e = length-replicate n false in omega arith)
    ]

bytes_of-append : (xs ys : List PieceState) → came_bytes (xs ++ ys) ≡ came_bytes xs ++ came_bytes ys
bytes_of-append [] ys = refl
bytes_of-append (lacks n ∷ xs) ys = bytes_of-append xs ys
bytes_of-append (has piece ∷ xs) ys =
    ap (λ l. piece ++ l) (bytes_of-append xs ys)
    ∙ sym (append_assoc piece (came_bytes xs) (came_bytes ys))

take_pieces : (file : List ℕ) (n : ℕ)
    → take (4096 * n) file ++ take 4096 (drop (4096 * n) file) ≡ take (4096 * (n + 1)) file
take_pieces file n =
    let e : 4096 * n + 4096 ≡ 4096 * (n + 1) =
    omega arith in sym (take-add (4096 * n) 4096 file) ∙ ap (λ m. take m file) e

-- the first n pieces of a file are its first bytes
first_pieces : (file : List ℕ) (n : ℕ)
    → came_bytes (map (λ k. has (piece_of file k)) (range_with_len 0 n)) ≡ take (4096 * n) file
first_pieces file zero = refl
first_pieces file (suc n) =
    let f : ℕ → PieceState = λ k. has (piece_of file k) in
    let next : suc n ≡ n + 1 = omega arith in
    ap (λ m. came_bytes (map f (range_with_len 0 m))) next
    ∙ ap came_bytes (map-range_with_len_more f 0 n n (omega arith))
    ∙ bytes_of-append (map f (range_with_len 0 n)) (f n ∷ [])
    ∙ ap (λ l. l ++ (piece_of file n ++ [])) (first_pieces file n)
    ∙ ap (λ l. take (4096 * n) file ++ l) (append-nil (piece_of file n)) ∙ take_pieces file n
    ∙ ap (λ m. take (4096 * m) file) (sym next)

-- where each piece came, a file's pieces have its bytes
pub complete_piece_states : (bytes : List ℕ) (stage : Staging) (file : ℕ) → AreStaged stage
    → AllCame stage
    → file < length stage.sizes → came_bytes (piece_states_of bytes stage file)
    ≡ staged_file bytes stage file
complete_piece_states bytes stage file kept came h =
    let size = get_or stage.sizes file 0 in
    let text = staged_file bytes stage file in
    let long : length text ≡ size = staged_length bytes (frames_of_file stage file) size in
    let w = file_within stage.sizes file h in
    let a = kept.all in
    let b = kept.flags in
    ap came_bytes
    (same_firsts (has []) (λ k. piece_state_at bytes stage file k) (λ k. has (piece_of text k))
    (frames_of size) (λ k hk. rw (came (slot_in stage file k) false (omega arith)) refl))
    ∙ first_pieces text (frames_of size) ∙ take_all (4096 * frames_of size) text (omega arith)

-- files read as before if each of their frames does
pub files_elsewhere : (old new : List ℕ) (stage : Staging) (file : ℕ) → AreStaged stage
    → ReadAlike old stage.frames new stage.frames → file < length stage.sizes
    → staged_file new stage file ≡ staged_file old stage file
files_elsewhere old new stage file kept same h =
    file_evacuated old new stage stage.frames file kept same refl h
