-- The texts of a stage's files, and the memory that they lie in.
use Rattle.std.proofs.Common.{◌≡◌, ℕ, ◌+◌, ◌*◌, ◌<◌, List, [], length, get_or, arith, rules}
use Rattle.std.proofs.lemmas.List.{places}
use Rattle.std.proofs.lemmas.List.FromFn.{length-map-range_with_len, get_or-map-range_with_len}
use Rattle.bl_map.specs.PoolFrames.{frames_of}
use Rattle.bl_mem.specs.FileSet.{AreAddressesBelow, nth_file}
use Rattle.bl_stage.specs.Staged.{AreInside, Staging, AreStaged, HasPool, staged_file}
use Rattle.bl_stage.specs.Staged.{frames_of_file}
use Rattle.bl_stage.specs.Staged.{frames_before, staged_texts, IsStagedOn}
use Rattle.bl_stage.proofs.FileLemmas.{file_within, read_part}

-- a file's own frames are as many as it needs
pub table_long : (stage : Staging) (file : ℕ) → AreStaged stage → file < length stage.sizes
    → length (frames_of_file stage file) ≡ frames_of (get_or stage.sizes file 0)
table_long stage file kept h =
    let w = file_within stage.sizes file h in
    let a = kept.all in
    search (rules, places)

-- memory has them if it has the pool
pub table_in_pool : (stage : Staging) (file : ℕ) (bytes : List ℕ) → AreStaged stage
    → file < length stage.sizes → HasPool bytes stage.pool
    → AreInside (frames_of_file stage file) (length bytes)
table_in_pool stage file bytes kept h pool k hk =
    let w = file_within stage.sizes file h in
    let a = kept.all in
    let long = table_long stage file kept h in
    let read =
    read_part stage.frames (frames_before stage.sizes file) (frames_of (get_or stage.sizes file 0)) k
    (omega arith) (omega arith) in
    let low = kept.low (frames_before stage.sizes file + k) (omega arith) in
    let high = kept.high (frames_before stage.sizes file + k) (omega arith) in
    let end = pool (omega arith) in
    omega arith

-- and if it has the addresses of the files
pub table_below : (stage : Staging) (file size : ℕ) → AreStaged stage → file < length stage.sizes
    → AreAddressesBelow (IsStagedOn stage) size → AreInside (frames_of_file stage file) size
table_below stage file size kept h below k hk =
    let long = table_long stage file kept h in
    let last = below (4096 * get_or (frames_of_file stage file) k 0 + 4095) (record {
      file = file;
      index = k;
      of_stage = h;
      of_file = omega arith;
      low = omega arith;
      high = omega arith;
    }) in
    omega arith

-- a file of the texts
pub staged_text : (stage : Staging) (bytes : List ℕ) (file : ℕ)
    → file < length (staged_texts bytes stage)
    → (file < length stage.sizes)
    × (nth_file (staged_texts bytes stage) file ≡ staged_file bytes stage file)
staged_text stage bytes file h =
    let below : file < length stage.sizes =
    let e =
    length-map-range_with_len (λ f. staged_file bytes stage f) 0 (length stage.sizes) in
    omega arith in
    let d : List ℕ = [] in (
      below,
      get_or-map-range_with_len (λ f. staged_file bytes stage f) 0 (length stage.sizes) file file
          d below (omega arith),
    )
