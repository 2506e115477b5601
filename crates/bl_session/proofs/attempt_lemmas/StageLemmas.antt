-- The files of a stage: how many frames they need, where they lie, and that they read as before.
use Rattle.std.proofs.Common.{◌≡◌, ℕ, ◌+◌, ◌*◌, ◌<◌, ◌≤◌, List, [], length, map, get_or, arith}
use Rattle.std.proofs.Common.{refl, sym, ap, ◌∙◌, true, false}
use Rattle.std.specs.List.{range_with_len}
use Rattle.std.specs.declared.ops.Range.{Range}
use Rattle.std.proofs.lemmas.Bool.{false≢true}
use Rattle.std.proofs.lemmas.Bool.Decides.{nat_tests}
use Rattle.std.proofs.lemmas.List.Folds.{list_all_at}
use Rattle.std.proofs.lemmas.List.FromFn.{length-map-range_with_len, get_or-map-range_with_len}
use Rattle.std.proofs.lemmas.List.{ext_get_or}
use Rattle.std.proofs.lemmas.Simd.{map-map}
use Rattle.bl_map.specs.PoolFrames.{frames_of, misses_frame, is_open, frames_for}
use Rattle.bl_mem.specs.FileSet.{AreAddressesBelow, AllApartFrom}
use Rattle.bl_mem.specs.Memory.{IsIn}
use Rattle.bl_stage.specs.Ranges.{meets}
use Rattle.bl_stage.specs.Staged.{Staging, AreStaged, HasPool, IsStagedOn, staged_file}
use Rattle.bl_stage.specs.Staged.{frames_of_file}
use Rattle.bl_stage.specs.Staged.{frames_before, staged_texts, with_frames}
use Rattle.bl_stage.specs.internal.FileSetLaws.{same_firsts}
use Rattle.bl_stage.proofs.FileLemmas.{file_within, read_part}
use Rattle.bl_stage.proofs.FrameLemmas.{staged_length}

-- ---- how many frames

lengths_are : (bytes : List ℕ) (stage : Staging)
    → map (λ text. length text) (staged_texts bytes stage) ≡ stage.sizes
lengths_are bytes stage =
    let n = length stage.sizes in
    let size : ℕ → ℕ = λ file. length (staged_file bytes stage file) in
    map-map (λ (text : List ℕ). length text) (λ file. staged_file bytes stage file)
    (range_with_len 0 n)
    ∙ ext_get_or 0 (map size (range_with_len 0 n)) stage.sizes (length-map-range_with_len size 0 n)
    (λ k h.
    let below : k < n = let e = length-map-range_with_len size 0 n in omega arith in
    get_or-map-range_with_len size 0 n k k 0 below (omega arith)
    ∙ staged_length bytes (frames_of_file stage k) (get_or stage.sizes k 0))

pub texts_needed : (bytes : List ℕ) (stage : Staging)
    → frames_for (map length (staged_texts bytes stage)) ≡ frames_for stage.sizes
texts_needed bytes stage = ap frames_for (lengths_are bytes stage)

-- ---- where they lie

-- a frame of a file is one of the list of all
frame_of : (stage : Staging) (a : ℕ) → AreStaged stage → (on : IsStagedOn stage a)
    → (k : ℕ) × (k < length stage.frames) × (4096 * get_or stage.frames k 0 ≤ a)
    × (a < 4096 * get_or stage.frames k 0 + 4096)
frame_of stage a kept on =
    let within = file_within stage.sizes on.file on.of_stage in
    let all = kept.all in
    let first = frames_before stage.sizes on.file in
    let frame =
    read_part stage.frames first (frames_of (get_or stage.sizes on.file 0)) on.index on.of_file
    (omega arith) in
    (first + on.index, omega arith, omega (arith, frame, on.low), omega (arith, frame, on.high))

-- memory has all of their addresses if it has the pool
pub files_below : (stage : Staging) (bytes : List ℕ) → AreStaged stage → HasPool bytes stage.pool
    → AreAddressesBelow (λ a. IsStagedOn stage a) (length bytes)
files_below stage bytes kept pool a on =
    let (k, within, low, high) = frame_of stage a kept on in
    let start = kept.low k within in
    let end = kept.high k within in
    let inside = pool (omega arith) in
    omega arith

-- a range that has an address of a frame meets the frame
meets_range : (r : Range ℕ) (frame a : ℕ) → frame ≤ a → a < frame + 4096 → IsIn r a
    → misses_frame r frame ≡ false
meets_range r frame a low high here = grind (arith, nat_tests)

-- they lie beside ranges that meet none of their frames
pub files_beside : (stage : Staging) (ranges : List (Range ℕ)) → AreStaged stage
    → ((k : ℕ) → k < length stage.frames → meets ranges (get_or stage.frames k 0) ≡ false)
    → AllApartFrom (λ a. IsStagedOn stage a) ranges
files_beside stage ranges kept clear i d within a low high on =
    let (k, among, from, to) = frame_of stage a kept on in
    let frame = get_or stage.frames k 0 in
    let shut : is_open ranges (4096 * frame) ≡ false =
    list_all_at (λ r. misses_frame r (4096 * frame)) ranges i d within
    (meets_range (get_or ranges i d) (4096 * frame) a from to (low, high)) in
    let met : meets ranges frame ≡ true = rw shut refl in
    false≢true (sym (clear k among) ∙ met)

-- ---- what they read as

pub texts_kept : (old new : List ℕ) (stage : Staging) (frames : List ℕ)
    → ((file : ℕ) → file < length stage.sizes
    → staged_file new (with_frames stage frames) file ≡ staged_file old stage file)
    → staged_texts new (with_frames stage frames) ≡ staged_texts old stage
texts_kept old new stage frames same =
    let d : List ℕ = [] in
    same_firsts d (λ file. staged_file new (with_frames stage frames) file)
    (λ file. staged_file old stage file) (length stage.sizes) same
