-- What a file in frames reads as.
use Rattle.std.proofs.Common.{◌≡◌, ℕ, ◌+◌, ◌-◌, ◌*◌, ◌/◌, ◌%◌, ◌<◌, ◌≤◌, List, length, get_or}
use Rattle.std.proofs.Common.{slice_range, arith, sym, ap, ◌∙◌}
use Rattle.std.proofs.lemmas.List.{places, ext_get_or}
use Rattle.bl_mem.proofs.ValueLemmas.{values, length-values, get_or-values, values_range}
use Rattle.bl_stage.specs.Staged.{AreInside, place_of, staged}

-- functions that agree below n have the same first n values
pub same_below : (f g : ℕ → ℕ) (n : ℕ) → ((a : ℕ) → a < n → f a ≡ g a) → values f n ≡ values g n
same_below f g n same = ext_get_or 0 _ _ (length-values f n ∙ sym (length-values g n)) (λ a h.
    let below : a < n = let e = length-values f n in omega arith in
    get_or-values f n a below ∙ same a below ∙ sym (get_or-values g n a below))

-- a file in frames is as long as its size
pub staged_length : (bytes frames : List ℕ) (size : ℕ) → length (staged bytes frames size) ≡ size
staged_length bytes frames size = length-values (λ i. get_or bytes (place_of frames i) 0) size

-- the frames that n bytes from `at` on meet lie side by side
abbrev pub IsStretch : List ℕ → ℕ → ℕ → Type 0
IsStretch frames at n =
    (k : ℕ) → 4096 * k < at % 4096 + n
    → get_or frames (at / 4096 + k) 0 ≡ get_or frames (at / 4096) 0 + k

-- then memory has these bytes in a row
pub stretch_inside : (frames : List ℕ) (size at n : ℕ) → 0 < n → at + n ≤ 4096 * length frames
    → AreInside frames size → IsStretch frames at n
    → 4096 * get_or frames (at / 4096) 0 + at % 4096 + n ≤ size
stretch_inside frames size at n some enough inside side =
    let k = (at % 4096 + n - 1) / 4096 in
    let is = side k (omega arith) in
    let last = inside (at / 4096 + k) (omega arith) in
    omega arith

-- and they are the file's
pub read_staged : (bytes frames : List ℕ) (size at : ℕ) (piece : List ℕ) → at + length piece ≤ size
    → IsStretch frames at (length piece)
    → 4096 * get_or frames (at / 4096) 0 + at % 4096 + length piece ≤ length bytes
    → piece
    ≡ slice_range bytes (4096 * get_or frames (at / 4096) 0 + at % 4096)
    (4096 * get_or frames (at / 4096) 0 + at % 4096 + length piece)
    → piece ≡ slice_range (staged bytes frames size) at (at + length piece)
read_staged bytes frames size at piece inside side fits is =
    values_range (λ i. get_or bytes (place_of frames i) 0) size at piece inside (λ k h.
    let j = (at % 4096 + k) / 4096 in
    let number : (at + k) / 4096 ≡ at / 4096 + j = omega arith in
    let start = 4096 * get_or frames (at / 4096) 0 + at % 4096 in
    let frame = side j (omega arith) in
    let from : 4096 * get_or frames ((at + k) / 4096) 0 + (at + k) % 4096 ≡ start + k =
    rw (number, frame) (omega arith) in
    let read : get_or (slice_range bytes start (start + length piece)) k 0
    ≡ get_or bytes (start + k) 0 = grind (arith, places) in
    ap (λ a. get_or bytes a 0) from ∙ sym (ap (λ t. get_or t k 0) is ∙ read))
