-- A list that is given by a function: its elements, a range of it, and what is written over it.
use Rattle.std.proofs.Common.{◌≡◌, ℕ, ◌+◌, ◌-◌, ◌<◌, ◌≤◌, List, length, get_or, map, replicate}
use Rattle.std.proofs.Common.{slice_range, arith, rules, sym, ◌∙◌, inl, inr}
use Rattle.std.specs.List.{range_with_len}
use Rattle.std.proofs.lemmas.Bool.{cases_lt}
use Rattle.std.proofs.lemmas.List.{places, ext_get_or, get_or-replicate, length-replicate}
use Rattle.std.proofs.lemmas.List.FromFn.{length-map-range_with_len, get_or-map-range_with_len}
use Rattle.bl_mem.specs.Memory.{overwrite}
use Rattle.bl_mem.specs.SparseFrames.{SparseFramesFacts, frame_byte}
use Rattle.bl_mem.specs.Sparse.{bytes_of}
use Rattle.bl_mem.proofs.Overwrites.{length-overwrite, get_or-overwrite_in, get_or-overwrite_below}
use Rattle.bl_mem.proofs.Overwrites.{get_or-overwrite_above}

-- a function's first values
abbrev pub values : (ℕ → ℕ) → ℕ → List ℕ
values f n = map f (range_with_len 0 n)

pub length-values : (f : ℕ → ℕ) (n : ℕ) → length (values f n) ≡ n
length-values f n = length-map-range_with_len f 0 n

pub get_or-values : (f : ℕ → ℕ) (n a : ℕ) → a < n → get_or (values f n) a 0 ≡ f a
get_or-values f n a h = get_or-map-range_with_len f 0 n a a 0 h (omega arith)

-- memory is as long as its size
pub bytes_of_length : (frames : SparseFramesFacts) (size : ℕ) → length (bytes_of frames size) ≡ size
bytes_of_length frames size = length-values (frame_byte frames) size

-- functions that agree have the same values
pub same_values : (f g : ℕ → ℕ) (n : ℕ) → ((a : ℕ) → f a ≡ g a) → values f n ≡ values g n
same_values f g n same = ext_get_or 0 _ _ (length-values f n ∙ sym (length-values g n)) (λ a h.
    let below : a < n = let e = length-values f n in omega arith in
    get_or-values f n a below ∙ same a ∙ sym (get_or-values g n a below))

-- a constant's values
pub constant_values : (f : ℕ → ℕ) (n x : ℕ) → ((a : ℕ) → f a ≡ x) → values f n ≡ replicate n x
constant_values f n x same =
    ext_get_or 0 _ _ (length-values f n ∙ sym (length-replicate n x)) (λ a h.
    let below : a < n = let e = length-values f n in omega arith in
    get_or-values f n a below ∙ same a ∙ sym (get_or-replicate n a x 0 below))

-- some values in a row
pub values_range : (f : ℕ → ℕ) (n at : ℕ) (part : List ℕ) → at + length part ≤ n
    → ((k : ℕ) → k < length part → f (at + k) ≡ get_or part k 0)
    → part ≡ slice_range (values f n) at (at + length part)
values_range f n at part h same =
    let size = length-values f n in
    let len : length part ≡ length (slice_range (values f n) at (at + length part)) =
    sym (search (rules, places)) in
    ext_get_or 0 part _ len (λ k within.
    let read : get_or (slice_range (values f n) at (at + length part)) k 0
    ≡ get_or (values f n) (at + k) 0 = grind (arith, places) in
    sym (same k within) ∙ sym (get_or-values f n (at + k) (omega arith)) ∙ sym read)

-- values of which those of one range changed
pub values_overwritten : (f g : ℕ → ℕ) (n at : ℕ) (part : List ℕ) → at + length part ≤ n
    → ((a : ℕ) → at ≤ a → a < at + length part → g a ≡ get_or part (a - at) 0)
    → ((a : ℕ) → a < at → g a ≡ f a)
    → ((a : ℕ) → at + length part ≤ a → g a ≡ f a)
    → values g n ≡ overwrite (values f n) at part
values_overwritten f g n at part h inside below above =
    let size = length-values f n in
    let fits : at + length part ≤ length (values f n) = omega arith in
    ext_get_or 0 _ _ (length-values g n ∙ sym (length-overwrite (values f n) at part fits ∙ size))
    (λ a within.
    let small : a < n = let e = length-values g n in omega arith in
    get_or-values g n a small ∙ elim (cases_lt a at) [
      | inl low ↦
          below a low
          ∙ sym
          (get_or-overwrite_below (values f n) at part a 0 low fits
          ∙ get_or-values f n a small)
      | inr from ↦ elim (cases_lt a (at + length part)) [
        | inl high ↦
            inside a from high ∙ sym (get_or-overwrite_in (values f n) at part a 0 from high fits)
        | inr past ↦
            above a past
            ∙ sym
            (get_or-overwrite_above (values f n) at part a 0 past fits
            ∙ get_or-values f n a small)
      ]
    ])
