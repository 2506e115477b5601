-- What has come of a file, and what its stage reads as after a piece of it or a move of its frames.
use Rattle.std.proofs.Common.{◌≡◌, ◌≢◌, ℕ, suc, ◌+◌, ◌-◌, ◌*◌, ◌/◌, ◌%◌, ◌<◌, ◌≤◌, List, [], ◌∷◌}
use Rattle.std.proofs.Common.{length, get_or, slice_range, min, Bool, true, false, not, cond}
use Rattle.std.proofs.Common.{Some, None, arith, refl, sym, ap, ◌∙◌, inl, inr, ◌==◌}
use Rattle.std.specs.List.{count_by, All}
use Rattle.std.proofs.lemmas.Bool.{cases_lt}
use Rattle.std.specs.Bool.{IsTrue}
use Rattle.std.proofs.lemmas.Bool.Decides.{nat_tests}
use Rattle.std.proofs.lemmas.List.Sums.{get_or-le-sum_by, sum_by-cons}
use Rattle.bl_mem.specs.Memory.{overwrite}
use Rattle.bl_map.specs.PoolFrames.{frames_of}
use Rattle.bl_stage.specs.internal.Cells.{cell_at, ReadAlike}
use Rattle.bl_stage.specs.Staged.{AreInside, place_of, staged, frames_before, Staging, AreStaged}
use Rattle.bl_stage.specs.Staged.{staged_file, HasPool, with_frames}
use Rattle.bl_stage.specs.Pieces.{is_piece, slot_in}
use Rattle.std.specs.declared.ops.Range.{Range}
use Rattle.bl_stage.specs.declared.cell.Cell.{Cell}
use Rattle.bl_stage.specs.internal.StageTables.{KeepsTables}
use Rattle.bl_stage.proofs.FrameLemmas.{same_below}
use Rattle.bl_stage.proofs.FileLemmas.{file_within, file_before, read_part, file_kept, file_put}

-- all came where none is waited for
pub all_came : (came : List Bool) → count_by not came ≡ 0 → All (λ c. c ≡ true) came
all_came came none k d h =
    let le = get_or-le-sum_by (λ c. cond {A = ℕ} (not c) 1 0) came k d h in
    is_true (get_or came k d) (omega (arith, le))
  where
    is_true : (b : Bool) → cond {A = ℕ} (not b) 1 0 ≤ 0 → b ≡ true
    is_true true h = refl
    is_true false h = absurd (omega arith)

pub none_waits : (came : List Bool) → All (λ c. c ≡ true) came → count_by not came ≡ 0
none_waits [] all = refl
none_waits (c ∷ came) all =
    let first : c ≡ true = all 0 true (omega arith) in
    let one : cond {A = ℕ} (not c) 1 0 ≡ 0 = rw first refl in
    omega (
      arith,
      one,
      sum_by-cons (λ x. cond {A = ℕ} (not x) 1 0) c came,
      none_waits came (λ k d h. all (suc k) d (omega arith)),
    )

pub complete_iff : (waiting : ℕ) (came : List Bool) → waiting ≡ count_by not came
    → (IsTrue (waiting == 0) → All (λ c. c ≡ true) came)
    × (All (λ c. c ≡ true) came → IsTrue (waiting == 0))
complete_iff waiting came is = (
  (λ h. let zero : waiting ≡ 0 = grind (arith, nat_tests) in all_came came (sym is ∙ zero)),
  (λ all. let zero : waiting ≡ 0 = is ∙ none_waits came all in grind (arith, nat_tests)),
)

-- what it means to be a piece
pub record IsPiece (stage : Staging) (file index len : ℕ) : Type 0 where
  pub named : file < length stage.sizes
  pub within : index < frames_of (get_or stage.sizes file 0)
  pub short : len ≤ 4096
  pub inside : 4096 * index + len ≤ get_or stage.sizes file 0

pub piece_is : (stage : Staging) (file index len : ℕ) → is_piece stage file index len ≡ true
    → IsPiece stage file index len
piece_is stage file index len h = record {
  named = grind (arith, nat_tests);
  within = grind (arith, nat_tests);
  short =
      let e : len ≡ min (get_or stage.sizes file 0 - 4096 * index) 4096 =
      grind (arith, nat_tests) in omega arith;
  inside =
      let e : len ≡ min (get_or stage.sizes file 0 - 4096 * index) 4096 =
      grind (arith, nat_tests) in
      let w : index < frames_of (get_or stage.sizes file 0) =
      grind (arith, nat_tests) in omega arith;
}

module _ (stage : Staging) (staged_ : AreStaged stage) (bytes piece : List ℕ) (file index : ℕ)
    (is : IsPiece stage file index (length piece)) (pool : HasPool bytes stage.pool) where
  slot_within : slot_in stage file index < length stage.frames
  slot_within =
      let w = file_within stage.sizes file is.named in
      let i = is.within in let a = staged_.all in omega arith

  frames_inside : AreInside stage.frames (length bytes)
  frames_inside k h =
      let low = staged_.low k h in
      let high = staged_.high k h in let end = pool (omega arith) in omega arith

  -- the file to which the piece belongs has it
  pub piece_in_file : staged_file
      (overwrite bytes (4096 * get_or stage.frames (slot_in stage file index) 0) piece) stage file
      ≡ overwrite (staged_file bytes stage file) (4096 * index) piece
  piece_in_file =
      let size = get_or stage.sizes file 0 in
      let w = file_within stage.sizes file is.named in
      let a = staged_.all in
      file_put bytes stage.frames piece (slot_in stage file index) staged_.apart slot_within
      frames_inside is.short (frames_before stage.sizes file) (frames_of size) size index
      (omega arith) (omega arith) refl is.within is.inside

  -- and the others are as before
  pub piece_in_others : (other : ℕ) → other < length stage.sizes → other ≢ file
      → staged_file
      (overwrite bytes (4096 * get_or stage.frames (slot_in stage file index) 0) piece)
      stage other ≡ staged_file bytes stage other
  piece_in_others other h differ =
      let size = get_or stage.sizes other 0 in
      let w = file_within stage.sizes other h in
      let a = staged_.all in
      let i = is.within in
      file_kept bytes stage.frames piece (slot_in stage file index) staged_.apart slot_within
      frames_inside is.short (frames_before stage.sizes other) (frames_of size) size (omega arith)
      (omega arith)
      (elim (cases_lt file other) [
        | inl before ↦ let b = file_before stage.sizes file other before h in inl (omega arith)
        | inr not_before ↦
            let b = file_before stage.sizes other file (omega arith) is.named in inr (omega arith)
      ])

-- the tables that a stage keeps give each file frames of its own
pub kept_staged : (base : ℕ) (pool : Range ℕ) (sizes starts frames : List ℕ) (came : List Bool)
    (cells : List Cell) (waiting : ℕ) → KeepsTables base pool sizes starts frames came cells waiting
    → AreStaged (record { pool = pool; sizes = sizes; frames = frames; came = came })
kept_staged base pool sizes starts frames came cells waiting kept = record {
  all = kept.all;
  flags = kept.flags;
  low = λ k h. let low = kept.held.low k h in let start = kept.start in omega arith;
  high = λ k h. let high = kept.held.high k h in let end = kept.end in omega arith;
  apart =
      λ j k hj hk same. let e : Some j ≡ Some k =
      sym (kept.held.each j hj) ∙ ap (λ f. (cell_at cells (f - base)).holder) same
      ∙ kept.held.each k hk in cc;
}

-- a place that was found is that of a piece
pub found_piece : (test : Bool) (n slot : ℕ) → Some slot ≡ cond test (Some n) None
    → (test ≡ true) × (slot ≡ n)
found_piece true n slot e = (refl, cc)
found_piece false n slot e = cc

-- a file reads as before if each frame does
file_moved : (old new old_frames frames : List ℕ) (a n size : ℕ)
    → ReadAlike old old_frames new frames
    → length frames ≡ length old_frames → a + n ≤ length old_frames → size ≤ 4096 * n
    → staged new (slice_range frames a (a + n)) size
    ≡ staged old (slice_range old_frames a (a + n)) size
file_moved old new old_frames frames a n size same long within enough =
    same_below (λ i. get_or new (place_of (slice_range frames a (a + n)) i) 0)
    (λ i. get_or old (place_of (slice_range old_frames a (a + n)) i) 0) size (λ i h.
    rw (
      read_part frames a n (i / 4096) (omega arith) (omega arith),
      read_part old_frames a n (i / 4096) (omega arith) within,
    )
    (same (a + i / 4096) (i % 4096) (omega arith) (omega arith)))

pub file_evacuated : (old new : List ℕ) (stage : Staging) (frames : List ℕ) (file : ℕ)
    → AreStaged stage → ReadAlike old stage.frames new frames → length frames ≡ length stage.frames
    → file < length stage.sizes
    → staged_file new (with_frames stage frames) file ≡ staged_file old stage file
file_evacuated old new stage frames file kept same long h =
    let size = get_or stage.sizes file 0 in
    let w = file_within stage.sizes file h in
    let a = kept.all in
    file_moved old new stage.frames frames (frames_before stage.sizes file) (frames_of size) size same
    long (omega arith) (omega arith)
