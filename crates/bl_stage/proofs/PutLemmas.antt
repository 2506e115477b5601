-- What a piece that is put into its frame leaves of memory, and of the tables.
use Rattle.std.proofs.Common.{◌≡◌, ℕ, ◌+◌, ◌-◌, ◌<◌, ◌≤◌, List, length, get_or, set, Bool, true}
use Rattle.std.proofs.Common.{false, not, cond, arith, refl, sym, inl, inr, ◌∙◌}
use Rattle.std.specs.List.{count_by}
use Rattle.std.specs.declared.ops.Range.{Range}
use Rattle.std.proofs.lemmas.List.{length-set, get_or_default}
use Rattle.std.proofs.lemmas.List.Sums.{sum_by-set}
use Rattle.bl_mem.specs.Memory.{overwrite}
use Rattle.bl_mem.proofs.Overwrites.{get_or-overwrite_below, get_or-overwrite_above}
use Rattle.bl_stage.specs.declared.cell.Cell.{Cell}
use Rattle.bl_stage.specs.declared.stage.putting.Put.TheVariants.{Stored, Repeated, Strange}
use Rattle.bl_stage.specs.internal.StageTables.{KeepsTables}
use Rattle.bl_stage.specs.Ranges.{IsSameOutside}
use Rattle.bl_stage.specs.Staged.{HasPool}

-- a piece of a frame in the pool lies in memory
pub piece_inside : (start end at n size : ℕ) → start ≤ at → at + 4096 ≤ end → n ≤ 4096
    → (start < end → end ≤ size) → at + n ≤ size
piece_inside start end at n size low high short inside =
    let all : end ≤ size = inside (omega arith) in omega arith

-- what a write into the pool leaves outside it
pub write_outside : (bytes piece : List ℕ) (pool : Range ℕ) (at : ℕ) → pool.start ≤ at
    → at + 4096 ≤ pool.end → length piece ≤ 4096 → HasPool bytes pool
    → IsSameOutside pool bytes (overwrite bytes at piece)
write_outside bytes piece pool at low high short inside a h =
    let within =
    piece_inside pool.start pool.end at (length piece) (length bytes) low high short inside in
    elim h [
      | inl before ↦ get_or-overwrite_below bytes at piece a 0 (omega arith) within
      | inr behind ↦ get_or-overwrite_above bytes at piece a 0 (omega arith) within
    ]

-- one piece less is waited for
pub waits_less : (came : List Bool) (slot : ℕ) → slot < length came → get_or came slot false ≡ false
    → count_by not (set came slot true) + 1 ≡ count_by not came
waits_less came slot h is =
    let step = sum_by-set (λ c. cond {A = ℕ} (not c) 1 0) came slot true false h in
    let one : cond {A = ℕ} (not (get_or came slot false)) 1 0 ≡ 1 = rw is refl in
    omega (arith, step, one)

-- the tables as a piece comes
pub kept_put : {base : ℕ} {pool : Range ℕ} {sizes starts frames : List ℕ} {came : List Bool}
    {cells : List Cell} {waiting : ℕ} (slot : ℕ)
    → KeepsTables base pool sizes starts frames came cells waiting → slot < length frames
    → get_or came slot false ≡ false
    → KeepsTables base pool sizes starts frames (set came slot true) cells (waiting - 1)
kept_put {came = came} slot kept inside waits = record {
  held = kept.held;
  all = kept.all;
  flags = length-set came slot true ∙ kept.flags;
  files = kept.files;
  each = kept.each;
  waits =
      let less = waits_less came slot (let flags = kept.flags in omega arith) waits in
      let all = kept.waits in omega arith;
  start = kept.start;
  end = kept.end;
  small = kept.small;
}

-- a piece that did not come is waited for
pub some_waits : {base : ℕ} {pool : Range ℕ} {sizes starts frames : List ℕ} {came : List Bool}
    {cells : List Cell} {waiting : ℕ} (slot : ℕ)
    → KeepsTables base pool sizes starts frames came cells waiting → slot < length frames
    → get_or came slot false ≡ false → 1 ≤ waiting
some_waits {came = came} slot kept inside waits =
    let less = waits_less came slot (let flags = kept.flags in omega arith) waits in
    let all = kept.waits in omega arith

-- what a piece is answered that came
pub answer_repeated : (is_piece : Bool) (came : List Bool) (slot : ℕ) → slot < length came
    → is_piece ≡ true → true ≡ get_or came slot true
    → Repeated ≡ cond is_piece (cond (get_or came slot false) Repeated Stored) Strange
answer_repeated is_piece came slot inside is there =
    let came_is : get_or came slot false ≡ true =
    get_or_default came slot false true inside ∙ sym there in
    rw (is, came_is) refl
