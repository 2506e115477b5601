-- The byte at an address after a frame got other bytes, or was given room.
use Rattle.std.proofs.Common.{◌≡◌, ℕ, ◌+◌, ◌-◌, ◌*◌, ◌/◌, ◌%◌, ◌<◌, ◌≤◌, List, length, get_or, set}
use Rattle.std.proofs.Common.{None, Some, arith, rules, refl, sym, ap, ◌∙◌, inl, inr, true}
use Rattle.std.proofs.Common.{◌∷◌, [], zero, suc, replicate, slice_range, take}
use Rattle.std.proofs.lemmas.Bool.{cases_eq, cases_lt}
use Rattle.std.proofs.lemmas.List.{places, get_or-replicate, get_or-set_same}
use Rattle.std.proofs.lemmas.List.{get_or-set_other}
use Rattle.bl_mem.specs.declared.frame_state.FrameState.{FrameState}
use Rattle.bl_mem.specs.declared.frame_state.FrameState.TheVariants.{Bare, Plain, Kept, Wiped, Lent}
use Rattle.bl_mem.specs.declared.frame_state.FrameState.TheVariants.{Borrowed}
use Rattle.bl_mem.specs.Memory.{overwrite}
use Rattle.bl_mem.specs.FrameState.{has_room, byte_in, cleared, slot_read}
use Rattle.bl_mem.specs.SparseFrames.{SparseFramesFacts, frame_numbered, frame_byte, IsWritten}
use Rattle.bl_mem.specs.SparseFrames.{IsStored}
use Rattle.bl_mem.specs.SparseFrames.{AreLentBytes}
use Rattle.bl_mem.specs.SparseFrames.{AreBytesAt}
use Rattle.bl_mem.specs.internal.FrameSlots.{slot_of, owed_slots, partner, IsKeptIn, IsPutAt}
use Rattle.bl_mem.specs.internal.FrameSlots.{AreTogether}
use Rattle.bl_mem.proofs.Overwrites.{get_or-overwrite_below, get_or-overwrite_above}
use Rattle.bl_mem.proofs.Overwrites.{get_or-overwrite_in}

-- a byte after `at` in the same frame
pub byte_found : (facts : SparseFramesFacts) (at k : ℕ) (frame : FrameState)
    → frame ≡ frame_numbered facts (at / 4096) → at % 4096 + k < 4096
    → frame_byte facts (at + k) ≡ byte_in facts.fill facts.kept frame (at % 4096 + k)
byte_found facts at k frame is h =
    let number : (at + k) / 4096 ≡ at / 4096 = omega arith in
    let place : (at + k) % 4096 ≡ at % 4096 + k = omega arith in
    rw (number, place, is) refl

-- a frame that has room lies in the table
pub in_table : (table : List FrameState) (i : ℕ) → has_room (get_or table i Bare) ≡ true
    → i < length table
in_table [] i h = cc
in_table (x ∷ xs) zero h = omega arith
in_table (x ∷ xs) (suc i) h = let e = in_table xs i h in omega arith

same_slot : (a b : ℕ) → Some a ≡ Some b → a ≡ b
same_slot a b h = cc

-- what a frame reads as whose slot's bytes stay
pub byte_in_same : (fill : ℕ) (kept changed : List ℕ) (frame : FrameState) (place : ℕ)
    → ((s : ℕ) → slot_read frame ≡ Some s
    → get_or changed (4096 * s + place) 0 ≡ get_or kept (4096 * s + place) 0)
    → byte_in fill changed frame place ≡ byte_in fill kept frame place
byte_in_same fill kept changed Bare place same = refl
byte_in_same fill kept changed (Plain value) place same = refl
byte_in_same fill kept changed (Kept slot) place same = same slot refl
byte_in_same fill kept changed (Wiped slot) place same = refl
byte_in_same fill kept changed (Lent slot to) place same = same slot refl
byte_in_same fill kept changed (Borrowed slot from) place same = same slot refl

-- what a frame reads as that reads a slot
pub byte_read : (fill : ℕ) (kept : List ℕ) (frame : FrameState) (s place : ℕ)
    → slot_read frame ≡ Some s
    → byte_in fill kept frame place ≡ get_or kept (4096 * s + place) 0
byte_read fill kept Bare s place h = cc
byte_read fill kept (Plain value) s place h = cc
byte_read fill kept (Kept slot) s place h =
    ap (λ n. get_or kept (4096 * n + place) 0) (same_slot slot s h)
byte_read fill kept (Wiped slot) s place h = cc
byte_read fill kept (Lent slot to) s place h =
    ap (λ n. get_or kept (4096 * n + place) 0) (same_slot slot s h)
byte_read fill kept (Borrowed slot from) s place h =
    ap (λ n. get_or kept (4096 * n + place) 0) (same_slot slot s h)

-- the frame that has a slot has room
pub slot_room : (frame : FrameState) (s : ℕ) → slot_of frame ≡ Some s → has_room frame ≡ true
slot_room Bare s h = cc
slot_room (Plain value) s h = cc
slot_room (Kept slot) s h = refl
slot_room (Wiped slot) s h = refl
slot_room (Lent slot to) s h = refl
slot_room (Borrowed slot from) s h = refl

pub slot_owes : (frame : FrameState) (s : ℕ) → slot_of frame ≡ Some s → owed_slots frame ≡ 0
slot_owes Bare s h = refl
slot_owes (Plain value) s h = cc
slot_owes (Kept slot) s h = refl
slot_owes (Wiped slot) s h = refl
slot_owes (Lent slot to) s h = refl
slot_owes (Borrowed slot from) s h = cc

pub owes_room : (frame : FrameState) → owed_slots frame ≡ 1 → has_room frame ≡ true
owes_room Bare h = absurd (omega (arith, h))
owes_room (Plain value) h = refl
owes_room (Kept slot) h = refl
owes_room (Wiped slot) h = refl
owes_room (Lent slot to) h = refl
owes_room (Borrowed slot from) h = refl

-- room stays if a frame that is set has it
pub set_room : (table : List FrameState) (i : ℕ) (frame : FrameState) (j : ℕ) → i < length table
    → has_room frame ≡ true → has_room (get_or table j Bare) ≡ true
    → has_room (get_or (set table i frame) j Bare) ≡ true
set_room table i frame j within room had =
    elim (cases_eq j i) [
      | inl same ↦ rw (same, get_or-set_same table i frame Bare within) room
      | inr other ↦ rw (get_or-set_other table i j frame Bare other) had
    ]

-- a frame is kept, where the slots of the others stay
pub kept_set : (fill : ℕ) (table : List FrameState) (kept changed : List ℕ) (i slot : ℕ)
    → i < length table
    → ((j s place : ℕ) → (j ≡ i → ⊥) → place < 4096 → slot_read (get_or table j Bare) ≡ Some s
    → get_or changed (4096 * s + place) 0 ≡ get_or kept (4096 * s + place) 0)
    → IsKeptIn (record { fill = fill; table = table; kept = kept })
    (record { fill = fill; table = set table i (Kept slot); kept = changed }) i slot
kept_set fill table kept changed i slot within same = record {
  here = get_or-set_same table i (Kept slot) Bare within;
  beside = λ a other.
      rw (get_or-set_other table i (a / 4096) (Kept slot) Bare other)
      (byte_in_same fill kept changed (get_or table (a / 4096) Bare) (a % 4096)
      (λ s is. same (a / 4096) s (a % 4096) other (omega arith) is));
  room = λ a had. set_room table i (Kept slot) (a / 4096) within refl had;
}

-- the bytes of the other slots stay
pub beside_slot : (kept part : List ℕ) (slot place s k : ℕ) → place + length part ≤ 4096
    → 4096 * slot + 4096 ≤ length kept → (s ≡ slot → ⊥) → k < 4096
    → get_or (overwrite kept (4096 * slot + place) part) (4096 * s + k) 0
    ≡ get_or kept (4096 * s + k) 0
beside_slot kept part slot place s k inside fits not small =
    elim (cases_lt s slot) [
      | inl low ↦
          get_or-overwrite_below kept (4096 * slot + place) part (4096 * s + k) 0 (omega arith)
          (omega arith)
      | inr high ↦ elim (cases_eq s slot) [
        | inl same ↦ absurd (not same)
        | inr other ↦
            let more : slot < s = omega (arith) in
            get_or-overwrite_above kept (4096 * slot + place) part (4096 * s + k) 0 (omega arith)
            (omega arith)
      ]
    ]

-- the bytes of a slot that was put down whole
pub put_whole : (kept part : List ℕ) (slot : ℕ) → length part ≡ 4096
    → 4096 * slot + 4096 ≤ length kept → IsPutAt (overwrite kept (4096 * slot + 0) part) slot part
put_whole kept part slot whole fits k small =
    get_or-overwrite_in kept (4096 * slot + 0) part (4096 * slot + k) 0 (omega arith) (omega arith)
    (omega arith)
    ∙ ap (λ n. get_or part n 0) (omega arith)

-- a frame that is kept whole is stored
pub stored : (old new : SparseFramesFacts) (number slot : ℕ) (part : List ℕ)
    → IsKeptIn old new number slot
    → IsPutAt new.kept slot part → IsStored old new number part
stored old new number slot part is put = record {
  here = λ a at. rw (at, is.here) (put (a % 4096) (omega arith));
  beside = is.beside;
  room = is.room;
}

-- a part of a frame that was kept already is written
pub written : (old new : SparseFramesFacts) (at slot : ℕ) (part : List ℕ)
    → frame_numbered old (at / 4096) ≡ Kept slot → IsKeptIn old new (at / 4096) slot
    → new.kept ≡ overwrite old.kept (4096 * slot + at % 4096) part
    → 4096 * slot + 4096 ≤ length old.kept → at % 4096 + length part ≤ 4096
    → IsWritten old new at part
written old new at slot part was is put fits one =
    let start : ℕ = 4096 * slot + at % 4096 in
    record {
      inside = λ a low high.
          let here : a / 4096 ≡ at / 4096 = omega arith in
          rw (here, is.here, put)
          (get_or-overwrite_in old.kept start part (4096 * slot + a % 4096) 0 (omega arith)
          (omega arith) (omega arith)
          ∙ ap (λ n. get_or part n 0) (omega arith));
      below = λ a low. elim (cases_eq (a / 4096) (at / 4096)) [
        | inl here ↦
            rw (here, is.here, was, put)
            (get_or-overwrite_below old.kept start part (4096 * slot + a % 4096) 0 (omega arith)
            (omega arith))
        | inr other ↦ is.beside a other
      ];
      above = λ a high. elim (cases_eq (a / 4096) (at / 4096)) [
        | inl here ↦
            rw (here, is.here, was, put)
            (get_or-overwrite_above old.kept start part (4096 * slot + a % 4096) 0 (omega arith)
            (omega arith))
        | inr other ↦ is.beside a other
      ];
      room = is.room;
    }

-- a part of a frame is written over what it read as
pub over : (old new : SparseFramesFacts) (at from : ℕ) (part was whole : List ℕ)
    → from ≡ at - at % 4096 → length was ≡ 4096 → AreBytesAt (frame_byte old) from was
    → whole ≡ overwrite was (at % 4096) part → IsStored old new (at / 4096) whole
    → at % 4096 + length part ≤ 4096 → IsWritten old new at part
over old new at from part was whole start len read made is one =
    let other : (a : ℕ) → a / 4096 ≡ at / 4096 → get_or was (a % 4096) 0 ≡ frame_byte old a =
    λ a here.
    sym (read (a % 4096) (omega arith)) ∙ ap (frame_byte old) (omega (arith, start, here)) in
    record {
      inside = λ a low high.
          let here : a / 4096 ≡ at / 4096 = omega arith in
          is.here a here ∙ ap (λ xs. get_or xs (a % 4096) 0) made
          ∙ get_or-overwrite_in was (at % 4096) part (a % 4096) 0 (omega arith) (omega arith)
          (omega arith)
          ∙ ap (λ n. get_or part n 0) (omega arith);
      below = λ a low. elim (cases_eq (a / 4096) (at / 4096)) [
        | inl here ↦
            is.here a here ∙ ap (λ xs. get_or xs (a % 4096) 0) made
            ∙ get_or-overwrite_below was (at % 4096) part (a % 4096) 0 (omega arith) (omega arith)
            ∙ other a here
        | inr third ↦ is.beside a third
      ];
      above = λ a high. elim (cases_eq (a / 4096) (at / 4096)) [
        | inl here ↦
            is.here a here ∙ ap (λ xs. get_or xs (a % 4096) 0) made
            ∙ get_or-overwrite_above was (at % 4096) part (a % 4096) 0 (omega arith) (omega arith)
            ∙ other a here
        | inr third ↦ is.beside a third
      ];
      room = is.room;
    }

pub take_replicate : (n m x : ℕ) → n ≤ m → take n (replicate m x) ≡ replicate n x
take_replicate zero m x h = refl
take_replicate (suc n) zero x h = absurd (omega arith)
take_replicate (suc n) (suc m) x h = ap (λ xs. x ∷ xs) (take_replicate n m x (omega arith))

-- a whole frame is written
pub whole_written : (old new : SparseFramesFacts) (at : ℕ) (part : List ℕ)
    → IsStored old new (at / 4096) part → length part ≡ 4096 → at % 4096 + length part ≤ 4096
    → IsWritten old new at part
whole_written old new at part is whole one = record {
  inside = λ a low high.
      is.here a (omega arith) ∙ ap (λ n. get_or part n 0) (omega arith);
  below = λ a low. is.beside a (omega arith);
  above = λ a high. is.beside a (omega arith);
  room = is.room;
}

pub cleared_byte : (fill : ℕ) (kept : List ℕ) (frame : FrameState) (place : ℕ)
    → has_room frame ≡ true → byte_in fill kept (cleared frame) place ≡ 0
cleared_byte fill kept Bare place h = cc
cleared_byte fill kept (Plain value) place h = refl
cleared_byte fill kept (Kept slot) place h = refl
cleared_byte fill kept (Wiped slot) place h = refl
cleared_byte fill kept (Lent slot to) place h = refl
cleared_byte fill kept (Borrowed slot from) place h = refl

pub cleared_room : (frame : FrameState) → has_room (cleared frame) ≡ has_room frame
cleared_room Bare = refl
cleared_room (Plain value) = refl
cleared_room (Kept slot) = refl
cleared_room (Wiped slot) = refl
cleared_room (Lent slot to) = refl
cleared_room (Borrowed slot from) = refl

pub cleared_owes : (frame : FrameState) → owed_slots (cleared frame) ≡ owed_slots frame
cleared_owes Bare = refl
cleared_owes (Plain value) = refl
cleared_owes (Kept slot) = refl
cleared_owes (Wiped slot) = refl
cleared_owes (Lent slot to) = refl
cleared_owes (Borrowed slot from) = refl

pub cleared_slot : (frame : FrameState) → slot_of (cleared frame) ≡ slot_of frame
cleared_slot Bare = refl
cleared_slot (Plain value) = refl
cleared_slot (Kept slot) = refl
cleared_slot (Wiped slot) = refl
cleared_slot (Lent slot to) = refl
cleared_slot (Borrowed slot from) = refl

pub cleared_alone : (frame : FrameState) → partner (cleared frame) ≡ None
cleared_alone Bare = refl
cleared_alone (Plain value) = refl
cleared_alone (Kept slot) = refl
cleared_alone (Wiped slot) = refl
cleared_alone (Lent slot to) = refl
cleared_alone (Borrowed slot from) = refl

-- a frame is cleared
pub cleared_stored : (fill : ℕ) (table : List FrameState) (kept : List ℕ) (i : ℕ)
    → has_room (get_or table i Bare) ≡ true
    → IsStored (record { fill = fill; table = table; kept = kept })
    (record { fill = fill; table = set table i (cleared (get_or table i Bare)); kept = kept }) i
    (replicate 4096 0)
cleared_stored fill table kept i had =
    let within : i < length table = in_table table i had in
    let now = cleared (get_or table i Bare) in
    record {
      here = λ a at.
          rw (at, get_or-set_same table i now Bare within)
          (cleared_byte fill kept (get_or table i Bare) (a % 4096) had
          ∙ sym (get_or-replicate 4096 (a % 4096) 0 0 (omega arith)));
      beside = λ a other. rw (get_or-set_other table i (a / 4096) now Bare other) refl;
      room = λ a had_room.
          set_room table i now (a / 4096) within (cleared_room _ ∙ had) had_room;
    }

-- bytes of slots that follow one another are lent
pub lent : (facts : SparseFramesFacts) (at slot count start : ℕ)
    → AreTogether facts (at / 4096) slot (at % 4096 + count) → start ≡ 4096 * slot + at % 4096
    → start + count ≤ length facts.kept
    → AreLentBytes facts at count (slice_range facts.kept start (start + count))
lent facts at slot count start are from within =
    let len : length (slice_range facts.kept start (start + count)) ≡ count =
    search (rules, places) in
    record {
      len = len;
      bytes = λ k small.
          let k_small : k < count = omega (arith, len) in
          let n : ℕ = (at % 4096 + k) / 4096 in
          let number : (at + k) / 4096 ≡ at / 4096 + n = omega arith in
          let place : 4096 * (slot + n) + (at + k) % 4096 ≡ start + k = omega arith in
          let read : get_or (slice_range facts.kept start (start + count)) k 0
          ≡ get_or facts.kept (start + k) 0 = grind (arith, places) in
          rw number
          (byte_read facts.fill facts.kept (frame_numbered facts (at / 4096 + n)) (slot + n)
          ((at + k) % 4096) (are n (omega arith))
          ∙ ap (λ m. get_or facts.kept m 0) place ∙ sym read);
    }
