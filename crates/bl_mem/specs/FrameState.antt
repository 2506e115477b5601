-- What a frame of memory reads as, and where it is kept. Own.
use Rattle.std.specs.Prelude.{ℕ, ◌+◌, ◌*◌, Bool, true, false, List, Option, Some, None}
use Rattle.std.specs.Prelude.{slice_index_or}
use Rattle.bl_mem.specs.declared.frame_state.FrameState.{FrameState}
use Rattle.bl_mem.specs.declared.frame_state.FrameState.TheVariants.{Bare, Plain, Kept, Wiped, Lent}
use Rattle.bl_mem.specs.declared.frame_state.FrameState.TheVariants.{Borrowed}

abbrev pub has_room : FrameState → Bool
has_room Bare = false
has_room (Plain value) = true
has_room (Kept slot) = true
has_room (Wiped slot) = true
has_room (Lent slot to) = true
has_room (Borrowed slot from) = true

-- the slot that a frame reads
abbrev pub slot_read : FrameState → Option ℕ
slot_read Bare = None
slot_read (Plain value) = None
slot_read (Kept slot) = Some slot
slot_read (Wiped slot) = None
slot_read (Lent slot to) = Some slot
slot_read (Borrowed slot from) = Some slot

-- the byte at a place of a frame: `fill` if it has no room, its one value if it is plain, 0 if it
-- was cleared, and else that of the slot that it reads
abbrev pub byte_in : ℕ → List ℕ → FrameState → ℕ → ℕ
byte_in fill kept Bare place = fill
byte_in fill kept (Plain value) place = value
byte_in fill kept (Kept slot) place = slice_index_or kept (4096 * slot + place) 0
byte_in fill kept (Wiped slot) place = 0
byte_in fill kept (Lent slot to) place = slice_index_or kept (4096 * slot + place) 0
byte_in fill kept (Borrowed slot from) place = slice_index_or kept (4096 * slot + place) 0

-- a frame after it was cleared
abbrev pub cleared : FrameState → FrameState
cleared Bare = Bare
cleared (Plain value) = Plain 0
cleared (Kept slot) = Wiped slot
cleared (Wiped slot) = Wiped slot
cleared (Lent slot to) = Wiped slot
cleared (Borrowed slot from) = Plain 0
