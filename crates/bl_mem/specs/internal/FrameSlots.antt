-- What only the code of frames keeps: whose each slot is, and that there is room for more. Own.
use Rattle.std.specs.Prelude.{◌≡◌, ◌⊎◌, ℕ, ◌+◌, ◌-◌, ◌*◌, ◌/◌, ◌%◌, ◌^◌, ◌<◌, ◌≤◌, true, List}
use Rattle.std.specs.Prelude.{length, Option, Some, None, slice_index_or}
use Rattle.std.specs.List.{sum_by}
use Rattle.bl_mem.specs.declared.frame_state.FrameState.{FrameState}
use Rattle.bl_mem.specs.declared.frame_state.FrameState.TheVariants.{Bare, Plain, Kept, Wiped, Lent}
use Rattle.bl_mem.specs.declared.frame_state.FrameState.TheVariants.{Borrowed}
use Rattle.bl_mem.specs.Memory.{KeepsRoom}
use Rattle.bl_mem.specs.FrameState.{has_room, byte_in, slot_read}
use Rattle.bl_mem.specs.SparseFrames.{SparseFramesFacts, frame_numbered, frame_byte, HasRoomAt}

-- the slot that is a frame's own
abbrev pub slot_of : FrameState → Option ℕ
slot_of Bare = None
slot_of (Plain value) = None
slot_of (Kept slot) = Some slot
slot_of (Wiped slot) = Some slot
slot_of (Lent slot to) = Some slot
slot_of (Borrowed slot from) = None

-- 1 if a frame has room and no slot of its own
abbrev pub owed_slots : FrameState → ℕ
owed_slots Bare = 0
owed_slots (Plain value) = 1
owed_slots (Kept slot) = 0
owed_slots (Wiped slot) = 0
owed_slots (Lent slot to) = 0
owed_slots (Borrowed slot from) = 1

-- the frame with which a frame shares a slot
abbrev pub partner : FrameState → Option ℕ
partner Bare = None
partner (Plain value) = None
partner (Kept slot) = None
partner (Wiped slot) = None
partner (Lent slot to) = Some to
partner (Borrowed slot from) = Some from

-- a frame has room, and shares no slot
pub record HasRoomAlone (frame : FrameState) : Type 0 where
  pub held : has_room frame ≡ true
  pub alone : partner frame ≡ None

-- a frame has this slot, and shares it with none
pub record HasSlotAlone (frame : FrameState) (slot : ℕ) : Type 0 where
  pub own : slot_of frame ≡ Some slot
  pub alone : partner frame ≡ None

-- a frame has room and no slot of its own, shares none, and this is a whole frame's part
pub record CanAppend (frame : FrameState) (part : List ℕ) : Type 0 where
  pub plain : owed_slots frame ≡ 1
  pub alone : partner frame ≡ None
  pub whole : length part ≡ 4096

-- so many bytes from `at` on lie in one frame, and that has room
pub record CanWriteAt (facts : SparseFramesFacts) (at : ℕ) (count : ℕ) : Type 0 where
  pub one : at % 4096 + count ≤ 4096
  pub held : HasRoomAt facts at

-- the bytes of as many frames as a slot's number can tell apart, which are 2^32
abbrev pub max_kept : ℕ
max_kept = 4096 * 2 ^ 32

-- who lends lends to one that borrows from it, and the other way round
pub record ArePaired (table : List FrameState) : Type 0 where
  pub lends : (i j s : ℕ) → slice_index_or table i Bare ≡ Lent s j
      → slice_index_or table j Bare ≡ Borrowed s i
  pub borrows : (i j s : ℕ) → slice_index_or table i Bare ≡ Borrowed s j
      → slice_index_or table j Bare ≡ Lent s i

-- each frame's slot is one of those kept, and its own alone; each frame that has room and no slot
-- of its own is counted, and there is room for so many
pub record AreSoundSlots (table : List FrameState) (len : ℕ) (owed : ℕ) (capacity : ℕ)
    : Type 0 where
  pub whole : len % 4096 ≡ 0
  pub counted : owed ≡ sum_by owed_slots table
  pub room : len + 4096 * owed ≤ capacity
  pub few : len + 4096 * owed ≤ max_kept
  pub inside : (i s : ℕ) → slot_of (slice_index_or table i Bare) ≡ Some s → 4096 * s + 4096 ≤ len
  pub own : (i j s : ℕ) → slot_of (slice_index_or table i Bare) ≡ Some s
      → slot_of (slice_index_or table j Bare) ≡ Some s → i ≡ j
  pub paired : ArePaired table

-- a frame is kept in a slot, and the bytes of all other frames stay
pub record IsKeptIn (old : SparseFramesFacts) (new : SparseFramesFacts) (number : ℕ)
    (slot : ℕ) : Type 0 where
  pub here : frame_numbered new number ≡ Kept slot
  pub beside : (a : ℕ) → ¬ (a / 4096 ≡ number) → frame_byte new a ≡ frame_byte old a
  pub room : KeepsRoom (HasRoomAt old) (HasRoomAt new)

-- these two frames share a slot
abbrev pub ArePair : SparseFramesFacts → ℕ → ℕ → ℕ → Type 0
ArePair facts i j slot =
    ((frame_numbered facts i ≡ Lent slot j) × (frame_numbered facts j ≡ Borrowed slot i))
    ⊎ ((frame_numbered facts i ≡ Borrowed slot j) × (frame_numbered facts j ≡ Lent slot i))

-- a frame shares no slot, the bytes of all other frames stay, and it has room if it had
pub record IsUnshared (old : SparseFramesFacts) (new : SparseFramesFacts) (number : ℕ)
    : Type 0 where
  pub alone : partner (frame_numbered new number) ≡ None
  pub beside : (a : ℕ) → ¬ (a / 4096 ≡ number) → frame_byte new a ≡ frame_byte old a
  pub room : KeepsRoom (HasRoomAt old) (HasRoomAt new)

-- a slot has the bytes of a part
abbrev pub IsPutAt : List ℕ → ℕ → List ℕ → Type 0
IsPutAt kept slot part =
    (k : ℕ) → k < 4096 → slice_index_or kept (4096 * slot + k) 0 ≡ slice_index_or part k 0

-- the slots of frames follow one another, for `count` bytes
abbrev pub AreTogether : SparseFramesFacts → ℕ → ℕ → ℕ → Type 0
AreTogether facts number slot count =
    (k : ℕ) → 4096 * k < count → slot_read (frame_numbered facts (number + k)) ≡ Some (slot + k)

-- frames have room, and those that had none are counted; each reads as before
pub record AreGivenRoom (old : List FrameState) (new : List FrameState) (first : ℕ) (end : ℕ)
    (fill : ℕ) (opened : ℕ) : Type 0 where
  pub size : length new ≡ length old
  pub counted : sum_by owed_slots new ≡ sum_by owed_slots old + opened
  pub most : opened ≤ end - first
  pub made : (i : ℕ) → first ≤ i → i < end → has_room (slice_index_or new i Bare) ≡ true
  pub room : (i : ℕ) → has_room (slice_index_or old i Bare) ≡ true
      → has_room (slice_index_or new i Bare) ≡ true
  pub slots : (i s : ℕ) → slot_of (slice_index_or new i Bare) ≡ Some s
      → slot_of (slice_index_or old i Bare) ≡ Some s
  pub partners : (i j : ℕ) → partner (slice_index_or new i Bare) ≡ Some j
      → slice_index_or new i Bare ≡ slice_index_or old i Bare
  pub stays : (i j : ℕ) → partner (slice_index_or old i Bare) ≡ Some j
      → slice_index_or new i Bare ≡ slice_index_or old i Bare
  pub bytes : (kept : List ℕ) (i place : ℕ)
      → byte_in fill kept (slice_index_or new i Bare) place
      ≡ byte_in fill kept (slice_index_or old i Bare) place
