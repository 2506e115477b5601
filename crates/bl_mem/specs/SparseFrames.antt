-- What memory reads as, of which only some frames of 4096 bytes are kept. Own.
use Rattle.std.specs.Prelude.{◌≡◌, ℕ, ◌+◌, ◌-◌, ◌*◌, ◌/◌, ◌%◌, ◌<◌, ◌≤◌, true, List, length}
use Rattle.std.specs.Prelude.{slice_index_or}
use Rattle.bl_mem.specs.declared.frame_state.FrameState.{FrameState}
use Rattle.bl_mem.specs.declared.frame_state.FrameState.TheVariants.{Bare}
use Rattle.bl_mem.specs.Memory.{KeepsRoom}
use Rattle.bl_mem.specs.FrameState.{has_room, byte_in}

-- the byte of a frame without room, the frames by number, and the slots, of 4096 bytes each
pub record SparseFramesFacts : Type 0 where
  pub fill : ℕ
  pub table : List FrameState
  pub kept : List ℕ

abbrev pub frame_numbered : SparseFramesFacts → ℕ → FrameState
frame_numbered facts number = slice_index_or facts.table number Bare

-- the byte at an address: frame a div 4096, place a mod 4096
abbrev pub frame_byte : SparseFramesFacts → ℕ → ℕ
frame_byte facts a = byte_in facts.fill facts.kept (frame_numbered facts (a / 4096)) (a % 4096)

-- the address's frame has room
abbrev pub HasRoomAt : SparseFramesFacts → ℕ → Type 0
HasRoomAt facts a = has_room (frame_numbered facts (a / 4096)) ≡ true

-- the frames from `first` on have room, up to `end`
abbrev pub FramesHaveRoom : SparseFramesFacts → ℕ → ℕ → Type 0
FramesHaveRoom facts first end =
    (number : ℕ) → first ≤ number → number < end → has_room (frame_numbered facts number) ≡ true

-- all bytes are as they were
abbrev pub SameBytes : SparseFramesFacts → SparseFramesFacts → Type 0
SameBytes old new = (a : ℕ) → frame_byte new a ≡ frame_byte old a

-- the bytes of a part are those from `at` on
abbrev pub AreBytesAt : (ℕ → ℕ) → ℕ → List ℕ → Type 0
AreBytesAt byte at part = (k : ℕ) → k < length part → byte (at + k) ≡ slice_index_or part k 0

-- likewise, of a part that is lent
pub record AreLentBytes (facts : SparseFramesFacts) (at : ℕ) (count : ℕ)
    (part : List ℕ) : Type 0 where
  pub len : length part ≡ count
  pub bytes : AreBytesAt (frame_byte facts) at part

-- a part was written from `at` on, and nothing else changed
pub record IsWritten (old : SparseFramesFacts) (new : SparseFramesFacts) (at : ℕ)
    (part : List ℕ) : Type 0 where
  pub inside : (a : ℕ) → at ≤ a → a < at + length part
      → frame_byte new a ≡ slice_index_or part (a - at) 0
  pub below : (a : ℕ) → a < at → frame_byte new a ≡ frame_byte old a
  pub above : (a : ℕ) → at + length part ≤ a → frame_byte new a ≡ frame_byte old a
  pub room : KeepsRoom (HasRoomAt old) (HasRoomAt new)

-- a frame's bytes are those of another frame, and nothing else changed
pub record IsShared (old : SparseFramesFacts) (new : SparseFramesFacts) (from : ℕ) (to : ℕ)
    : Type 0 where
  pub here : (place : ℕ) → place < 4096
      → frame_byte new (4096 * to + place) ≡ frame_byte old (4096 * from + place)
  pub beside : (a : ℕ) → ¬ (a / 4096 ≡ to) → frame_byte new a ≡ frame_byte old a
  pub room : KeepsRoom (HasRoomAt old) (HasRoomAt new)

-- a frame's bytes are a part's, and nothing else changed
pub record IsStored (old : SparseFramesFacts) (new : SparseFramesFacts) (number : ℕ) (part : List ℕ)
    : Type 0 where
  pub here : (a : ℕ) → a / 4096 ≡ number → frame_byte new a ≡ slice_index_or part (a % 4096) 0
  pub beside : (a : ℕ) → ¬ (a / 4096 ≡ number) → frame_byte new a ≡ frame_byte old a
  pub room : KeepsRoom (HasRoomAt old) (HasRoomAt new)
