-- What the code's own functions that write into memory ask for, and what they leave: files may lie
-- in that memory.
use Rattle.std.specs.Prelude.{◌≡◌, ℕ, ◌+◌, ◌<◌, ◌≤◌, List, length, slice_range, All, AllPairs}
use Rattle.bl_mem.specs.declared.segment.Segment.{Segment}
use Rattle.bl_mem.specs.FileSet.{nth_file, AreAddressesBelow, IsApartFrom}
use Rattle.bl_mem.specs.Memory.{overwrite, HasRoom, KeepsSizeAndRoom}
use Rattle.bl_load.specs.Handover.{Part, overwrite_parts}
use Rattle.bl_load.specs.Loadable.{IsCopyable, SegmentsAscend}

-- the files lie in memory, and so do the addresses from `at` on, so many of them; each of these has
-- room, and no file lies there
pub record IsVacant {M F : Type 0} (bytes_in : M → List ℕ) (room_in : M → ℕ → Type 0)
    (holds_in : F → ℕ → Type 0) (memory : M) (files : F) (at : ℕ) (count : ℕ) : Type 0 where
  pub held : AreAddressesBelow (holds_in files) (length (bytes_in memory))
  pub inside : at + count ≤ length (bytes_in memory)
  pub room : HasRoom (room_in memory) at (at + count)
  pub beside : IsApartFrom (holds_in files) at (at + count)

-- a file has so many bytes from `offset` on; if none are wanted, `offset` may lie outside of it
pub record IsRangeOfFile (texts : List (List ℕ)) (number offset count : ℕ) : Type 0 where
  pub file : number < length texts
  pub source : 1 ≤ count → offset + count ≤ length (nth_file texts number)

-- likewise of some bytes, at most 4096
pub record IsSmallRangeOfFile (texts : List (List ℕ)) (number offset count : ℕ) : Type 0 where
  pub file : number < length texts
  pub source : offset + count ≤ length (nth_file texts number)
  pub some : 1 ≤ count
  pub few : count ≤ 4096

-- memory has the part from `at` on and is else the same, and each file reads as before
pub record IsPutBesideFiles {M F : Type 0} (lender_in : M → ℕ) (bytes_in : M → List ℕ)
    (room_in : M → ℕ → Type 0) (texts_in : F → List ℕ → List (List ℕ)) (files : F) (old : M)
    (new : M) (at : ℕ) (part : List ℕ) : Type 0 where
  pub after : bytes_in new ≡ overwrite (bytes_in old) at part
  pub texts : texts_in files (bytes_in new) ≡ texts_in files (bytes_in old)
  pub kept : KeepsSizeAndRoom lender_in bytes_in room_in old new

-- memory has the parts, one after the other, and is else the same, and each file reads as before
pub record ArePutBesideFiles {M F : Type 0} (lender_in : M → ℕ) (bytes_in : M → List ℕ)
    (room_in : M → ℕ → Type 0) (texts_in : F → List ℕ → List (List ℕ)) (files : F) (old : M)
    (new : M) (parts : List Part) : Type 0 where
  pub after : bytes_in new ≡ overwrite_parts parts (bytes_in old)
  pub texts : texts_in files (bytes_in new) ≡ texts_in files (bytes_in old)
  pub kept : KeepsSizeAndRoom lender_in bytes_in room_in old new

-- memory has so many bytes of a file, those from `offset` on, from `at` on, and is else the same,
-- and each file reads as before
abbrev pub IsCopiedBesideFiles : {M F : Type 0} → (lender_in : M → ℕ) → (bytes_in : M → List ℕ)
    → (room_in : M → ℕ → Type 0) → (texts_in : F → List ℕ → List (List ℕ)) → (files : F)
    → (old new : M) → (at number offset count : ℕ) → Type 0
IsCopiedBesideFiles lender_in bytes_in room_in texts_in files old new at number offset count =
    IsPutBesideFiles lender_in bytes_in room_in texts_in files old new at
    (slice_range (nth_file (texts_in files (bytes_in old)) number) offset (offset + count))

-- a file has the bytes of a block of these segments
pub record IsBlockOfFile (texts : List (List ℕ)) (number : ℕ) (segments : List Segment)
    : Type 0 where
  pub file : number < length texts
  pub some : 1 ≤ length segments
  pub copied : All (IsCopyable (length (nth_file texts number))) segments
  pub ascending : AllPairs SegmentsAscend segments
