-- Places and their records, as the writer puts them and the reader checks them. Own.
use Rattle.std.specs.Prelude.{◌≡◌, ℕ, ◌+◌, ◌<◌, ◌≤◌, ◌^◌, Bool, List, [], ◌∷◌, ◌++◌, length}
use Rattle.std.specs.Prelude.{All, AllPairs, slice_range}
use Rattle.std.specs.List.{flat_map}
use Rattle.bl_plan.specs.declared.part.Place.{Place}
use Rattle.bl_plan.specs.declared.protocol.Protocol.{Protocol}
use Rattle.bl_load.specs.HandoffFacts.{Ascends, IsWellFormedHandoff, IsRoleAllowed}
use Rattle.bl_load.specs.declared.registers.Registers.{Registers}
use Rattle.bl_image.specs.Image.{head, record_of}
use Rattle.bl_image.specs.ImageFaults.{records_fault, parts_behind, end_fault, no_records}
use Rattle.bl_image.specs.Layouts.{max_role}
use Rattle.bl_image.specs.Spellable.{AreFit}
use Rattle.bl_image.specs.Versions.{written_version}

-- the record of a place
abbrev pub place_record : Place → List ℕ
place_record place = record_of place.role place.index place.address place.length

-- what an image has before the bytes of its parts: the head, and the record of each place
abbrev pub image_front : Protocol → Registers → List Place → List ℕ
image_front protocol registers places =
    head written_version protocol registers (length places) ++ flat_map place_record places

-- these may be what a handoff has
abbrev pub AreOfHandoff : Protocol → Registers → List Place → Type 0
AreOfHandoff protocol registers places =
    IsWellFormedHandoff
    (record { protocol = protocol; registers = registers; places = places })

-- the bytes at a place in memory
abbrev pub place_bytes : List ℕ → Place → List ℕ
place_bytes bytes place = slice_range bytes place.address (place.address + place.length)

-- the numbers of a place fit its record
pub record PlaceFits (place : Place) : Type 0 where
  pub index : place.index < 2 ^ 32
  pub address : place.address < 2 ^ 64
  pub count : place.length < 2 ^ 64

-- the numbers of registers and places fit an image
pub record AreSpellable (r : Registers) (ps : List Place) : Type 0 where
  pub registers : AreFit r
  pub count : length ps < 2 ^ 32
  pub places : All PlaceFits ps

-- a record that may follow, where the part before ends there
pub record IsNext (before : ℕ) (place : Place) : Type 0 where
  pub index : place.index < 2 ^ 32
  pub above : before ≤ place.address
  pub filled : 1 ≤ place.length
  pub below : place.address + place.length ≤ 2 ^ 32

-- records that may stand one after the other, up to that end
pub record AreSound (places : List Place) (end : ℕ) : Type 0 where
  pub filled : All (λ place. 1 ≤ place.length) places
  pub below : All (λ place. place.address + place.length ≤ 2 ^ 32) places
  pub upto : All (λ place. place.address + place.length ≤ end) places
  pub ascending : AllPairs Ascends places
  pub fit : All PlaceFits places

-- how many bytes the parts at these places have
abbrev pub total_length : List Place → ℕ
total_length [] = 0
total_length (place ∷ places) = place.length + total_length places

-- so many records that were read, with page tables or without: no fault is among them, so that the
-- bytes of their parts, and what follows these, are left to be judged
pub record AreRecords (wide : Bool) (number : ℕ) (places : List Place) : Type 0 where
  pub count : length places ≡ number
  pub sound : AreSound places (2 ^ 32)
  pub may : All (λ place. IsRoleAllowed wide place.role) places
  pub judged : (bytes : List ℕ)
      → records_fault parts_behind (max_role wide) number no_records
      (flat_map place_record places ++ bytes)
      ≡ end_fault (total_length places) bytes
