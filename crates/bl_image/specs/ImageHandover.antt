-- What an image keeps, and which bytes are one. Own.
use Rattle.std.specs.Prelude.{◌≡◌, ℕ, ◌≤◌, List, length, map}
use Rattle.bl_plan.specs.declared.part.Place.{Place}
use Rattle.bl_load.specs.HandoffFacts.{HandoffFacts, IsWellFormedHandoff}
use Rattle.bl_load.specs.Handover.{Part, Handover, end_of}
use Rattle.bl_image.specs.declared.version.Version.{Version}
use Rattle.bl_image.specs.Image.{spelling}
use Rattle.bl_image.specs.Spellable.{IsSpellable}
use Rattle.bl_image.specs.Versions.{HasProtocol}

-- the place of a part
abbrev pub part_place : Part → Place
part_place part = record {
  role = part.role;
  index = part.index;
  address = part.address;
  length = length part.bytes;
}

-- what a handoff of a handover says
abbrev pub handoff_of : Handover → HandoffFacts
handoff_of h =
    record { protocol = h.protocol; registers = h.registers; places = map part_place h.parts }

-- the second part begins at the end of the first, or after it
abbrev pub PartAscends : Part → Part → Type 0
PartAscends p q = end_of p ≤ q.address

-- what an image keeps: what a handoff does, and that its numbers fit
pub record IsKeptByImages (handover : Handover) : Type 0 where
  pub handoff : IsWellFormedHandoff (handoff_of handover)
  pub spellable : IsSpellable handover

-- these bytes are the image of this handover in this version, which has its protocol
pub record IsImage (version : Version) (bytes : List ℕ) (handover : Handover) : Type 0 where
  pub is : bytes ≡ spelling version handover
  pub has : HasProtocol version handover.protocol
  pub kept : IsKeptByImages handover
