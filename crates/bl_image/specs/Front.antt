-- What an image has before the bytes of its parts. Own.
use Rattle.std.specs.Prelude.{◌≡◌, ◌<◌, ◌^◌, ℕ, List, ◌++◌, length, All}
use Rattle.std.specs.List.{flat_map}
use Rattle.bl_load.specs.HandoffFacts.{HandoffFacts, IsWellFormedHandoff}
use Rattle.bl_load.specs.Handover.{Handover}
use Rattle.bl_image.specs.declared.version.Version.{Version}
use Rattle.bl_image.specs.Image.{head, part_record, record_of}
use Rattle.bl_image.specs.Spellable.{AreFit}
use Rattle.bl_image.specs.Versions.{HasProtocol}

-- the head, and a record for each part in the order of addresses
abbrev pub front_of : Version → Handover → List ℕ
front_of version h =
    head version h.protocol h.registers (length h.parts) ++ flat_map part_record h.parts

-- what these bytes say: the version, and what a handoff does
pub record FrontFacts : Type 0 where
  pub version : Version
  pub handoff : HandoffFacts

-- their one spelling
abbrev pub front_spelling : FrontFacts → List ℕ
front_spelling front =
    head front.version front.handoff.protocol front.handoff.registers
    (length front.handoff.places)
    ++ flat_map (λ place. record_of place.role place.index place.address place.length)
    front.handoff.places

-- what an image may have there: what a handoff keeps, of a protocol that the version has, in
-- numbers that fit
pub record IsKeptFront (front : FrontFacts) : Type 0 where
  pub handoff : IsWellFormedHandoff front.handoff
  pub has : HasProtocol front.version front.handoff.protocol
  pub registers : AreFit front.handoff.registers
  pub indices : All (λ place. place.index < 2 ^ 32) front.handoff.places

-- bytes begin with it, whatever follows
abbrev pub BeginWithFront : List ℕ → FrontFacts → Type 0
BeginWithFront bytes front = (rest : List ℕ) × (bytes ≡ front_spelling front ++ rest)
