-- What a handoff says.
use Rattle.std.specs.Prelude.{◌≡◌, ℕ, Bool, true, ◌+◌, ◌≤◌, ◌^◌, List, length, All, AllPairs}
use Rattle.bl_plan.specs.declared.part.Place.{Place}
use Rattle.bl_plan.specs.declared.protocol.Protocol.{Protocol}
use Rattle.bl_plan.specs.declared.part.Role.{Role}
use Rattle.bl_plan.specs.declared.part.Role.TheVariants.{PageTables}
use Rattle.bl_load.specs.declared.registers.Registers.{Registers}
use Rattle.bl_load.specs.Protocols.{is_wide}
use Rattle.bl_load.specs.Registers.{are_wide}

-- the protocol, the registers, and the places of the parts in address order
pub record HandoffFacts : Type 0 where
  pub protocol : Protocol
  pub registers : Registers
  pub places : List Place

-- the second place lies after the first
abbrev pub Ascends : Place → Place → Type 0
Ascends p q = p.address + p.length ≤ q.address

-- there are at most so many parts
abbrev pub max_parts : ℕ
max_parts = 256

-- page tables are a part where a kernel is entered with 64 bits alone
abbrev pub IsRoleAllowed : Bool → Role → Type 0
IsRoleAllowed wide PageTables = wide ≡ true
IsRoleAllowed wide role = Unit {0}

-- what a handoff keeps, and the handover of an image too: its registers are those of 64 bits under
-- such a protocol and no other; its places are few, none is empty, each ends at most at 4 GiB, and
-- they ascend
pub record IsWellFormedHandoff (handoff : HandoffFacts) : Type 0 where
  pub width : are_wide handoff.registers ≡ is_wide handoff.protocol
  pub roles : All (λ place. IsRoleAllowed (is_wide handoff.protocol) place.role) handoff.places
  pub few : length handoff.places ≤ max_parts
  pub filled : All (λ place. 1 ≤ place.length) handoff.places
  pub below : All (λ place. place.address + place.length ≤ 2 ^ 32) handoff.places
  pub ascending : AllPairs Ascends handoff.places
