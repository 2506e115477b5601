-- What a kernel is handed. Own.
use Rattle.std.specs.Prelude.{ℕ, ◌+◌, ◌-◌, List, [], ◌∷◌, ◌++◌, length, replicate}
use Rattle.bl_mem.specs.Memory.{overwrite}
use Rattle.bl_plan.specs.declared.part.Role.{Role}
use Rattle.bl_plan.specs.declared.part.Place.{Place}
use Rattle.bl_plan.specs.declared.protocol.Protocol.{Protocol}
use Rattle.bl_load.specs.declared.registers.Registers.{Registers}

-- a part: its role, its index among those of its role, its address, its bytes
pub record Part : Type 0 where
  pub role : Role
  pub index : ℕ
  pub address : ℕ
  pub bytes : List ℕ

-- the address after a part's last byte
abbrev pub end_of : Part → ℕ
end_of part = part.address + length part.bytes

-- the protocol, the registers, the parts in address order
pub record Handover : Type 0 where
  pub protocol : Protocol
  pub registers : Registers
  pub parts : List Part

-- the part at a place, with these bytes
abbrev pub placed_part : Place → List ℕ → Part
placed_part place bytes =
    record { role = place.role; index = place.index; address = place.address; bytes = bytes }

-- a content and zeros after it, up to a length; one that is longer stays as it is
abbrev pub zero_padded : ℕ → List ℕ → List ℕ
zero_padded count content = content ++ replicate (count - length content) 0

-- memory once these parts are written, one after the other
abbrev pub overwrite_parts : List Part → List ℕ → List ℕ
overwrite_parts [] old = old
overwrite_parts (part ∷ parts) old = overwrite_parts parts (overwrite old part.address part.bytes)
