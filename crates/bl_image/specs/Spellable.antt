-- What an image has room for. Own.
use Rattle.std.specs.Prelude.{◌≡◌, ◌<◌, ◌^◌, length, All}
use Rattle.bl_load.specs.Handover.{Part, Handover}
use Rattle.bl_plan.specs.declared.protocol.Protocol.{Protocol}
use Rattle.bl_load.specs.declared.registers.Registers.{Registers}
use Rattle.bl_load.specs.declared.registers.Registers.TheVariants.{Bits32, Bits64}
use Rattle.bl_load.specs.Protocols.{is_wide}
use Rattle.bl_load.specs.Registers.{are_wide}
use Rattle.bl_image.specs.Image.{narrow_values, wide_values}

-- the numbers of a part fit its record
pub record FitsRecord (part : Part) : Type 0 where
  pub index : part.index < 2 ^ 32
  pub address : part.address < 2 ^ 64
  pub count : length part.bytes < 2 ^ 64

-- the numbers of registers fit 32 bits or 64
abbrev pub AreFit : Registers → Type 0
AreFit (Bits32 r) = All (λ n. n < 2 ^ 32) (narrow_values r)
AreFit (Bits64 r) = All (λ n. n < 2 ^ 64) (wide_values (Bits64 r))

-- the registers are those of the protocol, and their numbers fit
abbrev pub AreRegistersOf : Protocol → Registers → Type 0
AreRegistersOf protocol r = (are_wide r ≡ is_wide protocol) × AreFit r

-- the numbers of a handover fit its image
pub record IsSpellable (h : Handover) : Type 0 where
  pub registers : AreRegistersOf h.protocol h.registers
  pub count : length h.parts < 2 ^ 32
  pub parts : All FitsRecord h.parts
