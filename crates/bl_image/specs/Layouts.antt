-- How an image goes on after its protocol. Own.
use Rattle.std.specs.Prelude.{ℕ, Bool, true, false, List, [], ◌∷◌, ◌++◌, ◌==◌, if◌then◌else◌}
use Rattle.std.specs.Prelude.{replicate}
use Rattle.bl_mem.specs.LittleEndian.{u32_at}
use Rattle.bl_image.specs.Fields.{Field, register_field, zero_extended_field, absent_field}
use Rattle.bl_image.specs.Fields.{wide_register_field}
use Rattle.bl_image.specs.Fields.{count_field, zero_field}

-- where version, protocol and registers stand in each image
abbrev pub version_at : ℕ
version_at = 8

abbrev pub protocol_at : ℕ
protocol_at = 12

abbrev pub registers_at : ℕ
registers_at = 16

-- the greatest number of a role, where the registers are those of 64 bits, and where not
abbrev pub max_role : Bool → ℕ
max_role true = 8
max_role false = 7

-- a layout: the fields of the registers; where the number of parts stands,
-- with a zero word behind it; where the records begin; the greatest number of a role
pub record Layout : Type 0 where
  pub registers : List Field
  pub count_at : ℕ
  pub records_at : ℕ
  pub max_role : ℕ

-- version 1: 20 registers of 32 bits, each of which may be anything
unfoldable pub registers_1 : List Field
registers_1 = replicate 20 register_field

abbrev pub layout_1 : Layout
layout_1 = record { registers = registers_1; count_at = 96; records_at = 104; max_role = 7 }

-- version 2: 31 registers of 64 bits; under Multiboot2 and Linux's 32-bit entry R8 to R15, and CR3,
-- CR4 and EFER, are not given
unfoldable pub registers_2_narrow : List Field
registers_2_narrow =
    replicate 9 zero_extended_field ++ (replicate 8 absent_field
    ++ (replicate 2 zero_extended_field
    ++ (replicate 3 absent_field ++ replicate 9 zero_extended_field)))

abbrev pub layout_2_narrow : Layout
layout_2_narrow = record {
  registers = registers_2_narrow;
  count_at = 264;
  records_at = 272;
  max_role = 7;
}

-- under the 64-bit entry of Linux each may be anything, and page tables are a part
unfoldable pub registers_2_wide : List Field
registers_2_wide = replicate 31 wide_register_field

abbrev pub layout_2_wide : Layout
layout_2_wide = record {
  registers = registers_2_wide;
  count_at = 264;
  records_at = 272;
  max_role = 8;
}

-- the layout of an image with this number of its version, and this one of its protocol
abbrev pub layout : ℕ → ℕ → Layout
layout version protocol =
    if version == 1 then layout_1 else
    if protocol == 3 then layout_2_wide else
    layout_2_narrow

-- the one of these bytes
abbrev pub layout_of : List ℕ → Layout
layout_of bytes = layout (u32_at bytes version_at) (u32_at bytes protocol_at)

-- the fields of a head that a layout tells: the registers, the number of parts, the zero word
abbrev pub layout_fields : Layout → List Field
layout_fields laid = laid.registers ++ (count_field ∷ zero_field ∷ [])
