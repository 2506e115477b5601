-- The fields of an image, and the first fault among fields. Own.
use Rattle.std.specs.Prelude.{ℕ, ◌+◌, ◌^◌, Bool, true, not, ◌&&◌, if◌then◌else◌, ◌==◌}
use Rattle.std.specs.Prelude.{nat_lt, nat_le, List, [], ◌∷◌, length, take, drop, bytes_eq}
use Rattle.std.specs.Prelude.{Option, Some, None}
use Rattle.bl_mem.specs.LittleEndian.{u32_at, u64_at}
use Rattle.bl_load.specs.HandoffFacts.{max_parts}
use Rattle.bl_image.specs.declared.fault.ImageFault.{ImageFault}
use Rattle.bl_image.specs.declared.fault.ImageFault.TheVariants.{BadMagic, BadVersion, BadHeader}
use Rattle.bl_image.specs.declared.fault.ImageFault.TheVariants.{BadPart, WrongLength}
use Rattle.bl_image.specs.Image.{magic}
use Rattle.bl_image.specs.Versions.{max_protocol}

-- a field: how many bytes it has, what they must pass, and the fault if they don't
pub record Field : Type 0 where
  pub size : ℕ
  pub passes : List ℕ → Bool
  pub fault : ImageFault

-- a number of 32 bits, and one of 64, of which a test holds
abbrev pub u32_field : (ℕ → Bool) → ImageFault → Field
u32_field test fault = record { size = 4; passes = λ bytes. test (u32_at bytes 0); fault = fault }

abbrev pub u64_field : (ℕ → Bool) → ImageFault → Field
u64_field test fault = record { size = 8; passes = λ bytes. test (u64_at bytes 0); fault = fault }

-- the first fault where these fields must begin; bytes that end inside a field have the wrong
-- length
abbrev pub fields_fault : List Field → List ℕ → Option ImageFault
fields_fault [] bytes = None
fields_fault (field ∷ fields) bytes =
    if nat_lt (length bytes) field.size then Some WrongLength else
    if not (field.passes (take field.size bytes)) then Some field.fault else
    fields_fault fields (drop field.size bytes)

-- the fields that each image begins with
unfoldable pub magic_field : Field
magic_field = record { size = 8; passes = bytes_eq magic; fault = BadMagic }

unfoldable pub version_field : Field
version_field = u32_field (λ version. nat_le 1 version && nat_le version 2) BadVersion

abbrev pub opening_fields : List Field
opening_fields = magic_field ∷ version_field ∷ []

-- the protocol of an image of this version: 1 is Multiboot2, 2 is Linux, and from version 2 on 3 is
-- the 64-bit entry of Linux
unfoldable pub protocol_field : ℕ → Field
protocol_field version =
    u32_field (λ protocol. nat_le 1 protocol && nat_le protocol (max_protocol version)) BadHeader

-- a register that may be anything
unfoldable pub register_field : Field
register_field = u32_field (λ register. true) BadHeader

-- a register of 64 bits that may be anything
unfoldable pub wide_register_field : Field
wide_register_field = u64_field (λ register. true) BadHeader

-- a register of 64 bits, of which the protocol gives 32
unfoldable pub zero_extended_field : Field
zero_extended_field = u64_field (λ register. nat_lt register (2 ^ 32)) BadHeader

-- a register that the protocol does not give
unfoldable pub absent_field : Field
absent_field = u64_field (λ register. register == 0) BadHeader

-- the fields behind the registers
unfoldable pub count_field : Field
count_field = u32_field (λ count. nat_le count max_parts) BadHeader

unfoldable pub zero_field : Field
zero_field = u32_field (λ zero. zero == 0) BadHeader

-- the fields of a record, the greatest number of a role first
unfoldable pub role_field : ℕ → ℕ → Field
role_field most part = u32_field (λ role. nat_le 1 role && nat_le role most) (BadPart part)

unfoldable pub index_field : ℕ → Field
index_field part = u32_field (λ index. true) (BadPart part)

-- not below the end of the record before
unfoldable pub address_field : ℕ → ℕ → Field
address_field part before = u64_field (nat_le before) (BadPart part)

-- of a part at this address, which ends at most at 4 GiB
unfoldable pub length_field : ℕ → ℕ → Field
length_field part address =
    u64_field (λ count. nat_le 1 count && nat_le (address + count) (2 ^ 32)) (BadPart part)

-- the fields of a record but its length, which must fit the address
abbrev pub record_fields : ℕ → ℕ → ℕ → List Field
record_fields most part before =
    role_field most part ∷ index_field part ∷ address_field part before ∷ []
