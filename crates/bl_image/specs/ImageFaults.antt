-- The first fault of bytes that should be an image, in the order of reading. Own.
use Rattle.std.specs.Prelude.{ℕ, zero, suc, ◌+◌, if◌then◌else◌, ◌==◌}
use Rattle.std.specs.Prelude.{List, [], ◌∷◌, length, drop, Option, Some, None}
use Rattle.bl_mem.specs.LittleEndian.{u32_at, u64_at}
use Rattle.bl_image.specs.declared.fault.ImageFault.{ImageFault}
use Rattle.bl_image.specs.declared.fault.ImageFault.TheVariants.{WrongLength}
use Rattle.bl_image.specs.Fields.{fields_fault, opening_fields, protocol_field, record_fields}
use Rattle.bl_image.specs.Fields.{length_field}
use Rattle.bl_image.specs.Layouts.{layout_of, layout_fields, version_at, protocol_at, registers_at}

-- what comes first, else what comes later
abbrev pub fault_or : Option ImageFault → Option ImageFault → Option ImageFault
fault_or None later = later
fault_or (Some fault) later = Some fault

-- the first fault of a head: of what each image begins with; of the protocol, which must be one of
-- the version; of what the layout tells
unfoldable pub head_fault : List ℕ → Option ImageFault
head_fault bytes =
    fault_or (fields_fault opening_fields bytes)
    (fault_or (fields_fault (protocol_field (u32_at bytes version_at) ∷ [])
    (drop protocol_at bytes))
    (fields_fault (layout_fields (layout_of bytes)) (drop registers_at bytes)))

-- where address and length stand in a record, and how many bytes it has
abbrev pub address_at : ℕ
address_at = 8

abbrev pub length_at : ℕ
length_at = 16

abbrev pub record_size : ℕ
record_size = 24

-- the first fault of a record whose role's number is at most this one; the part before ends there
abbrev pub record_fault : ℕ → ℕ → ℕ → List ℕ → Option ImageFault
record_fault most part before bytes =
    fault_or (fields_fault (record_fields most part before) bytes)
    (fields_fault (length_field part (u64_at bytes address_at) ∷ []) (drop length_at bytes))

-- what the records so far say: how many they are, where the last one's part ends, how many bytes
-- their parts have
pub record RecordsBefore : Type 0 where
  pub count : ℕ
  pub end : ℕ
  pub bytes : ℕ

abbrev pub no_records : RecordsBefore
no_records = record { count = 0; end = 0; bytes = 0 }

-- and one more record: its part's address, and how many bytes the part has
abbrev pub with_record : RecordsBefore → ℕ → ℕ → RecordsBefore
with_record before address count = record {
  count = before.count + 1;
  end = address + count;
  bytes = before.bytes + count;
}

-- the bytes of all parts are so many, and nothing follows
abbrev pub end_fault : ℕ → List ℕ → Option ImageFault
end_fault count bytes = if length bytes == count then None else Some WrongLength

-- a definition of the first fault of what follows the records, by what they say
abbrev pub FaultBehind : Type 0
FaultBehind = RecordsBefore → List ℕ → Option ImageFault

-- the first fault where so many records must begin, with numbers of roles up to the first, and
-- after them of what follows
abbrev pub records_fault : FaultBehind → ℕ → ℕ → RecordsBefore → List ℕ → Option ImageFault
records_fault behind most zero before bytes = behind before bytes
records_fault behind most (suc n) before bytes =
    fault_or (record_fault most before.count before.end bytes)
    (records_fault behind most n
    (with_record before (u64_at bytes address_at) (u64_at bytes length_at))
    (drop record_size bytes))

-- the first fault of a head; of the records, where the layout says; of what follows these
abbrev pub fault_with : FaultBehind → List ℕ → Option ImageFault
fault_with behind bytes =
    fault_or (head_fault bytes)
    (records_fault behind (layout_of bytes).max_role (u32_at bytes (layout_of bytes).count_at)
    no_records (drop (layout_of bytes).records_at bytes))

-- the bytes of all parts follow, and nothing else
abbrev pub parts_behind : FaultBehind
parts_behind records bytes = end_fault records.bytes bytes

-- the first fault of an image
unfoldable pub image_fault : List ℕ → Option ImageFault
image_fault bytes = fault_with parts_behind bytes

-- the first fault of what an image has before the bytes of its parts, whatever follows
unfoldable pub front_fault : List ℕ → Option ImageFault
front_fault bytes = fault_with (λ records rest. None) bytes
