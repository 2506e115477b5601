-- What an address tag asks to be loaded (Multiboot2 2.0, "3.1.5 The address tag of Multiboot2
-- header"). h is the header's place in the file, and size is the file's length.
use Rattle.std.specs.Prelude.{◌+◌, ◌-◌, ℕ, Bool, ◌&&◌, ◌||◌, not, if◌then◌else◌, ◌==◌, nat_lt, List}
use Rattle.std.specs.Prelude.{length, Option, Some, None}
use Rattle.bl_mem.specs.LittleEndian.{u32_at}
use Rattle.bl_mem.specs.declared.segment.Segment.{Segment}
use Rattle.bl_mb2head.specs.declared.address.AddressTag.{AddressTag}
use Rattle.bl_mb2head.specs.declared.tag.Tag.{Tag}
use Rattle.bl_mb2head.specs.declared.fault.HeadFault.{HeadFault}
use Rattle.bl_mb2head.specs.declared.fault.HeadFault.TheVariants.{BadTag}

-- the fields of the tag at a place
abbrev pub address_tag_at : List ℕ → ℕ → AddressTag
address_tag_at bytes at = record {
  header_addr = u32_at bytes (at + 8);
  load_addr = u32_at bytes (at + 12);
  load_end_addr = u32_at bytes (at + 16);
  bss_end_addr = u32_at bytes (at + 20);
}

-- load_addr is -1: the file is loaded from its start on, and header_addr says where to (own)
abbrev pub loads_from_start : AddressTag → Bool
loads_from_start tag = tag.load_addr == 0xFFFFFFFF

-- where the first byte that is loaded comes to stand
abbrev pub load_address_of : ℕ → AddressTag → ℕ
load_address_of h tag = if loads_from_start tag then tag.header_addr - h else tag.load_addr

-- where it stands in the file: as far before the header as load_addr is before header_addr
abbrev pub offset_of : ℕ → AddressTag → ℕ
offset_of h tag = if loads_from_start tag then 0 else h - (tag.header_addr - tag.load_addr)

-- how many bytes of the file: up to load_end_addr, or up to the file's end where that is 0
abbrev pub filesz_of : ℕ → ℕ → AddressTag → ℕ
filesz_of size h tag =
    if tag.load_end_addr == 0 then size - offset_of h tag else
    tag.load_end_addr - load_address_of h tag

-- how many bytes of memory: zeros run up to bss_end_addr, and there are none where that is 0
abbrev pub memsz_of : ℕ → ℕ → AddressTag → ℕ
memsz_of size h tag =
    if tag.bss_end_addr == 0 then filesz_of size h tag else tag.bss_end_addr - load_address_of h tag

abbrev pub segment_by_tag : ℕ → ℕ → AddressTag → Segment
segment_by_tag size h tag = record {
  offset = offset_of h tag;
  address = load_address_of h tag;
  filesz = filesz_of size h tag;
  memsz = memsz_of size h tag;
}

-- the file's start, or its first byte that is loaded, would lie below 0
abbrev pub has_bad_start : ℕ → AddressTag → Bool
has_bad_start h tag =
    if loads_from_start tag then nat_lt tag.header_addr h else
    nat_lt tag.header_addr tag.load_addr || nat_lt h (tag.header_addr - tag.load_addr)

-- the file's part ends before it begins
abbrev pub has_bad_load_end : ℕ → AddressTag → Bool
has_bad_load_end h tag = not (tag.load_end_addr == 0) && nat_lt tag.load_end_addr
    (load_address_of h tag)

-- the zeros end before the file's part does
abbrev pub has_bad_bss_end : ℕ → ℕ → AddressTag → Bool
has_bad_bss_end size h tag =
    not (tag.bss_end_addr == 0)
    && nat_lt tag.bss_end_addr (load_address_of h tag + filesz_of size h tag)

-- own: what the file can't meet is a fault. The third is that its part would pass its end
unfoldable pub is_bad_address : ℕ → ℕ → AddressTag → Bool
is_bad_address size h tag =
    has_bad_start h tag || has_bad_load_end h tag
    || nat_lt size (offset_of h tag + filesz_of size h tag)
    || has_bad_bss_end size h tag

-- what is wrong with the address tag that counts, if there is one
abbrev pub address_fault : List ℕ → ℕ → Option Tag → Option HeadFault
address_fault bytes h None = None
address_fault bytes h (Some t) =
    if is_bad_address (length bytes) h (address_tag_at bytes t.place)
    then Some (BadTag t.place) else None

-- the segment that it gives
abbrev pub address_segment : List ℕ → ℕ → Option Tag → Option Segment
address_segment bytes h None = None
address_segment bytes h (Some t) = Some (segment_by_tag (length bytes) h
    (address_tag_at bytes t.place))
