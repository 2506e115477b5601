-- Program headers (System V gABI, "Program Header"): their fields at their offsets, which are
-- loaded and where, and the first fault that one has.
use Rattle.std.specs.Prelude.{◌+◌, ◌*◌, ◌^◌, ℕ, zero, suc, Bool, ◌&&◌, not, if◌then◌else◌, ◌==◌}
use Rattle.std.specs.Prelude.{nat_lt, nat_le, List, [], ◌∷◌, length, map, filter, Option, Some}
use Rattle.std.specs.Prelude.{None}
use Rattle.bl_mem.specs.LittleEndian.{u32_at, u64_at}
use Rattle.bl_mem.specs.declared.segment.Segment.{Segment}
use Rattle.bl_elf.specs.declared.class.Class.{Class}
use Rattle.bl_elf.specs.declared.class.Class.TheVariants.{Elf32, Elf64}
use Rattle.bl_elf.specs.declared.header.Header.{Header}
use Rattle.bl_elf.specs.declared.program_headers.ProgramHeader.{ProgramHeader}
use Rattle.bl_elf.specs.declared.fault.ElfFault.{ElfFault}
use Rattle.bl_elf.specs.declared.fault.ElfFault.TheVariants.{BadElf, SegmentCut, AddressTooHigh}
use Rattle.bl_elf.specs.Header.{header_of}

-- the fields of the Elf32_Phdr or the Elf64_Phdr that stands at a place, each at its offset
unfoldable pub program_header_at : Class → List ℕ → ℕ → ProgramHeader
program_header_at Elf32 bytes at = record {
  p_type = u32_at bytes at;
  p_offset = u32_at bytes (at + 4);
  p_vaddr = u32_at bytes (at + 8);
  p_paddr = u32_at bytes (at + 12);
  p_filesz = u32_at bytes (at + 16);
  p_memsz = u32_at bytes (at + 20);
}
program_header_at Elf64 bytes at = record {
  p_type = u32_at bytes at;
  p_offset = u64_at bytes (at + 8);
  p_vaddr = u64_at bytes (at + 16);
  p_paddr = u64_at bytes (at + 24);
  p_filesz = u64_at bytes (at + 32);
  p_memsz = u64_at bytes (at + 40);
}

-- where program header i stands
abbrev pub program_header_place : Header → ℕ → ℕ
program_header_place header i = header.e_phoff + i * header.e_phentsize

unfoldable pub program_header : List ℕ → ℕ → ProgramHeader
program_header bytes i =
    let header = header_of bytes in
    program_header_at header.class bytes (program_header_place header i)

-- the n program headers from the i-th on
abbrev pub program_headers_from : List ℕ → ℕ → ℕ → List ProgramHeader
program_headers_from bytes i zero = []
program_headers_from bytes i (suc n) = program_header bytes i ∷ program_headers_from bytes (i + 1) n

abbrev pub program_headers : List ℕ → List ProgramHeader
program_headers bytes = program_headers_from bytes 0 (header_of bytes).e_phnum

-- PT_LOAD, and it takes memory
abbrev pub is_loadable : ProgramHeader → Bool
is_loadable header = header.p_type == 1 && not (header.p_memsz == 0)

-- own: the segment is loaded at its physical address
abbrev pub segment_by_header : ProgramHeader → Segment
segment_by_header header = record {
  offset = header.p_offset;
  address = header.p_paddr;
  filesz = header.p_filesz;
  memsz = header.p_memsz;
}

-- the segments of the loadable ones, in order
abbrev pub segments_of : List ProgramHeader → List Segment
segments_of headers = map segment_by_header (filter is_loadable headers)

-- the first fault of a loadable program header, the i-th of a file of this size; any other has
-- none. Own: its memory may not end above 2^32
unfoldable pub program_fault : ℕ → ℕ → ProgramHeader → Option ElfFault
program_fault size i header =
    if not (is_loadable header) then None else
    if nat_lt header.p_memsz header.p_filesz then Some BadElf else
    if not (header.p_filesz == 0) && not (nat_le (header.p_offset + header.p_filesz) size)
    then Some (SegmentCut i) else
    if not (nat_le (header.p_paddr + header.p_memsz) (2 ^ 32)) then Some (AddressTooHigh i) else
    None

-- the first fault of program header i
abbrev pub program_fault_at : List ℕ → ℕ → Option ElfFault
program_fault_at bytes i = program_fault (length bytes) i (program_header bytes i)

-- two loadable ones share a physical byte, which is a fault (own)
unfoldable pub segments_overlap : ProgramHeader → ProgramHeader → Bool
segments_overlap p q =
    is_loadable p
    && is_loadable q
    && nat_lt p.p_paddr (q.p_paddr + q.p_memsz)
    && nat_lt q.p_paddr (p.p_paddr + p.p_memsz)

-- program headers i and j are loadable and share a physical byte
abbrev pub segments_overlap_at : List ℕ → ℕ → ℕ → Bool
segments_overlap_at bytes i j = segments_overlap (program_header bytes i) (program_header bytes j)

-- its virtual addresses hold the entry, and it is loadable
abbrev pub is_entered : ℕ → ProgramHeader → Bool
is_entered entry header =
    nat_le header.p_vaddr entry
    && nat_lt entry (header.p_vaddr + header.p_memsz)
    && is_loadable header
