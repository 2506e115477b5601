-- The ELF header (System V gABI, "ELF Header"; the machines' numbers are those of the processor
-- supplements): its fields at their offsets, and the first fault that it has.
use Rattle.std.specs.Prelude.{◌+◌, ◌*◌, ℕ, Bool, ◌&&◌, ◌||◌, not, if◌then◌else◌, ◌==◌, nat_lt}
use Rattle.std.specs.Prelude.{nat_le, List, length, slice_index, Option, Some, None}
use Rattle.bl_mem.specs.LittleEndian.{u16_at, u32_at, u64_at}
use Rattle.bl_elf.specs.declared.class.Class.{Class}
use Rattle.bl_elf.specs.declared.class.Class.TheVariants.{Elf32, Elf64}
use Rattle.bl_elf.specs.declared.header.Header.{Header}
use Rattle.bl_elf.specs.declared.fault.ElfFault.{ElfFault}
use Rattle.bl_elf.specs.declared.fault.ElfFault.TheVariants.{NotElf, BadElf}

-- e_ident[EI_CLASS]: 1 is ELFCLASS32, 2 is ELFCLASS64
abbrev pub class_of : List ℕ → Class
class_of bytes = if slice_index bytes 4 == 2 then Elf64 else Elf32

-- Elf32_Ehdr has 52 bytes, Elf64_Ehdr 64
abbrev pub header_size : Class → ℕ
header_size Elf32 = 52
header_size Elf64 = 64

-- Elf32_Phdr has 32 bytes, Elf64_Phdr 56
abbrev pub program_header_size : Class → ℕ
program_header_size Elf32 = 32
program_header_size Elf64 = 56

-- EM_386 and EM_X86_64
abbrev pub required_machine : Class → ℕ
required_machine Elf32 = 3
required_machine Elf64 = 62

-- the fields of Elf32_Ehdr and of Elf64_Ehdr, each at its offset
abbrev pub header_in : Class → List ℕ → Header
header_in Elf32 bytes = record {
  class = Elf32;
  e_type = u16_at bytes 16;
  e_machine = u16_at bytes 18;
  e_version = u32_at bytes 20;
  e_entry = u32_at bytes 24;
  e_phoff = u32_at bytes 28;
  e_phentsize = u16_at bytes 42;
  e_phnum = u16_at bytes 44;
}
header_in Elf64 bytes = record {
  class = Elf64;
  e_type = u16_at bytes 16;
  e_machine = u16_at bytes 18;
  e_version = u32_at bytes 20;
  e_entry = u64_at bytes 24;
  e_phoff = u64_at bytes 32;
  e_phentsize = u16_at bytes 54;
  e_phnum = u16_at bytes 56;
}

unfoldable pub header_of : List ℕ → Header
header_of bytes = header_in (class_of bytes) bytes

-- a file of at least 16 bytes, the first four 7F 45 4C 46
abbrev pub has_magic : List ℕ → Bool
has_magic bytes = nat_le 16 (length bytes) && u32_at bytes 0 == 0x464C457F

-- EI_CLASS is 1 or 2, EI_DATA is 1 (ELFDATA2LSB), EI_VERSION is 1 (EV_CURRENT)
abbrev pub has_supported_ident : List ℕ → Bool
has_supported_ident bytes =
    (slice_index bytes 4 == 1 || slice_index bytes 4 == 2)
    && slice_index bytes 5 == 1
    && slice_index bytes 6 == 1

-- ET_EXEC or ET_DYN
abbrev pub is_executable : Header → Bool
is_executable header = header.e_type == 2 || header.e_type == 3

-- own: the program header table, where there is one, has whole entries and ends within a file of
-- this size
abbrev pub has_table : ℕ → Header → Bool
has_table size header =
    header.e_phnum == 0
    || (nat_le (program_header_size header.class) header.e_phentsize
    && nat_le (header.e_phoff + header.e_phnum * header.e_phentsize) size)

-- the first fault of the fields of the header of a file of this size: e_type, e_machine, e_version
-- (EV_CURRENT); own: e_phnum is at most 128; and the table
unfoldable pub field_fault : ℕ → Header → Option ElfFault
field_fault size header =
    if not (is_executable header) then Some BadElf else
    if not (header.e_machine == required_machine header.class) then Some BadElf else
    if not (header.e_version == 1) then Some BadElf else
    if nat_lt 128 header.e_phnum then Some BadElf else
    if not (has_table size header) then Some BadElf else
    None

-- the first fault of the header
unfoldable pub header_fault : List ℕ → Option ElfFault
header_fault bytes =
    if not (has_magic bytes) then Some NotElf else
    if not (has_supported_ident bytes) then Some BadElf else
    if nat_lt (length bytes) (header_size (class_of bytes)) then Some BadElf else
    field_fault (length bytes) (header_of bytes)
