-- What an executable file is, and the first fault of one that is refused (System V gABI, "Object
-- Files").
use Rattle.std.specs.Prelude.{◌≡◌, ◌⊎◌, ◌+◌, ◌-◌, ◌<◌, ◌≤◌, ◌^◌, ℕ, true, false, if◌then◌else◌}
use Rattle.std.specs.Prelude.{List, length, find, Option, Some, None}
use Rattle.std.specs.List.{list_any}
use Rattle.bl_mem.specs.SegmentContents.{is_in_segment}
use Rattle.bl_mem.specs.declared.segment.Segment.{Segment}
use Rattle.bl_elf.specs.declared.program_headers.ProgramHeader.{ProgramHeader}
use Rattle.bl_elf.specs.declared.fault.ElfFault.{ElfFault}
use Rattle.bl_elf.specs.declared.fault.ElfFault.TheVariants.{NotElf, BadElf, SegmentCut}
use Rattle.bl_elf.specs.declared.fault.ElfFault.TheVariants.{AddressTooHigh, SegmentsOverlap}
use Rattle.bl_elf.specs.declared.fault.ElfFault.TheVariants.{NoEntry, NoMemory}
use Rattle.bl_elf.specs.Header.{header_of, header_fault}
use Rattle.bl_elf.specs.ProgramHeaders.{program_headers, segments_of, program_fault_at}
use Rattle.bl_elf.specs.ProgramHeaders.{segments_overlap_at}
use Rattle.bl_elf.specs.ProgramHeaders.{is_entered}

-- what loading needs of a file: its loadable segments in the order of its program headers, and the
-- physical address at which it is entered
pub record ElfFacts : Type 0 where
  pub segments : List Segment
  pub entry : Option ℕ

-- own: e_entry moved with the program header that holds it among its virtual addresses; or else
-- e_entry itself where it is a physical address of a segment; or else none
abbrev pub physical_entry_from : ℕ → List Segment → Option ProgramHeader → Option ℕ
physical_entry_from e_entry segments (Some header) =
    Some (e_entry - header.p_vaddr + header.p_paddr)
physical_entry_from e_entry segments None =
    if list_any (is_in_segment e_entry) segments then Some e_entry else None

-- the first loadable program header counts
unfoldable pub physical_entry : List ℕ → Option ℕ
physical_entry bytes =
    let e_entry = (header_of bytes).e_entry in
    let headers = program_headers bytes in
    physical_entry_from e_entry (segments_of headers) (find (is_entered e_entry) headers)

-- a number below e_phnum
abbrev pub IsProgramHeaderIndex : List ℕ → ℕ → Type 0
IsProgramHeaderIndex bytes i = i < (header_of bytes).e_phnum

-- program header i shares no physical byte with a later one
abbrev pub OverlapsNoLater : List ℕ → ℕ → Type 0
OverlapsNoLater bytes i =
    (j : ℕ) → i < j → IsProgramHeaderIndex bytes j → segments_overlap_at bytes i j ≡ false

-- the header is sound and so is each program header, no two share a physical byte, and these are
-- the facts
pub record IsElf (bytes : List ℕ) (facts : ElfFacts) : Type 0 where
  pub header : header_fault bytes ≡ None
  pub sound : (i : ℕ) → IsProgramHeaderIndex bytes i → program_fault_at bytes i ≡ None
  pub apart : (i : ℕ) → IsProgramHeaderIndex bytes i → OverlapsNoLater bytes i
  pub segments : facts.segments ≡ segments_of (program_headers bytes)
  pub entry : facts.entry ≡ physical_entry bytes

-- the header is sound, and program header i is the first with a fault, which is this one
pub record IsFirstFaulty (bytes : List ℕ) (i : ℕ) (fault : ElfFault) : Type 0 where
  pub header : header_fault bytes ≡ None
  pub within : IsProgramHeaderIndex bytes i
  pub faulty : program_fault_at bytes i ≡ Some fault
  pub sound_before : (k : ℕ) → k < i → program_fault_at bytes k ≡ None

-- all is sound, and i is the least that shares a physical byte with a later program header, and j
-- the least of those
pub record IsFirstOverlap (bytes : List ℕ) (i j : ℕ) : Type 0 where
  pub header : header_fault bytes ≡ None
  pub sound : (k : ℕ) → IsProgramHeaderIndex bytes k → program_fault_at bytes k ≡ None
  pub above : i < j
  pub within : IsProgramHeaderIndex bytes j
  pub share : segments_overlap_at bytes i j ≡ true
  pub least_first : (k : ℕ) → k < i → OverlapsNoLater bytes k
  pub least_second : (k : ℕ) → i < k → k < j → segments_overlap_at bytes i k ≡ false

-- this is the first fault of a file that is refused, or memory ran out
abbrev pub HasFirstElfFault : List ℕ → ElfFault → Type 0
HasFirstElfFault bytes NotElf = header_fault bytes ≡ Some NotElf
HasFirstElfFault bytes BadElf =
    (header_fault bytes ≡ Some BadElf) ⊎ ((i : ℕ) × IsFirstFaulty bytes i BadElf)
HasFirstElfFault bytes (SegmentCut i) = IsFirstFaulty bytes i (SegmentCut i)
HasFirstElfFault bytes (AddressTooHigh i) = IsFirstFaulty bytes i (AddressTooHigh i)
HasFirstElfFault bytes (SegmentsOverlap i j) = IsFirstOverlap bytes i j
HasFirstElfFault bytes NoEntry = ⊥
HasFirstElfFault bytes NoMemory = Unit {0}

-- a segment as a loader needs it: it takes memory below 2^32, and what it takes of the file is
-- within the file
pub record IsSoundSegment (bytes : List ℕ) (segment : Segment) : Type 0 where
  pub filled : 1 ≤ segment.memsz
  pub fits : segment.filesz ≤ segment.memsz
  pub in_file : 0 < segment.filesz → segment.offset + segment.filesz ≤ length bytes
  pub low : segment.address + segment.memsz ≤ 2 ^ 32

-- a is an address of the segment
abbrev pub IsAddressOf : Segment → ℕ → Type 0
IsAddressOf segment a = (segment.address ≤ a) × (a < segment.address + segment.memsz)

-- no address is in both
abbrev pub AreApartSegments : Segment → Segment → Type 0
AreApartSegments s t = (a : ℕ) → IsAddressOf s a → IsAddressOf t a → ⊥
