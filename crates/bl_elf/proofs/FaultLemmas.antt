-- A fault that one check finds is the first fault of the file.
use Rattle.std.proofs.Common.{◌≡◌, ◌⊎◌, inl, inr, ℕ, List, length, Some, arith}
use Rattle.bl_elf.specs.declared.fault.ElfFault.{ElfFault}
use Rattle.bl_elf.specs.declared.fault.ElfFault.TheVariants.{NotElf, BadElf, SegmentCut}
use Rattle.bl_elf.specs.declared.fault.ElfFault.TheVariants.{AddressTooHigh}
use Rattle.bl_elf.specs.declared.header.Header.{Header}
use Rattle.bl_elf.specs.declared.program_headers.ProgramHeader.{ProgramHeader}
use Rattle.bl_elf.specs.Header.{header_fault, field_fault, header_of}
use Rattle.bl_elf.specs.ProgramHeaders.{program_fault, program_header}
use Rattle.bl_elf.specs.Elf.{IsFirstFaulty, HasFirstElfFault}

field_kinds : (size : ℕ) (header : Header) (fault : ElfFault) → field_fault size header ≡ Some fault
    → fault ≡ BadElf
unfolding field_fault
field_kinds size header fault e = grind arith

pub header_kinds : (bytes : List ℕ) (fault : ElfFault) → header_fault bytes ≡ Some fault
    → (fault ≡ NotElf) ⊎ (fault ≡ BadElf)
unfolding header_fault
header_kinds bytes fault e = grind (arith, field_kinds (length bytes) (header_of bytes) fault)

-- a fault of the header comes first
pub header_first : (bytes : List ℕ) (fault : ElfFault) → header_fault bytes ≡ Some fault
    → HasFirstElfFault bytes fault
header_first bytes fault e =
    elim (header_kinds bytes fault e) [
      | inl not_elf ↦ rw not_elf (rw not_elf at e)
      | inr bad_elf ↦ rw bad_elf (inl (rw bad_elf at e))
    ]

pub program_kinds : (size i : ℕ) (header : ProgramHeader) (fault : ElfFault)
    → program_fault size i header ≡ Some fault
    → (fault ≡ BadElf) ⊎ ((fault ≡ SegmentCut i) ⊎ (fault ≡ AddressTooHigh i))
unfolding program_fault
program_kinds size i header fault e = grind arith

-- so does the first fault of the program headers, where the header has none
pub program_first : (bytes : List ℕ) (i : ℕ) (fault : ElfFault) → IsFirstFaulty bytes i fault
    → HasFirstElfFault bytes fault
program_first bytes i fault first =
    elim (program_kinds (length bytes) i (program_header bytes i) fault first.faulty) [
      | inl bad_elf ↦ rw bad_elf (inr (i, rw bad_elf at first))
      | inr (inl cut) ↦ rw cut (rw cut at first)
      | inr (inr high) ↦ rw high (rw high at first)
    ]
