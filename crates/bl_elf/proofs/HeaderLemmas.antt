-- What a sound header gives: few program headers, each of which stands within the file.
use Rattle.std.proofs.Common.{◌≡◌, ◌+◌, ◌<◌, ◌≤◌, ℕ, List, length, true, None, arith}
use Rattle.std.proofs.lemmas.Bool.Decides.{nat_tests}
use Rattle.bl_elf.specs.declared.header.Header.{Header}
use Rattle.bl_elf.specs.Header.{header_of, has_table, field_fault, header_fault}
use Rattle.bl_elf.specs.Header.{program_header_size}
use Rattle.bl_elf.specs.internal.SoundHeader.{IsSoundHeaderOf}
use Rattle.bl_elf.specs.ProgramHeaders.{program_header_place}

-- the table of a file of this size has at most 128 entries, and ends within it
record HasTable (size : ℕ) (header : Header) : Type 0 where
  few : header.e_phnum ≤ 128
  table : has_table size header ≡ true

field_parts : (size : ℕ) (header : Header) → field_fault size header ≡ None → HasTable size header
unfolding field_fault
field_parts size header sound =
    record { few = grind (arith, nat_tests); table = grind (arith, nat_tests) }

header_parts : (bytes : List ℕ) → header_fault bytes ≡ None
    → HasTable (length bytes) (header_of bytes)
unfolding header_fault
header_parts bytes sound = field_parts (length bytes) (header_of bytes) (grind (arith, nat_tests))

pub few_program_headers : (bytes : List ℕ) → header_fault bytes ≡ None
    → (header_of bytes).e_phnum ≤ 128
few_program_headers bytes sound = (header_parts bytes sound).few

within_table : (size i : ℕ) (header : Header) → has_table size header ≡ true → i < header.e_phnum
    → program_header_place header i + program_header_size header.class ≤ size
within_table size i header table within = grind (arith, nat_tests)

pub within_file : (bytes : List ℕ) (header : Header) (i : ℕ) → IsSoundHeaderOf bytes header
    → i < header.e_phnum → program_header_place header i + program_header_size header.class ≤ length bytes
within_file bytes header i read within =
    let table : has_table (length bytes) header ≡ true =
    rw read.is (header_parts bytes read.sound).table in
    within_table (length bytes) i header table within
