-- One program header after another: the segments so far, and the first that holds the entry.
use Rattle.std.proofs.Common.{◌≡◌, ◌<◌, ◌≤◌, ◌+◌, ◌-◌, ◌^◌, ℕ, suc, true, false, Some, None, List}
use Rattle.std.proofs.Common.{[], ◌∷◌, ◌++◌, arith, refl, sym, ◌∙◌, append_assoc}
use Rattle.std.specs.Prelude.{find}
use Rattle.std.proofs.lemmas.Bool.Decides.{nat_tests}
use Rattle.bl_mem.specs.declared.segment.Segment.{Segment}
use Rattle.bl_elf.specs.declared.program_headers.ProgramHeader.{ProgramHeader}
use Rattle.bl_elf.specs.ProgramHeaders.{program_header, program_headers_from, is_loadable}
use Rattle.bl_elf.specs.ProgramHeaders.{segment_by_header}
use Rattle.bl_elf.specs.ProgramHeaders.{segments_of}
use Rattle.bl_elf.specs.ProgramHeaders.{is_entered, program_fault}

-- the program headers from the i-th on are the i-th and those after it
headers_more : (bytes : List ℕ) (i count : ℕ) → i < count
    → program_headers_from bytes i (count - i)
    ≡ program_header bytes i ∷ program_headers_from bytes (i + 1) (count - (i + 1))
headers_more bytes i count within =
    let more : count - i ≡ suc (count - (i + 1)) = omega arith in rw more refl

-- the first that holds the entry is the i-th
pub find_here : (bytes : List ℕ) (entry i count : ℕ) → i < count
    → is_entered entry (program_header bytes i) ≡ true
    → find (is_entered entry) (program_headers_from bytes i (count - i))
    ≡ Some (program_header bytes i)
find_here bytes entry i count within entered = rw (headers_more bytes i count within, entered) refl

-- or it stands after the i-th
pub find_behind : (bytes : List ℕ) (entry i count : ℕ) → i < count
    → is_entered entry (program_header bytes i) ≡ false
    → find (is_entered entry) (program_headers_from bytes i (count - i))
    ≡ find (is_entered entry) (program_headers_from bytes (i + 1) (count - (i + 1)))
find_behind bytes entry i count within entered =
    rw (headers_more bytes i count within, entered) refl

-- a program header that is not loadable gives no segment
pub skips : (bytes : List ℕ) (front all : List Segment) (i count : ℕ) → i < count
    → is_loadable (program_header bytes i) ≡ false
    → front ++ segments_of (program_headers_from bytes i (count - i)) ≡ all
    → front ++ segments_of (program_headers_from bytes (i + 1) (count - (i + 1))) ≡ all
skips bytes front all i count within loadable so_far =
    let one : front ++ segments_of (program_headers_from bytes i (count - i))
    ≡ front ++ segments_of (program_headers_from bytes (i + 1) (count - (i + 1))) =
    rw (headers_more bytes i count within, loadable) refl in
    sym one ∙ so_far

-- a loadable one gives its segment
pub takes : (bytes : List ℕ) (front all : List Segment) (i count : ℕ) → i < count
    → is_loadable (program_header bytes i) ≡ true
    → front ++ segments_of (program_headers_from bytes i (count - i)) ≡ all
    → (front ++ segment_by_header (program_header bytes i) ∷ [])
    ++ segments_of (program_headers_from bytes (i + 1) (count - (i + 1))) ≡ all
takes bytes front all i count within loadable so_far =
    let segment = segment_by_header (program_header bytes i) in
    let rest = segments_of (program_headers_from bytes (i + 1) (count - (i + 1))) in
    let one : front ++ segments_of (program_headers_from bytes i (count - i)) ≡ front
    ++ (segment ∷ rest) =
    rw (headers_more bytes i count within, loadable) refl in
    append_assoc front (segment ∷ []) rest ∙ sym one ∙ so_far

-- a sound one that holds the entry has its physical address below 2^32
pub record IsEnteredBelow (entry : ℕ) (header : ProgramHeader) : Type 0 where
  pub above : header.p_vaddr ≤ entry
  pub below : entry - header.p_vaddr + header.p_paddr < 2 ^ 32

pub entered_below : (size i entry : ℕ) (header : ProgramHeader) → program_fault size i header ≡ None
    → is_entered entry header ≡ true → IsEnteredBelow entry header
unfolding program_fault
entered_below size i entry header sound entered =
    record { above = grind (arith, nat_tests); below = grind (arith, nat_tests) }
