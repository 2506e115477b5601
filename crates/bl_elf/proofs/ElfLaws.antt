-- What follows from the definition of an executable alone: its segments can be loaded, and a file
-- has one reading or one first fault.
use Rattle.std.proofs.Common.{◌≡◌, ◌<◌, ◌≤◌, ℕ, List, length, Some, All, arith, refl, sym, subst}
use Rattle.std.proofs.Common.{◌∙◌, ap₂, inl, inr}
use Rattle.std.specs.Prelude.{AllPairs, Option}
use Rattle.std.proofs.lemmas.Option.{same_Some}
use Rattle.bl_mem.specs.declared.segment.Segment.{Segment}
use Rattle.bl_elf.specs.declared.fault.ElfFault.{ElfFault}
use Rattle.bl_elf.specs.declared.fault.ElfFault.TheVariants.{NotElf, BadElf, SegmentCut}
use Rattle.bl_elf.specs.declared.fault.ElfFault.TheVariants.{AddressTooHigh, SegmentsOverlap}
use Rattle.bl_elf.specs.declared.fault.ElfFault.TheVariants.{NoEntry, NoMemory}
use Rattle.bl_elf.specs.Header.{header_of, header_fault}
use Rattle.bl_elf.specs.ProgramHeaders.{program_fault_at, program_header, segment_by_header}
use Rattle.bl_elf.specs.Elf.{ElfFacts, IsElf, IsProgramHeaderIndex, IsFirstFaulty, IsFirstOverlap}
use Rattle.bl_elf.specs.Elf.{HasFirstElfFault}
use Rattle.bl_elf.specs.Elf.{IsSoundSegment, AreApartSegments, IsAddressOf}
use Rattle.bl_elf.proofs.HeaderLemmas.{few_program_headers}
use Rattle.bl_elf.proofs.SegmentLemmas.{few_segments, all_segments, apart_segments}
use Rattle.bl_elf.proofs.SegmentLemmas.{loadable_segment, common_address}

-- there are at most 128 segments
pub elf_few : (bytes : List ℕ) (facts : ElfFacts) → IsElf bytes facts → length facts.segments ≤ 128
elf_few bytes facts elf =
    let few = few_program_headers bytes elf.header in
    let fewer = few_segments bytes 0 (header_of bytes).e_phnum in
    rw elf.segments (omega arith)

-- each of them can be loaded
pub elf_loadable : (bytes : List ℕ) (facts : ElfFacts) → IsElf bytes facts
    → All (IsSoundSegment bytes) facts.segments
elf_loadable bytes facts elf =
    subst (λ (xs : List Segment). All (IsSoundSegment bytes) xs) (sym elf.segments)
    (all_segments (IsSoundSegment bytes) bytes 0 (header_of bytes).e_phnum
    (λ k low high loadable.
    loadable_segment bytes k (program_header bytes k) (elf.sound k (omega arith)) loadable))

-- and no two share a byte
pub elf_apart : (bytes : List ℕ) (facts : ElfFacts) → IsElf bytes facts
    → AllPairs AreApartSegments facts.segments
elf_apart bytes facts elf =
    subst (λ (xs : List Segment). AllPairs AreApartSegments xs) (sym elf.segments)
    (apart_segments bytes 0 (header_of bytes).e_phnum
    (λ j k low above high. elf.apart j (omega arith) k above (omega arith)))

-- where a first fault comes from
data Origin (bytes : List ℕ) (fault : ElfFault) : Type 0 where
  of_header : header_fault bytes ≡ Some fault → Origin bytes fault
  of_program : (i : ℕ) → IsFirstFaulty bytes i fault → Origin bytes fault
  of_overlap : (i j : ℕ) → IsFirstOverlap bytes i j → fault ≡ SegmentsOverlap i j
      → Origin bytes fault

origin : (bytes : List ℕ) (fault : ElfFault) → ¬ (fault ≡ NoMemory) → HasFirstElfFault bytes fault
    → Origin bytes fault
origin bytes NotElf other has = of_header has
origin bytes BadElf other has =
    elim has [ inl e ↦ of_header e | inr (i, first) ↦ of_program i first ]
origin bytes (SegmentCut i) other has = of_program i has
origin bytes (AddressTooHigh i) other has = of_program i has
origin bytes (SegmentsOverlap i j) other has = of_overlap i j has refl
origin bytes NoEntry other has = absurd has
origin bytes NoMemory other has = absurd (other refl)

-- the first with a fault is one
same_index : (bytes : List ℕ) (i k : ℕ) (f g : ElfFault) → IsFirstFaulty bytes i f
    → IsFirstFaulty bytes k g → i ≡ k
same_index bytes i k f g a b =
    let not_below : ¬ (i < k) = λ lt. let none = b.sound_before i lt in let some = a.faulty in cc in
    let not_above : ¬ (k < i) = λ lt. let none = a.sound_before k lt in let some = b.faulty in cc in
    omega arith

one_program_fault : (bytes : List ℕ) (i k : ℕ) (f g : ElfFault) → IsFirstFaulty bytes i f
    → IsFirstFaulty bytes k g → f ≡ g
one_program_fault bytes i k f g a b =
    let same = same_index bytes i k f g a b in
    let first = a.faulty in
    let second = b.faulty in
    let one : program_fault_at bytes i ≡ Some g = rw same second in
    same_Some f g (sym first ∙ one)

same_first : (bytes : List ℕ) (i j k l : ℕ) → IsFirstOverlap bytes i j → IsFirstOverlap bytes k l
    → i ≡ k
same_first bytes i j k l a b =
    let not_below : ¬ (i < k) = λ lt. let apart = b.least_first i lt j a.above a.within in
    let share = a.share in cc in
    let not_above : ¬ (k < i) = λ lt. let apart = a.least_first k lt l b.above b.within in
    let share = b.share in cc in
    omega arith

same_second : (bytes : List ℕ) (i j l : ℕ) → IsFirstOverlap bytes i j → IsFirstOverlap bytes i l
    → j ≡ l
same_second bytes i j l a b =
    let not_below : ¬ (j < l) = λ lt. let apart = b.least_second j a.above lt in
    let share = a.share in cc in
    let not_above : ¬ (l < j) = λ lt. let apart = a.least_second l b.above lt in
    let share = b.share in cc in
    omega arith

one_overlap : (bytes : List ℕ) (i j k l : ℕ) → IsFirstOverlap bytes i j → IsFirstOverlap bytes k l
    → SegmentsOverlap i j ≡ SegmentsOverlap k l
one_overlap bytes i j k l a b =
    let first = same_first bytes i j k l a b in
    let again : IsFirstOverlap bytes i l = rw first b in
    let second = same_second bytes i j l a again in
    cc

one_origin : (bytes : List ℕ) (f g : ElfFault) → Origin bytes f → Origin bytes g → f ≡ g
one_origin bytes f g (of_header a) (of_header b) = same_Some f g (sym a ∙ b)
one_origin bytes f g (of_header a) (of_program k b) = let none = b.header in absurd cc
one_origin bytes f g (of_header a) (of_overlap k l b e) = let none = b.header in absurd cc
one_origin bytes f g (of_program i a) (of_header b) = let none = a.header in absurd cc
one_origin bytes f g (of_program i a) (of_program k b) = one_program_fault bytes i k f g a b
one_origin bytes f g (of_program i a) (of_overlap k l b e) =
    let none = b.sound i a.within in let some = a.faulty in absurd cc
one_origin bytes f g (of_overlap i j a d) (of_header b) = let none = a.header in absurd cc
one_origin bytes f g (of_overlap i j a d) (of_program k b) =
    let none = a.sound k b.within in let some = b.faulty in absurd cc
one_origin bytes f g (of_overlap i j a d) (of_overlap k l b e) =
    d ∙ one_overlap bytes i j k l a b ∙ sym e

-- a file has one reading
pub elf_is_determined : (bytes : List ℕ) (f g : ElfFacts) → IsElf bytes f → IsElf bytes g → f ≡ g
elf_is_determined bytes f g a b =
    ap₂
    (λ (s : List Segment) (e : Option ℕ).
    let facts : ElfFacts = record { segments = s; entry = e } in facts)
    (a.segments ∙ sym b.segments) (a.entry ∙ sym b.entry)

-- or one first fault
pub fault_is_determined : (bytes : List ℕ) (f g : ElfFault) → ¬ (f ≡ NoMemory) → ¬ (g ≡ NoMemory)
    → HasFirstElfFault bytes f → HasFirstElfFault bytes g → f ≡ g
fault_is_determined bytes f g p q a b =
    one_origin bytes f g (origin bytes f p a) (origin bytes g q b)

not_both : (bytes : List ℕ) (facts : ElfFacts) (fault : ElfFault) → IsElf bytes facts
    → Origin bytes fault → ⊥
not_both bytes facts fault elf (of_header a) = let none = elf.header in cc
not_both bytes facts fault elf (of_program i a) =
    let none = elf.sound i a.within in let some = a.faulty in cc
not_both bytes facts fault elf (of_overlap i j a e) =
    let within : IsProgramHeaderIndex bytes i = let above = a.above in let below =
    a.within in omega arith in
    let apart = elf.apart i within j a.above a.within in
    let share = a.share in
    cc

-- and never both
pub elf_not_fault : (bytes : List ℕ) (facts : ElfFacts) (fault : ElfFault) → ¬ (fault ≡ NoMemory)
    → IsElf bytes facts → HasFirstElfFault bytes fault → ⊥
elf_not_fault bytes facts fault other elf has =
    not_both bytes facts fault elf (origin bytes fault other has)

-- an overlap is a byte that both segments hold
pub overlap_is_shared : (bytes : List ℕ) (i j : ℕ) → HasFirstElfFault bytes (SegmentsOverlap i j)
    → (a : ℕ) × IsAddressOf (segment_by_header (program_header bytes i)) a
    × IsAddressOf (segment_by_header (program_header bytes j)) a
overlap_is_shared bytes i j has =
    common_address (program_header bytes i) (program_header bytes j) has.share
