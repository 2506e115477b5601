-- Each file is an executable or has a first fault that is not want of memory.
use Rattle.std.proofs.Common.{◌≡◌, ◌<◌, ◌⊎◌, inl, inr, ℕ, List, length, true, Option, Some, None}
use Rattle.std.proofs.Common.{refl, arith}
use Rattle.std.proofs.lemmas.Bool.{cases_lt, cases_Bool, false_from_ne_true}
use Rattle.bl_mem.proofs.LeastLaws.{SomeBelow, least_below}
use Rattle.bl_elf.specs.declared.fault.ElfFault.{ElfFault}
use Rattle.bl_elf.specs.declared.fault.ElfFault.TheVariants.{SegmentsOverlap, NoMemory}
use Rattle.bl_elf.specs.Header.{header_of, header_fault}
use Rattle.bl_elf.specs.ProgramHeaders.{program_fault_at, program_header, program_headers}
use Rattle.bl_elf.specs.ProgramHeaders.{segments_of}
use Rattle.bl_elf.specs.ProgramHeaders.{segments_overlap_at}
use Rattle.bl_elf.specs.Elf.{ElfFacts, IsElf, IsProgramHeaderIndex, OverlapsNoLater, IsFirstFaulty}
use Rattle.bl_elf.specs.Elf.{IsFirstOverlap}
use Rattle.bl_elf.specs.Elf.{HasFirstElfFault, physical_entry}
use Rattle.bl_elf.proofs.FaultLemmas.{header_kinds, program_kinds, header_first, program_first}

-- the file has a first fault
abbrev IsRefused : List ℕ → Type 0
IsRefused bytes = (fault : ElfFault) × ¬ (fault ≡ NoMemory) × HasFirstElfFault bytes fault

-- program header i has a fault
abbrev IsFaulty : List ℕ → ℕ → Type 0
IsFaulty bytes i = (fault : ElfFault) × (program_fault_at bytes i ≡ Some fault)

-- program headers i and j, a later one, share a physical byte
abbrev Share : List ℕ → ℕ → ℕ → Type 0
Share bytes i j = (i < j) × (segments_overlap_at bytes i j ≡ true)

-- the least program header after the i-th that shares a physical byte with it
abbrev SharesOne : List ℕ → ℕ → Type 0
SharesOne bytes i = SomeBelow (Share bytes i) (header_of bytes).e_phnum

some_or_none : (fault : Option ElfFault)
    → ((f : ElfFault) × (fault ≡ Some f)) ⊎ (((f : ElfFault) × (fault ≡ Some f)) → ⊥)
some_or_none None = inr (λ some. let bad = some.1 in cc)
some_or_none (Some f) = inl (f, refl)

none_left : (fault : Option ElfFault) → (((f : ElfFault) × (fault ≡ Some f)) → ⊥) → fault ≡ None
none_left None none = refl
none_left (Some f) none = absurd (none (f, refl))

share_or_not : (bytes : List ℕ) (i j : ℕ) → Share bytes i j ⊎ (Share bytes i j → ⊥)
share_or_not bytes i j =
    elim (cases_lt i j) [
      | inl behind ↦ elim (cases_Bool (segments_overlap_at bytes i j)) [
        | inl share ↦ inl (behind, share)
        | inr apart ↦ inr (λ both. let share = both.1 in cc)
      ]
      | inr before ↦ inr (λ both. let behind = both.0 in absurd (omega arith))
    ]

one_or_not : (bytes : List ℕ) (i : ℕ) → SharesOne bytes i ⊎ (SharesOne bytes i → ⊥)
one_or_not bytes i =
    elim (least_below (Share bytes i) (share_or_not bytes i) (header_of bytes).e_phnum) [
      | inl none ↦ inr (λ one. none one.0 one.1 one.2.holds)
      | inr one ↦ inl one
    ]

shares_none : (bytes : List ℕ) (i : ℕ) → (SharesOne bytes i → ⊥) → OverlapsNoLater bytes i
shares_none bytes i not_one j behind within =
    false_from_ne_true (segments_overlap_at bytes i j)
    (λ share.
    elim (least_below (Share bytes i) (share_or_not bytes i) (header_of bytes).e_phnum) [
      | inl none ↦ none j within (behind, share)
      | inr one ↦ not_one one
    ])

header_refused : (bytes : List ℕ) (fault : ElfFault) → header_fault bytes ≡ Some fault
    → IsRefused bytes
header_refused bytes fault e = (
  fault,
  (λ memory. elim (header_kinds bytes fault e) [ inl not_elf ↦ cc | inr bad_elf ↦ cc ]),
  header_first bytes fault e,
)

program_refused : (bytes : List ℕ) (i : ℕ) (fault : ElfFault) → IsFirstFaulty bytes i fault
    → IsRefused bytes
program_refused bytes i fault first = (
  fault,
  (λ memory.
      elim (program_kinds (length bytes) i (program_header bytes i) fault first.faulty)
      [ inl bad_elf ↦ cc | inr (inl cut) ↦ cc | inr (inr high) ↦ cc ]),
  program_first bytes i fault first,
)

overlap_refused : (bytes : List ℕ) (i j : ℕ) → IsFirstOverlap bytes i j → IsRefused bytes
overlap_refused bytes i j first = (SegmentsOverlap i j, (λ memory. cc), first)

-- where the header and each program header are sound
after_programs : (bytes : List ℕ) → header_fault bytes ≡ None
    → ((i : ℕ) → IsProgramHeaderIndex bytes i → program_fault_at bytes i ≡ None)
    → ((facts : ElfFacts) × IsElf bytes facts) ⊎ IsRefused bytes
after_programs bytes header sound =
    elim (least_below (SharesOne bytes) (one_or_not bytes) (header_of bytes).e_phnum) [
      | inl none ↦ inl (
        record { segments = segments_of (program_headers bytes); entry = physical_entry bytes },
        record {
          header = header;
          sound = sound;
          apart = λ i within. shares_none bytes i (none i within);
          segments = refl;
          entry = refl;
        },
      )
      | inr (i, within, least) ↦
          let one = least.holds in inr (overlap_refused bytes i one.0 record {
            header = header;
            sound = sound;
            above = one.2.holds.0;
            within = one.1;
            share = one.2.holds.1;
            least_first =
                λ k below. shares_none bytes k (λ other. omega (arith, least.least k other));
            least_second =
                λ k behind below.
                false_from_ne_true (segments_overlap_at bytes i k)
                (λ share. omega (arith, one.2.least k (behind, share)));
          })
    ]

-- where the header is sound
after_header : (bytes : List ℕ) → header_fault bytes ≡ None
    → ((facts : ElfFacts) × IsElf bytes facts) ⊎ IsRefused bytes
after_header bytes header =
    elim (least_below (IsFaulty bytes) (λ i. some_or_none (program_fault_at bytes i))
    (header_of bytes).e_phnum) [
      | inl none ↦
          after_programs bytes header (λ i within. none_left (program_fault_at bytes i)
          (none i within))
      | inr (i, within, least) ↦ inr (program_refused bytes i least.holds.0 record {
        header = header;
        within = within;
        faulty = least.holds.1;
        sound_before =
            λ k below. none_left (program_fault_at bytes k) (λ other. omega
            (arith, least.least k other));
      })
    ]

pub elf_or_fault : (bytes : List ℕ)
    → ((facts : ElfFacts) × IsElf bytes facts)
    ⊎ ((fault : ElfFault) × ¬ (fault ≡ NoMemory) × HasFirstElfFault bytes fault)
elf_or_fault bytes =
    elim (some_or_none (header_fault bytes)) [
      | inl (fault, e) ↦ inr (header_refused bytes fault e)
      | inr none ↦ after_header bytes (none_left (header_fault bytes) none)
    ]
