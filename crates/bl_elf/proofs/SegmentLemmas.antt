-- What holds of the segments of program headers without a fault.
use Rattle.std.proofs.Common.{◌≡◌, ◌<◌, ◌≤◌, ◌+◌, ℕ, zero, suc, Bool, true, false, None, List, ◌∷◌}
use Rattle.std.proofs.Common.{length, All, max, arith, refl, sym, subst}
use Rattle.std.specs.Prelude.{AllPairs}
use Rattle.std.proofs.lemmas.Bool.Decides.{nat_tests}
use Rattle.std.proofs.lemmas.List.Elements.{All-cons, All-nil}
use Rattle.std.proofs.lemmas.List.Kept.{AllPairs-cons}
use Rattle.bl_mem.specs.declared.segment.Segment.{Segment}
use Rattle.bl_elf.specs.declared.program_headers.ProgramHeader.{ProgramHeader}
use Rattle.bl_elf.specs.ProgramHeaders.{program_header, program_headers_from, is_loadable}
use Rattle.bl_elf.specs.ProgramHeaders.{segment_by_header}
use Rattle.bl_elf.specs.ProgramHeaders.{segments_of}
use Rattle.bl_elf.specs.ProgramHeaders.{program_fault, segments_overlap, segments_overlap_at}
use Rattle.bl_elf.specs.Elf.{IsSoundSegment, AreApartSegments, IsAddressOf}

-- a loadable program header gives its segment
loaded : (header : ProgramHeader) (rest : List ProgramHeader) → is_loadable header ≡ true
    → segments_of (header ∷ rest) ≡ segment_by_header header ∷ segments_of rest
loaded header rest e = rw e refl

-- any other gives none
skipped : (header : ProgramHeader) (rest : List ProgramHeader) → is_loadable header ≡ false
    → segments_of (header ∷ rest) ≡ segments_of rest
skipped header rest e = rw e refl

few_more : (header : ProgramHeader) (rest : List ProgramHeader) (n : ℕ) (b : Bool)
    → is_loadable header ≡ b → length (segments_of rest) ≤ n
    → length (segments_of (header ∷ rest)) ≤ suc n
few_more header rest n true e few = rw (loaded header rest e) (omega arith)
few_more header rest n false e few = rw (skipped header rest e) (omega arith)

-- there are at most as many segments as program headers
pub few_segments : (bytes : List ℕ) (i n : ℕ)
    → length (segments_of (program_headers_from bytes i n)) ≤ n
few_segments bytes i zero = omega arith
few_segments bytes i (suc n) =
    few_more (program_header bytes i) (program_headers_from bytes (i + 1) n) n
    (is_loadable (program_header bytes i)) refl (few_segments bytes (i + 1) n)

all_more : (P : Segment → Type 0) (header : ProgramHeader) (rest : List ProgramHeader) (b : Bool)
    → is_loadable header ≡ b → (is_loadable header ≡ true → P (segment_by_header header))
    → All P (segments_of rest) → All P (segments_of (header ∷ rest))
all_more P header rest true e one all =
    subst (λ (xs : List Segment). All P xs) (sym (loaded header rest e))
    (All-cons P _ _ (one e) all)
all_more P header rest false e one all =
    subst (λ (xs : List Segment). All P xs) (sym (skipped header rest e)) all

-- what holds of the segment of each loadable one of n program headers from the i-th on
pub all_segments : (P : Segment → Type 0) (bytes : List ℕ) (i n : ℕ)
    → ((k : ℕ) → i ≤ k → k < i + n → is_loadable (program_header bytes k) ≡ true
    → P (segment_by_header (program_header bytes k)))
    → All P (segments_of (program_headers_from bytes i n))
all_segments P bytes i zero each = All-nil P
all_segments P bytes i (suc n) each =
    all_more P (program_header bytes i) (program_headers_from bytes (i + 1) n)
    (is_loadable (program_header bytes i)) refl (each i (omega arith) (omega arith))
    (all_segments P bytes (i + 1) n (λ k low high. each k (omega arith) (omega arith)))

-- two that share no byte have segments apart
apart_from : (p q : ProgramHeader) → is_loadable p ≡ true → is_loadable q ≡ true
    → segments_overlap p q ≡ false → AreApartSegments (segment_by_header p) (segment_by_header q)
unfolding segments_overlap
apart_from p q first second apart = λ a in_p in_q. grind (arith, nat_tests)

-- two that share a byte have an address in common
pub common_address : (p q : ProgramHeader) → segments_overlap p q ≡ true
    → (a : ℕ) × IsAddressOf (segment_by_header p) a × IsAddressOf (segment_by_header q) a
unfolding segments_overlap
common_address p q share = (
  max p.p_paddr q.p_paddr,
  (grind (arith, nat_tests), grind (arith, nat_tests)),
  (grind (arith, nat_tests), grind (arith, nat_tests)),
)

pairs_more : (R : Segment → Segment → Type 0) (header : ProgramHeader) (rest : List ProgramHeader)
    (b : Bool) → is_loadable header ≡ b
    → (is_loadable header ≡ true → All (R (segment_by_header header)) (segments_of rest))
    → AllPairs R (segments_of rest) → AllPairs R (segments_of (header ∷ rest))
pairs_more R header rest true e one all =
    subst (λ (xs : List Segment). AllPairs R xs) (sym (loaded header rest e))
    (AllPairs-cons R _ _ (one e) all)
pairs_more R header rest false e one all =
    subst (λ (xs : List Segment). AllPairs R xs) (sym (skipped header rest e)) all

-- no two segments share a byte, where no two program headers do
pub apart_segments : (bytes : List ℕ) (i n : ℕ)
    → ((j k : ℕ) → i ≤ j → j < k → k < i + n → segments_overlap_at bytes j k ≡ false)
    → AllPairs AreApartSegments (segments_of (program_headers_from bytes i n))
apart_segments bytes i zero apart = λ j k d above within. absurd (omega arith)
apart_segments bytes i (suc n) apart =
    pairs_more AreApartSegments (program_header bytes i) (program_headers_from bytes (i + 1) n)
    (is_loadable (program_header bytes i)) refl
    (λ first. all_segments (AreApartSegments (segment_by_header (program_header bytes i))) bytes
    (i + 1) n
    (λ k low high second.
    apart_from (program_header bytes i) (program_header bytes k) first second
    (apart i k (omega arith) (omega arith) (omega arith))))
    (apart_segments bytes (i + 1) n
    (λ j k low above high. apart j k (omega arith) above (omega arith)))

-- the segment of a loadable one without a fault
pub loadable_segment : (bytes : List ℕ) (i : ℕ) (header : ProgramHeader)
    → program_fault (length bytes) i header ≡ None → is_loadable header ≡ true
    → IsSoundSegment bytes (segment_by_header header)
unfolding program_fault
loadable_segment bytes i header sound loadable = record {
  filled = grind (arith, nat_tests);
  fits = grind (arith, nat_tests);
  in_file = λ some. grind (arith, nat_tests);
  low = grind (arith, nat_tests);
}
