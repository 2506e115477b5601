-- The entries of a memory map, written as bytes, are read as the regions that they were made of.
use Rattle.std.proofs.Common.{◌≡◌, ◌≤◌, ◌<◌, ◌+◌, ◌-◌, ◌*◌, ◌/◌, ◌%◌, ◌^◌, ℕ, zero, suc, true}
use Rattle.std.proofs.Common.{false, not, ◌&&◌, nat_lt, nat_le, List, [], ◌∷◌, ◌++◌, length}
use Rattle.std.proofs.Common.{slice_index, drop, arith, rules, refl, sym, ap, subst, ◌∙◌, ⊎_elim}
use Rattle.std.specs.Prelude.{All}
use Rattle.std.specs.List.{flat_map}
use Rattle.std.proofs.lemmas.Bool.{cases_eq}
use Rattle.std.proofs.lemmas.List.{places, length-append, append-nil}
use Rattle.byteorder.specs.Endian.{little_from}
use Rattle.byteorder.specs.Numbers.{little_number-reads_back}
use Rattle.bl_mem.specs.LittleEndian.{number_at, u32_at, u64_at}
use Rattle.bl_map.specs.declared.region.Region.{Region}
use Rattle.bl_map.specs.declared.kind.Kind.{Kind}
use Rattle.bl_map.specs.declared.kind.Kind.TheVariants.{Usable, Reserved, Acpi, Nvs, Bad}
use Rattle.bl_map.specs.Kinds.{kind_number}
use Rattle.bl_map.specs.NormalMap.{region_end}
use Rattle.bl_params.specs.BootParams.{e820_entry_bytes}
use Rattle.bl_params.specs.FieldBytes.{number_bytes}
use Rattle.bl_params.specs.BootParamsForm.{breaks_e820_entry}
use Rattle.bl_params.specs.Reading.{IsE820Entry, AreE820Entries}
use Rattle.bl_params.proofs.OverLemmas.{earlier, later}
use Rattle.bl_params.proofs.EntryLemmas.{length-number_bytes, length-entry_bytes}
use Rattle.bl_params.proofs.FormLemmas.{lt_no, or_false, quiet_place}

-- ---- numbers in bytes

drop_index : (xs : List ℕ) (at i : ℕ) → slice_index (drop at xs) i ≡ slice_index xs (at + i)
drop_index xs at i = search (rules, places)

from_same : (i n : ℕ) (xs ys : List ℕ)
    → ((j : ℕ) → i ≤ j → j < i + n → slice_index xs j ≡ slice_index ys j)
    → little_from i n xs ≡ little_from i n ys
from_same i zero xs ys same = refl
from_same i (suc n) xs ys same =
    let first = same i (omega arith) (omega arith) in
    let rest = from_same (suc i) n xs ys (λ j from below. same j (omega arith) (omega arith)) in
    rw (first, rest) refl

-- the same bytes are the same number
pub number_same : (n at : ℕ) (xs ys : List ℕ)
    → ((k : ℕ) → at ≤ k → k < at + n → slice_index xs k ≡ slice_index ys k)
    → number_at n xs at ≡ number_at n ys at
unfolding number_at
number_same n at xs ys same =
    from_same 0 n (drop at xs) (drop at ys)
    (λ j from below.
    drop_index xs at j ∙ same (at + j) (omega arith) (omega arith)
    ∙ sym (drop_index ys at j))

-- a number's bytes are that number
pub number_told : (n at x : ℕ) (bytes : List ℕ) → x < 256 ^ n
    → ((k : ℕ) → at ≤ k → k < at + n
    → slice_index bytes k ≡ slice_index (number_bytes n x) (k - at)) → number_at n bytes at ≡ x
unfolding number_at number_bytes
number_told n at x bytes fits told =
    from_same 0 n (drop at bytes) (number_bytes n x) (λ j from below.
    let place : at + j - at ≡ j = omega arith in
    drop_index bytes at j ∙ told (at + j) (omega arith) (omega arith)
    ∙ ap (λ (i : ℕ). slice_index (number_bytes n x) i) place)
    ∙ rw append-nil at (little_number-reads_back n x [] fits)

-- ---- entries

abbrev AllLow : List Region → Type 0
AllLow [] = Unit {0}
AllLow (run ∷ runs) = (region_end run ≤ 2 ^ 52) × AllLow runs

pub all_low : (runs : List Region) → All (λ run. region_end run ≤ 2 ^ 52) runs → AllLow runs
all_low [] all = tt
all_low (run ∷ runs) all =
    (all 0 run (omega arith), all_low runs (λ k d within. all (suc k) d (omega arith)))

kind_small : (kind : Kind) → kind_number kind < 256 ^ 4
kind_small Usable = omega arith
kind_small Reserved = omega arith
kind_small Acpi = omega arith
kind_small Nvs = omega arith
kind_small Bad = omega arith

kind_allowed : (kind : Kind) → (nat_le 1 (kind_number kind) && nat_le (kind_number kind) 5) ≡ true
kind_allowed Usable = refl
kind_allowed Reserved = refl
kind_allowed Acpi = refl
kind_allowed Nvs = refl
kind_allowed Bad = refl

-- these bytes stand there
abbrev pub Stand : List ℕ → ℕ → List ℕ → Type 0
Stand bytes at part =
    (k : ℕ) → at ≤ k → k < at + length part → slice_index bytes k ≡ slice_index part (k - at)

stand_first : (bytes : List ℕ) (at : ℕ) (first second : List ℕ) → Stand bytes at (first ++ second)
    → Stand bytes at first
stand_first bytes at first second stand = λ k from below.
    let len = length-append first second in
    stand k from (omega arith) ∙ earlier first second (k - at) (omega arith)

stand_second : (bytes : List ℕ) (at mid : ℕ) (first second : List ℕ) → mid ≡ at + length first
    → Stand bytes at (first ++ second) → Stand bytes mid second
stand_second bytes at mid first second e stand = λ k from below.
    let len = length-append first second in
    stand k (omega arith) (omega arith) ∙ later first second at mid k e from

pub stand_number : (n at x : ℕ) (bytes : List ℕ) → x < 256 ^ n → Stand bytes at (number_bytes n x)
    → number_at n bytes at ≡ x
stand_number n at x bytes fits stand =
    let len = length-number_bytes n x in
    number_told n at x bytes fits (λ k from below. stand k from (omega arith))

entry_told : (bytes : List ℕ) (at : ℕ) (run : Region) → region_end run ≤ 2 ^ 52
    → Stand bytes at (e820_entry_bytes run) → IsE820Entry bytes at run
entry_told bytes at run low stand =
    let base_len = length-number_bytes 8 run.base in
    let size_len = length-number_bytes 8 run.length in
    let behind =
    stand_second bytes at (at + 8) (number_bytes 8 run.base)
    (number_bytes 8 run.length ++ number_bytes 4 (kind_number run.kind)) (omega arith)
    stand in
    record {
      base =
          sym
          (stand_number 8 at run.base bytes (omega arith)
          (stand_first bytes at (number_bytes 8 run.base)
          (number_bytes 8 run.length ++ number_bytes 4 (kind_number run.kind)) stand));
      size =
          sym
          (stand_number 8 (at + 8) run.length bytes (omega arith)
          (stand_first bytes (at + 8) (number_bytes 8 run.length)
          (number_bytes 4 (kind_number run.kind)) behind));
      kind = sym (stand_number 4 (at + 16) (kind_number run.kind) bytes (kind_small run.kind)
          (stand_second bytes (at + 8) (at + 16) (number_bytes 8 run.length)
          (number_bytes 4 (kind_number run.kind)) (omega arith) behind));
    }

pub entries_told : (bytes : List ℕ) (at : ℕ) (runs : List Region) → AllLow runs
    → Stand bytes at (flat_map e820_entry_bytes runs) → AreE820Entries bytes at runs
entries_told bytes at [] low stand = tt
entries_told bytes at (run ∷ runs) low stand =
    let one = length-entry_bytes run in (
      entry_told bytes at run low.0
          (stand_first bytes at (e820_entry_bytes run) (flat_map e820_entry_bytes runs) stand),
      entries_told bytes (at + 20) runs low.1
          (stand_second bytes at (at + 20) (e820_entry_bytes run) (flat_map e820_entry_bytes runs)
          (omega arith) stand),
    )

-- one of them
nth : (bytes : List ℕ) (at : ℕ) (runs : List Region) (j : ℕ) → j < length runs → AllLow runs
    → AreE820Entries bytes at runs
    → (run : Region) × (IsE820Entry bytes (at + 20 * j) run × (region_end run ≤ 2 ^ 52))
nth bytes at [] j within low are = absurd (omega arith)
nth bytes at (run ∷ runs) zero within low are =
    let here : at ≡ at + 20 * zero = omega arith in
    (run, (subst (λ (n : ℕ). IsE820Entry bytes n run) here are.0, low.0))
nth bytes at (run ∷ runs) (suc j) within low are =
    let found = nth bytes (at + 20) runs j (omega arith) low.1 are.1 in
    let there : at + 20 + 20 * j ≡ at + 20 * suc j = omega arith in
    (found.0, (subst (λ (n : ℕ). IsE820Entry bytes n found.0) there found.1.0, found.1.1))

first_sound : (bytes : List ℕ) (place k : ℕ) → place ≡ 0
    → nat_lt (2 ^ 52) (u64_at bytes k + u64_at bytes (k + 8)) ≡ false
    → breaks_e820_entry bytes place k ≡ false
first_sound bytes place k e low =
    subst (λ (n : ℕ). breaks_e820_entry bytes n k ≡ false) (sym e)
    (or_false (nat_lt (2 ^ 52) (u64_at bytes k + u64_at bytes (k + 8))) ∙ low)

last_sound : (bytes : List ℕ) (place k : ℕ) → place ≡ 16
    → (nat_le 1 (u32_at bytes k) && nat_le (u32_at bytes k) 5) ≡ true
    → breaks_e820_entry bytes place k ≡ false
last_sound bytes place k e allowed =
    subst (λ (n : ℕ). breaks_e820_entry bytes n k ≡ false) (sym e) (ap not allowed)

-- entries with allowed kinds and low ends break nothing
pub entries_sound : (bytes : List ℕ) (runs : List Region) (k : ℕ) → AllLow runs
    → AreE820Entries bytes 0x2D0 runs → 0x2D0 ≤ k → k < 0x2D0 + 20 * length runs
    → breaks_e820_entry bytes ((k - 0x2D0) % 20) k ≡ false
entries_sound bytes runs k low are from below =
    let found = nth bytes 0x2D0 runs ((k - 0x2D0) / 20) (omega arith) low are in
    ⊎_elim
    (λ first.
    let here : 0x2D0 + 20 * ((k - 0x2D0) / 20) ≡ k = omega arith in
    let entry : IsE820Entry bytes k found.0 =
    subst (λ (n : ℕ). IsE820Entry bytes n found.0) here found.1.0 in
    let base = entry.base in
    let size = entry.size in
    first_sound bytes ((k - 0x2D0) % 20) k first
    (lt_no (2 ^ 52) (u64_at bytes k + u64_at bytes (k + 8)) (omega (arith, found.1.1))))
    (λ other. ⊎_elim
    (λ last.
    let here : 0x2D0 + 20 * ((k - 0x2D0) / 20) + 16 ≡ k = omega arith in
    let kind : kind_number found.0.kind ≡ u32_at bytes k =
    subst (λ (n : ℕ). kind_number found.0.kind ≡ u32_at bytes n) here found.1.0.kind in
    last_sound bytes ((k - 0x2D0) % 20) k last
    (subst (λ (n : ℕ). (nat_le 1 n && nat_le n 5) ≡ true) kind (kind_allowed found.0.kind)))
    (λ neither. quiet_place bytes ((k - 0x2D0) % 20) k other neither)
    (cases_eq ((k - 0x2D0) % 20) 16))
    (cases_eq ((k - 0x2D0) % 20) 0)
