-- A body that is spelled is read again.
use Rattle.std.proofs.Common.{◌≡◌, ◌≢◌, ◌<◌, ◌≤◌, ◌+◌, ◌-◌, ◌/◌, ◌%◌, ◌^◌, ℕ, true, false, Some}
use Rattle.std.proofs.Common.{List, [], ◌∷◌, ◌++◌, length, get_or, take, drop, lit<, arith, refl}
use Rattle.std.proofs.Common.{sym, ◌∙◌, append_assoc, length-append}
use Rattle.std.specs.Prelude.{nat_eq, nat_lt, All}
use Rattle.std.specs.List.{list_any, flat_map}
use Rattle.std.proofs.lemmas.Bool.Decides.{nat_tests}
use Rattle.std.proofs.lemmas.List.{take_at, drop_at, drop-drop}
use Rattle.std.proofs.lemmas.List.Elements.{All-weaker, All-head, All-tail}
use Rattle.std.proofs.lemmas.List.Folds.{list_any_none}
use Rattle.std.proofs.Math.Seq.{get_or-append_seam}
use Rattle.bl_map.specs.declared.kind.Kind.{Kind}
use Rattle.bl_map.specs.declared.kind.Kind.TheVariants.{Usable, Reserved, Acpi, Nvs, Bad}
use Rattle.bl_map.specs.declared.region.Region.{Region}
use Rattle.bl_map.specs.Kinds.{kind_number, kind_of}
use Rattle.bl_map.specs.NormalMap.{region_end}
use Rattle.bl_mbi.specs.InfoToWriteFacts.{ModuleInfo, IsModule, IsText}
use Rattle.bl_mem.specs.LittleEndian.{u32_bytes, u64_bytes}
use Rattle.bl_mbi.specs.Tags.{text_body, module_body, memory_body, run_bytes, map_body}
use Rattle.bl_mbi.specs.ReadingSteps.{first_u32, first_u64}
use Rattle.bl_mbi.specs.Bodies.{text_of_body, module_of, memory_of, run_of, runs_of, map_of}
use Rattle.bl_mbi.specs.Bodies.{load_base_of}
use Rattle.bl_mem.proofs.LittleEndianLaws.{length-u32_bytes}
use Rattle.bl_mbi.proofs.Sizes.{length-text_body, length-module_body, length-run_bytes}
use Rattle.bl_mbi.proofs.Sizes.{length-map_body}
use Rattle.bl_mbi.proofs.WordLaws.{word_front, word_alone, long_front, behind_word, behind_words}
use Rattle.bl_mbi.proofs.WordLaws.{behind_long}

no_zero : (text : List ℕ) → IsText text → list_any (λ c. nat_eq c 0) text ≡ false
no_zero text is =
    list_any_none (λ c. nat_eq c 0) text
    (All-weaker (λ c. (c ≢ 0) × (c < 256)) (λ c. nat_eq c 0 ≡ false)
    (λ c h. grind (arith, nat_tests)) text is)

pub text_again : (text : List ℕ) → IsText text → text_of_body (text_body text) ≡ Some text
unfolding text_of_body
text_again text is =
    let len = length-text_body text in
    let not_empty : nat_eq (length (text_body text)) 0 ≡ false = grind (arith, nat_tests) in
    let count : length (text_body text) - 1 ≡ length text = omega (arith, len) in
    let last : get_or (text ++ 0 ∷ []) (length text) 0 ≡ 0 = get_or-append_seam text 0 [] 0 in
    let front : take (length text) (text ++ 0 ∷ []) ≡ text =
    take_at text (0 ∷ []) (length text) refl in
    let none = no_zero text is in
    rw (not_empty, count, last, front, none) refl

pub module_again : (m : ModuleInfo) → IsModule m → module_of (module_body m) ≡ Some m
unfolding module_of
module_again m is =
    let body = module_body m in
    let len = length-module_body m in
    let start_fits : m.mod_start < 2 ^ 32 = omega (arith, is.forward, is.small) in
    let start : first_u32 body ≡ m.mod_start = word_front m.mod_start _ start_fits in
    let end : first_u32 (drop 4 body)
    ≡ m.mod_end = rw behind_word (word_front m.mod_end _ is.small) in
    let line : drop 8 body ≡ text_body m.line =
    behind_words m.mod_start m.mod_end (text_body m.line) in
    let not_short : nat_lt (length body) 8 ≡ false = grind (arith, nat_tests) in
    let forward : nat_lt m.mod_end m.mod_start ≡ false = grind (arith, nat_tests, is.forward) in
    rw (not_short, end, start, forward, line, text_again m.line is.line) refl

pub memory_again : (lower upper : ℕ) → lower ≤ 640 → upper < 2 ^ 32
    → memory_of (memory_body lower upper) ≡ Some (lower, upper)
unfolding memory_of
memory_again lower upper low fits =
    let body = memory_body lower upper in
    let len : length body ≡ 8 =
    omega (arith, length-append (u32_bytes lower) (u32_bytes upper), length-u32_bytes) in
    let first : first_u32 body ≡ lower = word_front lower _ (omega arith) in
    let second : first_u32 (drop 4 body) ≡ upper = rw behind_word (word_alone upper fits) in
    let whole : nat_eq (length body) 8 ≡ true = grind (arith, nat_tests) in
    let low_enough : nat_lt 640 lower ≡ false = grind (arith, nat_tests) in
    rw (whole, second, first, low_enough) refl

kind_again : (kind : Kind) → kind_of (kind_number kind) ≡ Some kind
unfolding kind_of
kind_again Usable = refl
kind_again Reserved = refl
kind_again Acpi = refl
kind_again Nvs = refl
kind_again Bad = refl

number_small : (kind : Kind) → kind_number kind < 2 ^ 32
number_small Usable = lit< tt
number_small Reserved = lit< tt
number_small Acpi = lit< tt
number_small Nvs = lit< tt
number_small Bad = lit< tt

run_again : (run : Region) (rest : List ℕ) → region_end run ≤ 2 ^ 52
    → run_of (run_bytes run ++ rest) ≡ Some run
unfolding run_of
run_again run rest low =
    let kind = kind_number run.kind in
    let bytes = run_bytes run ++ rest in
    let all : bytes
    ≡ u64_bytes run.base
    ++ (u64_bytes run.length ++ (u32_bytes kind ++ (u32_bytes 0 ++ rest))) =
    simp append_assoc in
    let behind_base : drop 8 bytes
    ≡ u64_bytes run.length ++ (u32_bytes kind ++ (u32_bytes 0 ++ rest)) =
    rw all (behind_long run.base _) in
    let behind_length : drop 16 bytes ≡ u32_bytes kind ++ (u32_bytes 0 ++ rest) =
    sym (drop-drop 8 8 bytes) ∙ rw behind_base (behind_long run.length _) in
    let behind_kind : drop 20 bytes ≡ u32_bytes 0 ++ rest =
    sym (drop-drop 4 16 bytes) ∙ rw behind_length (behind_word kind _) in
    let base : first_u64 bytes ≡ run.base = rw all (long_front run.base _ (omega arith)) in
    let length_is : first_u64 (drop 8 bytes) ≡ run.length =
    rw behind_base (long_front run.length _ (omega arith)) in
    let kind_is : first_u32 (drop 16 bytes) ≡ kind =
    rw behind_length (word_front kind _ (number_small run.kind)) in
    let reserved : first_u32 (drop 20 bytes) ≡ 0 = rw behind_kind (word_front 0 rest (lit< tt)) in
    let low_enough : nat_lt (2 ^ 52) (run.base + run.length) ≡ false = grind (arith, nat_tests) in
    rw (length_is, base, low_enough, reserved, kind_is, kind_again run.kind) refl

runs_again : (runs : List Region) → All (λ run. region_end run ≤ 2 ^ 52) runs
    → runs_of (length runs) (flat_map run_bytes runs) ≡ Some runs
runs_again [] low = refl
runs_again (run ∷ runs) low =
    let one =
    run_again run (flat_map run_bytes runs) (All-head (λ r. region_end r ≤ 2 ^ 52) run runs low) in
    let next : drop 24 (run_bytes run ++ flat_map run_bytes runs) ≡ flat_map run_bytes runs =
    drop_at (run_bytes run) (flat_map run_bytes runs) 24 (length-run_bytes run) in
    let more = runs_again runs (All-tail (λ r. region_end r ≤ 2 ^ 52) run runs low) in
    rw (one, next, more) refl

pub map_again : (runs : List Region) → All (λ run. region_end run ≤ 2 ^ 52) runs
    → map_of (map_body runs) ≡ Some runs
unfolding map_of
map_again runs low =
    let body = map_body runs in
    let len = length-map_body runs in
    let entry_size : first_u32 body ≡ 24 = word_front 24 _ (lit< tt) in
    let entry_version : first_u32 (drop 4 body) ≡ 0 = rw behind_word (word_front 0 _ (lit< tt)) in
    let entries : drop 8 body ≡ flat_map run_bytes runs =
    behind_words 24 0 (flat_map run_bytes runs) in
    let not_short : nat_lt (length body) 8 ≡ false = grind (arith, nat_tests) in
    let whole : (length body - 8) % 24 ≡ 0 = omega (arith, len) in
    let count : (length body - 8) / 24 ≡ length runs = omega (arith, len) in
    rw (not_short, entry_version, entry_size, whole, count, entries) (runs_again runs low)

pub load_base_again : (base : ℕ) → base < 2 ^ 32 → load_base_of (u32_bytes base) ≡ Some base
unfolding load_base_of
load_base_again base fits = rw (length-u32_bytes, word_alone base fits) refl
