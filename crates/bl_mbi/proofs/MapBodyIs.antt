-- A memory map that is read is spelled so, and its regions are in the ranges of their fields.
use Rattle.std.proofs.Common.{◌≡◌, ◌≤◌, ◌+◌, ◌-◌, ◌*◌, ◌/◌, ◌%◌, ◌^◌, ℕ, zero, suc, Bool, true}
use Rattle.std.proofs.Common.{false, Option, Some, None, List, [], ◌∷◌, ◌++◌, length, drop, arith}
use Rattle.std.proofs.Common.{refl, sym, ap, ap₂, ◌∙◌, append_assoc, length-drop, cond}
use Rattle.std.specs.Prelude.{nat_eq, nat_lt, not, All}
use Rattle.std.specs.List.{flat_map}
use Rattle.std.proofs.lemmas.Bool.{not-false}
use Rattle.std.proofs.lemmas.Bool.Decides.{nat_tests}
use Rattle.std.proofs.lemmas.List.{drop-drop, drop_all}
use Rattle.std.proofs.lemmas.List.Elements.{All-nil, All-cons}
use Rattle.bl_map.specs.declared.kind.Kind.{Kind}
use Rattle.bl_map.specs.declared.kind.Kind.TheVariants.{Usable, Reserved, Acpi, Nvs, Bad}
use Rattle.bl_map.specs.declared.region.Region.{Region}
use Rattle.bl_map.specs.Kinds.{kind_number, kind_of}
use Rattle.bl_map.specs.NormalMap.{region_end}
use Rattle.bl_mbi.specs.InfoToWriteFacts.{AreBytes}
use Rattle.bl_mem.specs.LittleEndian.{u32_bytes, u64_bytes}
use Rattle.bl_mbi.specs.Tags.{run_bytes, map_body}
use Rattle.bl_mbi.specs.ReadingSteps.{first_u32, first_u64}
use Rattle.bl_mbi.specs.Bodies.{run_of, runs_of, map_of}
use Rattle.bl_mbi.proofs.Inverse.{passed_some, mapped, then, same_some}
use Rattle.bl_mbi.proofs.WordLaws.{word_then, long_then}
use Rattle.bl_mbi.proofs.TagIs.{drop_small}

-- a number that is this kind's, or is looked for among the others
kind_if : (n m : ℕ) (this : Kind) (others : Option Kind) (kind : Kind)
    → cond (nat_eq n m) (Some this) others ≡ Some kind → m ≡ kind_number this
    → (others ≡ Some kind → n ≡ kind_number kind) → n ≡ kind_number kind
kind_if n m this others kind h number more =
    by_test (nat_eq n m) refl
  where
    by_test : (b : Bool) → nat_eq n m ≡ b → n ≡ kind_number kind
    by_test true equal =
        let same : n ≡ m = grind (arith, nat_tests, equal) in
        let it : Some this ≡ Some kind = rw equal at h in
        same ∙ number ∙ ap kind_number (same_some this kind it)
    by_test false other =
        let it : others ≡ Some kind = rw other at h in
        more it

kind_is : (n : ℕ) (kind : Kind) → kind_of n ≡ Some kind → n ≡ kind_number kind
unfolding kind_of
kind_is n kind h =
    kind_if n 1 Usable _ kind h refl
    (λ h2.
    kind_if n 2 Reserved _ kind h2 refl
    (λ h3.
    kind_if n 3 Acpi _ kind h3 refl
    (λ h4.
    kind_if n 4 Nvs _ kind h4 refl
    (λ h5. kind_if n 5 Bad None kind h5 refl (λ none. absurd (cc))))))

-- a run in the first 24 bytes
run_is : (bytes : List ℕ) (run : Region) → AreBytes bytes → 24 ≤ length bytes
    → run_of bytes ≡ Some run → (bytes ≡ run_bytes run ++ drop 24 bytes) × (region_end run ≤ 2 ^ 52)
unfolding run_of
run_is bytes run small enough h =
    let base = first_u64 bytes in
    let len = first_u64 (drop 8 bytes) in
    let s1 = passed_some (nat_lt (2 ^ 52) (base + len)) _ run h in
    let s2 = passed_some (not (nat_eq (first_u32 (drop 20 bytes)) 0)) _ run s1.1 in
    let s3 = mapped _ (kind_of (first_u32 (drop 16 bytes))) run s2.1 in
    let low : base + len ≤ 2 ^ 52 = grind (arith, nat_tests, s1.0) in
    let reserved : first_u32 (drop 20 bytes) ≡ 0 = grind (arith, nat_tests, not-false _ s2.0) in
    let kind = kind_is (first_u32 (drop 16 bytes)) s3.0 s3.1 in
    let read : Region = record { base = base; length = len; kind = s3.0 } in
    let first : u64_bytes base ++ drop 8 bytes ≡ bytes = long_then bytes small (omega arith) in
    let second : u64_bytes len ++ drop 8 (drop 8 bytes) ≡ drop 8 bytes =
    long_then (drop 8 bytes) (drop_small 8 bytes small) (omega (arith, length-drop 8 bytes)) in
    let third : u32_bytes (first_u32 (drop 16 bytes)) ++ drop 4 (drop 16 bytes) ≡ drop 16 bytes =
    word_then (drop 16 bytes) (drop_small 16 bytes small)
    (omega (arith, length-drop 16 bytes)) in
    let fourth : u32_bytes (first_u32 (drop 20 bytes)) ++ drop 4 (drop 20 bytes) ≡ drop 20 bytes =
    word_then (drop 20 bytes) (drop_small 20 bytes small)
    (omega (arith, length-drop 20 bytes)) in
    let at_16 : drop 8 (drop 8 bytes) ≡ drop 16 bytes = drop-drop 8 8 bytes in
    let at_20 : drop 4 (drop 16 bytes) ≡ drop 20 bytes = drop-drop 4 16 bytes in
    let at_24 : drop 4 (drop 20 bytes) ≡ drop 24 bytes = drop-drop 4 20 bytes in
    let spelled : bytes ≡ run_bytes read ++ drop 24 bytes =
    sym first ∙ ap (λ (xs : List ℕ). u64_bytes base ++ xs) (sym second)
    ∙ ap (λ (xs : List ℕ). u64_bytes base ++ (u64_bytes len ++ xs)) (at_16 ∙ sym third)
    ∙ ap₂ (λ (n : ℕ) (xs : List ℕ). u64_bytes base ++ (u64_bytes len ++ (u32_bytes n ++ xs))) kind
    (at_20 ∙ sym fourth)
    ∙ ap₂
    (λ (n : ℕ) (xs : List ℕ).
    u64_bytes base
    ++ (u64_bytes len ++ (u32_bytes (kind_number s3.0) ++ (u32_bytes n ++ xs))))
    reserved at_24
    ∙ simp append_assoc in
    let is : (bytes ≡ run_bytes read ++ drop 24 bytes)
    × (region_end read ≤ 2 ^ 52) = (spelled, low) in
    rw (← s3.2) is

runs_are : (n : ℕ) (bytes : List ℕ) (runs : List Region) → AreBytes bytes → length bytes ≡ 24 * n
    → runs_of n bytes ≡ Some runs
    → (bytes ≡ flat_map run_bytes runs) × All (λ run. region_end run ≤ 2 ^ 52) runs
runs_are zero bytes runs small len h =
    let read = same_some [] runs h in
    let nothing : bytes ≡ [] = drop_all 0 bytes (omega arith) in
    let is : (bytes ≡ flat_map run_bytes []) × All (λ run. region_end run ≤ 2 ^ 52) [] =
    (nothing, All-nil (λ (run : Region). region_end run ≤ 2 ^ 52)) in
    rw (← read) is
runs_are (suc n) bytes runs small len h =
    let s1 = then _ (run_of bytes) runs h in
    let s2 = mapped _ (runs_of n (drop 24 bytes)) runs s1.2 in
    let enough : 24 ≤ length bytes = omega arith in
    let one = run_is bytes s1.0 small enough s1.1 in
    let rest_len : length (drop 24 bytes) ≡ 24 * n = omega (arith, length-drop 24 bytes) in
    let more = runs_are n (drop 24 bytes) s2.0 (drop_small 24 bytes small) rest_len s2.1 in
    let is : (bytes ≡ flat_map run_bytes (s1.0 ∷ s2.0))
    × All (λ run. region_end run ≤ 2 ^ 52) (s1.0 ∷ s2.0) = (
      one.0 ∙ ap (λ (xs : List ℕ). run_bytes s1.0 ++ xs) more.0,
      All-cons (λ (run : Region). region_end run ≤ 2 ^ 52) s1.0 s2.0 one.1 more.1,
    ) in
    rw (← s2.2) is

pub map_is : (body : List ℕ) (runs : List Region) → AreBytes body → map_of body ≡ Some runs
    → (body ≡ map_body runs) × All (λ run. region_end run ≤ 2 ^ 52) runs
unfolding map_of
map_is body runs small h =
    let count = (length body - 8) / 24 in
    let s1 = passed_some (nat_lt (length body) 8) _ runs h in
    let s2 = passed_some (not (nat_eq (first_u32 body) 24)) _ runs s1.1 in
    let s3 = passed_some (not (nat_eq (first_u32 (drop 4 body)) 0)) _ runs s2.1 in
    let s4 = passed_some (not (nat_eq ((length body - 8) % 24) 0)) _ runs s3.1 in
    let enough : 8 ≤ length body = grind (arith, nat_tests, s1.0) in
    let entry_size : first_u32 body ≡ 24 = grind (arith, nat_tests, not-false _ s2.0) in
    let entry_version : first_u32 (drop 4 body) ≡ 0 = grind (arith, nat_tests, not-false _ s3.0) in
    let whole : (length body - 8) % 24 ≡ 0 = grind (arith, nat_tests, not-false _ s4.0) in
    let entries =
    runs_are count (drop 8 body) runs (drop_small 8 body small)
    (omega (arith, length-drop 8 body)) s4.1 in
    let front : u32_bytes (first_u32 body) ++ drop 4 body
    ≡ body = word_then body small (omega arith) in
    let second : u32_bytes (first_u32 (drop 4 body)) ++ drop 4 (drop 4 body) ≡ drop 4 body =
    word_then (drop 4 body) (drop_small 4 body small) (omega (arith, length-drop 4 body)) in
    let spelled : body ≡ map_body runs =
    sym front ∙ ap₂ (λ (n : ℕ) (xs : List ℕ). u32_bytes n ++ xs) entry_size (sym second)
    ∙ ap₂ (λ (n : ℕ) (xs : List ℕ). u32_bytes 24 ++ (u32_bytes n ++ xs)) entry_version
    (drop-drop 4 4 body ∙ entries.0) in
    (spelled, entries.1)
