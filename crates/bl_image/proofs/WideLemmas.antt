-- The registers of version 2 where the protocol gives 32 bits of each: those that it gives, and
-- those that it does not give.
use Rattle.std.proofs.Common.{◌≡◌, ◌+◌, ◌<◌, ◌^◌, ℕ, zero, suc, List, [], ◌∷◌, ◌++◌}
use Rattle.std.proofs.Common.{length, take, drop, true, All, refl, sym, ap, ◌∙◌, arith, subst}
use Rattle.std.proofs.Common.{append_assoc}
use Rattle.std.specs.Prelude.{replicate, nat_lt, ◌==◌}
use Rattle.std.specs.List.{flat_map}
use Rattle.std.proofs.lemmas.List.{append-nil, take_at, drop_at}
use Rattle.std.proofs.lemmas.List.Concat.{flat_map-cons}
use Rattle.std.proofs.lemmas.List.Elements.{All-head, All-tail, All-take, All-drop}
use Rattle.std.proofs.lemmas.List.Elements.{All-append, All-replicate}
use Rattle.std.proofs.lemmas.Bool.Decides.{nat_tests}
use Rattle.std.proofs.lemmas.Grind.{flat_map-append}
use Rattle.bl_mem.specs.LittleEndian.{u64_bytes}
use Rattle.bl_mem.proofs.LittleEndianLaws.{length-u64_bytes}
use Rattle.bl_load.specs.declared.registers.Registers32.{Registers32}
use Rattle.bl_load.specs.declared.registers.Registers.TheVariants.{Bits32}
use Rattle.bl_image.specs.declared.fault.ImageFault.TheVariants.{BadHeader}
use Rattle.bl_image.specs.Fields.{Field, fields_fault, zero_extended_field, absent_field}
use Rattle.bl_image.specs.Image.{narrow_values, wide_values}
use Rattle.bl_image.specs.Layouts.{registers_2_narrow}
use Rattle.bl_image.proofs.FieldLemmas.{field_passes, long_tells}
use Rattle.bl_image.proofs.FieldRows.{Leaves, leaves_both, replicate_more}

-- ---- numbers pass

narrow_tells : (n : ℕ) → n < 2 ^ 32 → zero_extended_field.passes (u64_bytes n) ≡ true
unfolding zero_extended_field
narrow_tells n fits =
    long_tells (λ k. nat_lt k (2 ^ 32)) BadHeader n true (omega (arith, fits))
    (grind (arith, nat_tests))

pub narrow_leaves : (ns : List ℕ) → All (λ n. n < 2 ^ 32) ns
    → Leaves (replicate (length ns) zero_extended_field) (flat_map u64_bytes ns)
unfolding zero_extended_field
narrow_leaves [] fit others more = refl
narrow_leaves (n ∷ ns) fit others more =
    let fits : ℕ → Type 0 = λ k. k < 2 ^ 32 in
    ap (fields_fault (replicate (length (n ∷ ns)) zero_extended_field ++ others))
    (append_assoc (u64_bytes n) (flat_map u64_bytes ns) more)
    ∙ field_passes zero_extended_field (replicate (length ns) zero_extended_field ++ others) (u64_bytes n)
    (flat_map u64_bytes ns ++ more) (length-u64_bytes n) (narrow_tells n (All-head fits n ns fit))
    ∙ narrow_leaves ns (All-tail fits n ns fit) others more

absent_tells : absent_field.passes (u64_bytes 0) ≡ true
unfolding absent_field
absent_tells = long_tells (λ k. k == 0) BadHeader 0 true (omega arith) refl

pub absent_leaves : (n : ℕ)
    → Leaves (replicate n absent_field) (flat_map u64_bytes (replicate n 0))
unfolding absent_field
absent_leaves zero others more = refl
absent_leaves (suc n) others more =
    ap (fields_fault (replicate (suc n) absent_field ++ others))
    (append_assoc (u64_bytes 0) (flat_map u64_bytes (replicate n 0)) more)
    ∙ field_passes absent_field (replicate n absent_field ++ others) (u64_bytes 0)
    (flat_map u64_bytes (replicate n 0) ++ more) (length-u64_bytes 0) absent_tells
    ∙ absent_leaves n others more

pub zeros_more : (n : ℕ)
    → flat_map u64_bytes (replicate (n + 1) 0)
    ≡ flat_map u64_bytes (replicate n 0) ++ u64_bytes 0
zeros_more n =
    ap (flat_map u64_bytes) (replicate_more n 0)
    ∙ flat_map-append u64_bytes (replicate n 0) (0 ∷ [])
    ∙ ap (λ (l : List ℕ). flat_map u64_bytes (replicate n 0) ++ l)
    (flat_map-cons u64_bytes 0 [] ∙ append-nil (u64_bytes 0))

-- ---- the registers

-- 9 numbers, 2 and 9, and between them those that are not given
abbrev pub widened : List ℕ → List ℕ → List ℕ → List ℕ
widened first flags last =
    first ++ (replicate 8 0 ++ (flags ++ (replicate 3 0 ++ last)))

abbrev pub wide_spelling : List ℕ → List ℕ → List ℕ → List ℕ
wide_spelling first flags last =
    flat_map u64_bytes first ++ (flat_map u64_bytes (replicate 8 0)
    ++ (flat_map u64_bytes flags ++ (flat_map u64_bytes (replicate 3 0)
    ++ flat_map u64_bytes last)))

pub spelled_wide : (first flags last : List ℕ)
    → flat_map u64_bytes (widened first flags last) ≡ wide_spelling first flags last
spelled_wide first flags last =
    let zeros : ℕ → List ℕ = λ n. replicate n 0 in
    flat_map-append u64_bytes first (zeros 8 ++ (flags ++ (zeros 3 ++ last)))
    ∙ ap (λ (l : List ℕ). flat_map u64_bytes first ++ l)
    (flat_map-append u64_bytes (zeros 8) (flags ++ (zeros 3 ++ last))
    ∙ ap (λ (l : List ℕ). flat_map u64_bytes (zeros 8) ++ l)
    (flat_map-append u64_bytes flags (zeros 3 ++ last)
    ∙ ap (λ (l : List ℕ). flat_map u64_bytes flags ++ l)
    (flat_map-append u64_bytes (zeros 3) last)))

split_numbers : List ℕ → List ℕ
split_numbers ns = widened (take 9 ns) (take 2 (drop 9 ns)) (drop 11 ns)

wide_split : (r : Registers32) → wide_values (Bits32 r) ≡ split_numbers (narrow_values r)
unfolding split_numbers
wide_split r = refl

pub wide_by : (r : Registers32) (first flags last : List ℕ) → length first ≡ 9 → length flags ≡ 2
    → narrow_values r ≡ first ++ (flags ++ last)
    → wide_values (Bits32 r) ≡ widened first flags last
unfolding split_numbers
wide_by r first flags last nine two is =
    let front = take_at first (flags ++ last) 9 nine in
    let behind = drop_at first (flags ++ last) 9 nine in
    let middle = take_at flags last 2 two in
    let eleven : length (first ++ flags) ≡ 11 = grind (arith, nine, two) in
    let end : drop 11 (first ++ (flags ++ last)) ≡ last =
    ap (drop 11) (sym (append_assoc first flags last)) ∙ drop_at (first ++ flags) last 11 eleven in
    wide_split r ∙ ap split_numbers is ∙ rw (front, behind, middle, end) refl

-- registers whose numbers fit pass
pub wide_pass : (r : Registers32) → All (λ n. n < 2 ^ 32) (narrow_values r)
    → Leaves registers_2_narrow (flat_map u64_bytes (wide_values (Bits32 r)))
unfolding registers_2_narrow split_numbers
wide_pass r fit others more =
    let fits : ℕ → Type 0 = λ k. k < 2 ^ 32 in
    let ns = narrow_values r in
    let first = take 9 ns in
    let flags = take 2 (drop 9 ns) in
    let last = drop 11 ns in
    let narrow : ℕ → List Field = λ n. replicate n zero_extended_field in
    let absent : ℕ → List Field = λ n. replicate n absent_field in
    let of_first = narrow_leaves first (All-take fits 9 ns fit) in
    let of_flags = narrow_leaves flags (All-take fits 2 (drop 9 ns) (All-drop fits 9 ns fit)) in
    let of_last = narrow_leaves last (All-drop fits 11 ns fit) in
    let all : Leaves registers_2_narrow (wide_spelling first flags last) =
    leaves_both (narrow 9) (absent 8 ++ (narrow 2 ++ (absent 3 ++ narrow 9))) _ _ of_first
    (leaves_both (absent 8) (narrow 2 ++ (absent 3 ++ narrow 9)) _ _ (absent_leaves 8)
    (leaves_both (narrow 2) (absent 3 ++ narrow 9) _ _ of_flags
    (leaves_both (absent 3) (narrow 9) _ _ (absent_leaves 3) of_last))) in
    ap (λ (l : List ℕ). fields_fault (registers_2_narrow ++ others) (l ++ more))
    (ap (flat_map u64_bytes) (wide_split r) ∙ spelled_wide first flags last)
    ∙ all others more

-- they are told by the numbers of version 1, and tell them
narrowed : List ℕ → List ℕ
narrowed ns = take 9 ns ++ (take 2 (drop 17 ns) ++ drop 22 ns)

narrow_again : (r : Registers32) → narrow_values r ≡ narrowed (wide_values (Bits32 r))
unfolding narrowed
narrow_again r = refl

pub narrow_same : (r s : Registers32) → wide_values (Bits32 r) ≡ wide_values (Bits32 s)
    → narrow_values r ≡ narrow_values s
narrow_same r s e = narrow_again r ∙ ap narrowed e ∙ sym (narrow_again s)

-- and they fit
pub wide_fit : (r : Registers32) → All (λ n. n < 2 ^ 32) (narrow_values r)
    → All (λ n. n < 2 ^ 64) (wide_values (Bits32 r))
unfolding split_numbers
wide_fit r fit =
    let fits : ℕ → Type 0 = λ k. k < 2 ^ 32 in
    let wide : ℕ → Type 0 = λ k. k < 2 ^ 64 in
    let ns = narrow_values r in
    let weaker : (l : List ℕ) → All fits l → All wide l =
    λ l h k d within. let below = h k d within in omega (arith, below) in
    let zeros : (n : ℕ) → All wide (replicate n 0) = λ n. All-replicate wide n 0 (omega arith) in
    let first = take 9 ns in
    let flags = take 2 (drop 9 ns) in
    let last = drop 11 ns in
    let from_last = replicate 3 0 ++ last in
    let from_flags = flags ++ from_last in
    let of_flags = weaker flags (All-take fits 2 (drop 9 ns) (All-drop fits 9 ns fit)) in
    let of_last = weaker last (All-drop fits 11 ns fit) in
    subst (All wide) (sym (wide_split r))
    (All-append wide first (replicate 8 0 ++ from_flags) (weaker first (All-take fits 9 ns fit))
    (All-append wide (replicate 8 0) from_flags (zeros 8)
    (All-append wide flags from_last of_flags
    (All-append wide (replicate 3 0) last (zeros 3) of_last))))
