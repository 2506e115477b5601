-- Numbers in bytes are read again.
use Rattle.std.proofs.Common.{◌≡◌, ◌*◌, ◌^◌, ◌<◌, ℕ, List, [], ◌∷◌, ◌++◌, length, take, drop, All}
use Rattle.std.proofs.Common.{refl, sym, ap, ◌∙◌, arith, length-append}
use Rattle.std.proofs.lemmas.List.{take_at, drop_at}
use Rattle.std.proofs.lemmas.List.Elements.{All-tail}
use Rattle.std.specs.List.{flat_map}
use Rattle.bl_mem.specs.LittleEndian.{u32_at, u64_at, u32_bytes, u64_bytes}
use Rattle.bl_mem.proofs.LittleEndianLaws.{length-u32_bytes, length-u64_bytes, u32_again}
use Rattle.bl_mem.proofs.LittleEndianLaws.{u64_again}

-- two lists that begin with as many elements each
pub front_same : (a b x y : List ℕ) → length a ≡ length b → a ++ x ≡ b ++ y → a ≡ b
front_same a b x y n e =
    sym (take_at a x (length a) refl) ∙ ap (take (length a)) e ∙ take_at b y (length a) (sym n)

pub back_same : (a b x y : List ℕ) → length a ≡ length b → a ++ x ≡ b ++ y → x ≡ y
back_same a b x y n e =
    sym (drop_at a x (length a) refl) ∙ ap (drop (length a)) e ∙ drop_at b y (length a) (sym n)

pub length-spelled : (spelled : ℕ → List ℕ) (width : ℕ) → ((n : ℕ) → length (spelled n) ≡ width)
    → (ns : List ℕ) → length (flat_map spelled ns) ≡ width * length ns
length-spelled spelled width size [] = omega arith
length-spelled spelled width size (n ∷ ns) =
    length-append (spelled n) (flat_map spelled ns)
    ∙ grind (arith, size n, length-spelled spelled width size ns)

pub length-u32s : (ns : List ℕ) → length (flat_map u32_bytes ns) ≡ 4 * length ns
length-u32s = length-spelled u32_bytes 4 length-u32_bytes

pub length-u64s : (ns : List ℕ) → length (flat_map u64_bytes ns) ≡ 8 * length ns
length-u64s = length-spelled u64_bytes 8 length-u64_bytes

-- a number is told by its bytes
pub u32_same : (m n : ℕ) → m < 2 ^ 32 → n < 2 ^ 32 → u32_bytes m ≡ u32_bytes n → m ≡ n
u32_same m n hm hn e =
    sym (u32_again m [] hm) ∙ ap (λ (bytes : List ℕ). u32_at (bytes ++ []) 0) e ∙ u32_again n [] hn

pub u64_same : (m n : ℕ) → m < 2 ^ 64 → n < 2 ^ 64 → u64_bytes m ≡ u64_bytes n → m ≡ n
u64_same m n hm hn e =
    sym (u64_again m [] hm) ∙ ap (λ (bytes : List ℕ). u64_at (bytes ++ []) 0) e ∙ u64_again n [] hn

-- numbers below a limit, where one is told by its bytes
numbers_same : (spelled : ℕ → List ℕ) (limit width : ℕ) → ((n : ℕ) → length (spelled n) ≡ width)
    → ((m n : ℕ) → m < limit → n < limit → spelled m ≡ spelled n → m ≡ n)
    → (ms ns : List ℕ) → All (λ n. n < limit) ms → All (λ n. n < limit) ns
    → length ms ≡ length ns → flat_map spelled ms ≡ flat_map spelled ns → ms ≡ ns
numbers_same spelled limit width size same [] [] hm hn l e = refl
numbers_same spelled limit width size same [] (n ∷ ns) hm hn l e = absurd (omega arith)
numbers_same spelled limit width size same (m ∷ ms) [] hm hn l e = absurd (omega arith)
numbers_same spelled limit width size same (m ∷ ms) (n ∷ ns) hm hn l e =
    let fits : (k : ℕ) → Type 0 = λ k. k < limit in
    let wide : length (spelled m) ≡ length (spelled n) = size m ∙ sym (size n) in
    let first : m ≡ n =
    same m n (hm 0 m (omega arith)) (hn 0 n (omega arith)) (front_same _ _ _ _ wide e) in
    let rest : ms ≡ ns =
    numbers_same spelled limit width size same ms ns (All-tail fits m ms hm)
    (All-tail fits n ns hn) (omega arith) (back_same _ _ _ _ wide e) in
    cc

pub u32s_same : (ms ns : List ℕ) → All (λ n. n < 2 ^ 32) ms → All (λ n. n < 2 ^ 32) ns
    → length ms ≡ length ns → flat_map u32_bytes ms ≡ flat_map u32_bytes ns → ms ≡ ns
u32s_same = numbers_same u32_bytes (2 ^ 32) 4 length-u32_bytes u32_same

pub u64s_same : (ms ns : List ℕ) → All (λ n. n < 2 ^ 64) ms → All (λ n. n < 2 ^ 64) ns
    → length ms ≡ length ns → flat_map u64_bytes ms ≡ flat_map u64_bytes ns → ms ≡ ns
u64s_same = numbers_same u64_bytes (2 ^ 64) 8 length-u64_bytes u64_same
