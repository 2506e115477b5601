-- Numbers in front of bytes, written and read.
use Rattle.std.proofs.Common.{◌≡◌, ◌<◌, ◌≤◌, ◌^◌, ℕ, List, [], ◌++◌, length, get_or, take, drop}
use Rattle.std.proofs.Common.{arith, rules, refl, sym, ap, ◌∙◌, ⊎_elim, lit<}
use Rattle.std.proofs.lemmas.List.{places, take-append-drop, get_or_past, get_or-take, append-nil}
use Rattle.std.proofs.lemmas.List.Elements.{All-get_or, All-take}
use Rattle.std.proofs.lemmas.Bool.{cases_lt}
use Rattle.std.proofs.lemmas.Nat.{le_bytes_4, le_bytes_8}
use Rattle.std.specs.Int.{w32, w64, from_le_bytes}
use Rattle.bl_mbi.specs.InfoToWriteFacts.{AreBytes}
use Rattle.bl_mem.specs.LittleEndian.{number_at, u32_bytes, u64_bytes}
use Rattle.bl_mem.proofs.LittleEndianLaws.{u32_again, u64_again}
use Rattle.bl_mbi.specs.ReadingSteps.{first_u32, first_u64}

pub word_front : (n : ℕ) (rest : List ℕ) → n < 2 ^ 32 → first_u32 (u32_bytes n ++ rest) ≡ n
word_front n rest fits = u32_again n rest fits

pub long_front : (n : ℕ) (rest : List ℕ) → n < 2 ^ 64 → first_u64 (u64_bytes n ++ rest) ≡ n
long_front n rest fits = u64_again n rest fits

pub behind_word : (n : ℕ) (rest : List ℕ) → drop 4 (u32_bytes n ++ rest) ≡ rest
unfolding u32_bytes
behind_word n rest = refl

pub behind_long : (n : ℕ) (rest : List ℕ) → drop 8 (u64_bytes n ++ rest) ≡ rest
unfolding u64_bytes
behind_long n rest = refl

pub word_alone : (n : ℕ) → n < 2 ^ 32 → first_u32 (u32_bytes n) ≡ n
word_alone n fits = ap first_u32 (sym (append-nil (u32_bytes n))) ∙ word_front n [] fits

pub long_alone : (n : ℕ) → n < 2 ^ 64 → first_u64 (u64_bytes n) ≡ n
long_alone n fits = ap first_u64 (sym (append-nil (u64_bytes n))) ∙ long_front n [] fits

pub behind_words : (m n : ℕ) (rest : List ℕ) → drop 8 (u32_bytes m ++ (u32_bytes n ++ rest)) ≡ rest
unfolding u32_bytes
behind_words m n rest = refl

pub small_at : (bytes : List ℕ) (i : ℕ) → AreBytes bytes → get_or bytes i 0 < 256
small_at bytes i small =
    ⊎_elim (λ inside. All-get_or (λ b. b < 256) bytes i 0 inside small)
    (λ past. let none = get_or_past bytes i 0 past in omega arith) (cases_lt i (length bytes))

byte_small : (bytes : List ℕ) (n i : ℕ) → AreBytes bytes → get_or (take n bytes) i 0 < 256
byte_small bytes n i small = small_at (take n bytes) i (All-take (λ b. b < 256) n bytes small)

-- the number in the first bytes, as std reads it from these alone
word_is : (bytes : List ℕ) → first_u32 bytes ≡ from_le_bytes w32 (take 4 bytes)
unfolding number_at
word_is bytes =
    omega (
      arith,
      get_or-take 4 bytes 0 0 (lit< tt),
      get_or-take 4 bytes 1 0 (lit< tt),
      get_or-take 4 bytes 2 0 (lit< tt),
      get_or-take 4 bytes 3 0 (lit< tt),
    )

long_is : (bytes : List ℕ) → first_u64 bytes ≡ from_le_bytes w64 (take 8 bytes)
unfolding number_at
long_is bytes =
    omega (
      arith,
      get_or-take 8 bytes 0 0 (lit< tt),
      get_or-take 8 bytes 1 0 (lit< tt),
      get_or-take 8 bytes 2 0 (lit< tt),
      get_or-take 8 bytes 3 0 (lit< tt),
      get_or-take 8 bytes 4 0 (lit< tt),
      get_or-take 8 bytes 5 0 (lit< tt),
      get_or-take 8 bytes 6 0 (lit< tt),
      get_or-take 8 bytes 7 0 (lit< tt),
    )

pub word_small : (bytes : List ℕ) → AreBytes bytes → first_u32 bytes < 2 ^ 32
word_small bytes small =
    omega (
      arith,
      word_is bytes,
      byte_small bytes 4 0 small,
      byte_small bytes 4 1 small,
      byte_small bytes 4 2 small,
      byte_small bytes 4 3 small,
    )

pub word_then : (bytes : List ℕ) → AreBytes bytes → 4 ≤ length bytes
    → u32_bytes (first_u32 bytes) ++ drop 4 bytes ≡ bytes
unfolding u32_bytes
word_then bytes small long_enough =
    ap (λ (front : List ℕ). front ++ drop 4 bytes)
    (le_bytes_4 (take 4 bytes) (first_u32 bytes) (search (rules, places))
    (λ i. byte_small bytes 4 i small) (word_is bytes)) ∙ take-append-drop 4 bytes

pub long_then : (bytes : List ℕ) → AreBytes bytes → 8 ≤ length bytes
    → u64_bytes (first_u64 bytes) ++ drop 8 bytes ≡ bytes
unfolding u64_bytes
long_then bytes small long_enough =
    ap (λ (front : List ℕ). front ++ drop 8 bytes)
    (le_bytes_8 (take 8 bytes) (first_u64 bytes) (search (rules, places))
    (λ i. byte_small bytes 8 i small) (long_is bytes)) ∙ take-append-drop 8 bytes
