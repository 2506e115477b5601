-- In bytes that have no fault the numbers of registers of 64 bits are found.
use Rattle.std.proofs.Common.{◌≡◌, ◌≤◌, ◌<◌, ◌^◌, ℕ, zero, suc, List, [], ◌∷◌, ◌++◌}
use Rattle.std.proofs.Common.{length, take, drop, All, None, refl, sym, ap, ◌∙◌, arith}
use Rattle.std.proofs.Common.{append_assoc}
use Rattle.std.specs.Prelude.{replicate}
use Rattle.std.specs.List.{flat_map}
use Rattle.std.proofs.lemmas.Bool.Decides.{Decides-eqb, nat_tests}
use Rattle.std.proofs.lemmas.List.Elements.{All-nil, All-cons}
use Rattle.bl_mem.specs.LittleEndian.{u64_at, u64_bytes}
use Rattle.bl_image.specs.Fields.{Field, fields_fault, zero_extended_field, absent_field}
use Rattle.bl_image.specs.Fields.{wide_register_field}
use Rattle.bl_image.proofs.NoFaultLemmas.{IsSmall, small_drop, u64_split, u64_small, field_none}

-- so many numbers below a limit, and what stands behind them
pub record NumbersFound (limit n : ℕ) (others : List Field) (bytes : List ℕ) : Type 0 where
  pub numbers : List ℕ
  pub rest : List ℕ
  pub size : length numbers ≡ n
  pub is : flat_map u64_bytes numbers ++ rest ≡ bytes
  pub fit : All (λ k. k < limit) numbers
  pub left : fields_fault others rest ≡ None
  pub small : IsSmall rest

-- no number was found yet
none_found : (limit : ℕ) (others : List Field) (bytes : List ℕ) → IsSmall bytes
    → fields_fault others bytes ≡ None → NumbersFound limit zero others bytes
none_found limit others bytes small none = record {
  numbers = [];
  rest = bytes;
  size = refl;
  is = refl;
  fit = All-nil (λ k. k < limit);
  left = none;
  small = small;
}

-- a number, and those behind it
one_found : (limit n : ℕ) (others : List Field) (bytes : List ℕ) → IsSmall bytes
    → 8 ≤ length bytes → u64_at (take 8 bytes) 0 < limit
    → NumbersFound limit n others (drop 8 bytes) → NumbersFound limit (suc n) others bytes
one_found limit n others bytes small long below behind =
    let number = u64_at (take 8 bytes) 0 in
    record {
      numbers = number ∷ behind.numbers;
      rest = behind.rest;
      size = ap suc behind.size;
      is =
          append_assoc (u64_bytes number) (flat_map u64_bytes behind.numbers) behind.rest
          ∙ ap (λ (l : List ℕ). u64_bytes number ++ l) behind.is
          ∙ u64_split bytes small long;
      fit = All-cons (λ k. k < limit) number behind.numbers below behind.fit;
      left = behind.left;
      small = behind.small;
    }

pub narrows_found : (n : ℕ) (others : List Field) (bytes : List ℕ) → IsSmall bytes
    → fields_fault (replicate n zero_extended_field ++ others) bytes ≡ None
    → NumbersFound (2 ^ 32) n others bytes
unfolding zero_extended_field
narrows_found zero others bytes small none = none_found (2 ^ 32) others bytes small none
narrows_found (suc n) others bytes small none =
    let here = field_none zero_extended_field (replicate n zero_extended_field ++ others) bytes none in
    let number = u64_at (take 8 bytes) 0 in
    let below : number < 2 ^ 32 = let passes = here.passes in grind (arith, nat_tests) in
    one_found (2 ^ 32) n others bytes small here.long below
    (narrows_found n others (drop 8 bytes) (small_drop 8 bytes small) here.rest)

pub wides_found : (n : ℕ) (others : List Field) (bytes : List ℕ) → IsSmall bytes
    → fields_fault (replicate n wide_register_field ++ others) bytes ≡ None
    → NumbersFound (2 ^ 64) n others bytes
unfolding wide_register_field
wides_found zero others bytes small none = none_found (2 ^ 64) others bytes small none
wides_found (suc n) others bytes small none =
    let here = field_none wide_register_field (replicate n wide_register_field ++ others) bytes none in
    one_found (2 ^ 64) n others bytes small here.long (u64_small bytes small)
    (wides_found n others (drop 8 bytes) (small_drop 8 bytes small) here.rest)

-- so many zeros, and what stands behind them
pub record ZerosFound (n : ℕ) (others : List Field) (bytes : List ℕ) : Type 0 where
  pub rest : List ℕ
  pub is : flat_map u64_bytes (replicate n 0) ++ rest ≡ bytes
  pub left : fields_fault others rest ≡ None
  pub small : IsSmall rest

pub absents_found : (n : ℕ) (others : List Field) (bytes : List ℕ) → IsSmall bytes
    → fields_fault (replicate n absent_field ++ others) bytes ≡ None
    → ZerosFound n others bytes
unfolding absent_field
absents_found zero others bytes small none =
    record { rest = bytes; is = refl; left = none; small = small }
absents_found (suc n) others bytes small none =
    let here = field_none absent_field (replicate n absent_field ++ others) bytes none in
    let number = u64_at (take 8 bytes) 0 in
    let nothing : number ≡ 0 = (Decides-eqb number 0).0 here.passes in
    let behind = absents_found n others (drop 8 bytes) (small_drop 8 bytes small) here.rest in
    record {
      rest = behind.rest;
      is =
          append_assoc (u64_bytes 0) (flat_map u64_bytes (replicate n 0)) behind.rest
          ∙ ap (λ (l : List ℕ). u64_bytes 0 ++ l) behind.is
          ∙ ap (λ (k : ℕ). u64_bytes k ++ drop 8 bytes) (sym nothing)
          ∙ u64_split bytes small here.long;
      left = behind.left;
      small = behind.small;
    }
