-- A tag that is read is spelled so.
use Rattle.std.proofs.Common.{◌≡◌, ◌<◌, ◌≤◌, ◌+◌, ◌-◌, ◌%◌, ℕ, true, List, [], ◌∷◌, ◌++◌, length}
use Rattle.std.proofs.Common.{take, drop, replicate, Ok, arith, rules, refl, sym, ap, ap₂, ◌∙◌}
use Rattle.std.proofs.Common.{append_assoc, length-drop}
use Rattle.std.specs.Prelude.{slice_range, ◌==◌, nat_eq, nat_lt, not}
use Rattle.std.specs.List.{list_all}
use Rattle.std.proofs.lemmas.Bool.{and_parts, not-false}
use Rattle.std.proofs.lemmas.Bool.Decides.{nat_tests}
use Rattle.std.proofs.lemmas.List.{drop-drop, places, take-append-drop}
use Rattle.std.proofs.lemmas.List.Elements.{All-take, All-drop}
use Rattle.bl_mbi.specs.Size.{padded}
use Rattle.bl_mbi.specs.InfoToWriteFacts.{AreBytes}
use Rattle.bl_mem.specs.LittleEndian.{u32_bytes}
use Rattle.bl_mbi.specs.Tags.{padding, tag}
use Rattle.bl_mbi.specs.ReadingSteps.{RestFacts, first_u32, next_info_tag}
use Rattle.bl_mbi.proofs.Inverse.{passed, same_ok}
use Rattle.bl_mbi.proofs.WordLaws.{word_then}

-- a piece was read, and this is left; where that is nothing, the end may have cut the piece
pub record IsRead (left : RestFacts) (piece : List ℕ) (after : RestFacts) : Type 0 where
  pub bytes : 1 ≤ length after.bytes → left.bytes ≡ piece ++ after.bytes
  pub small : AreBytes after.bytes

pub drop_small : (n : ℕ) (bytes : List ℕ) → AreBytes bytes → AreBytes (drop n bytes)
drop_small n bytes small = All-drop (λ b. b < 256) n bytes small

pub take_small : (n : ℕ) (bytes : List ℕ) → AreBytes bytes → AreBytes (take n bytes)
take_small n bytes small = All-take (λ b. b < 256) n bytes small

pub all_zero : (xs : List ℕ) → list_all (λ b. b == 0) xs ≡ true → xs ≡ replicate (length xs) 0
all_zero [] h = refl
all_zero (x ∷ xs) h =
    let both = and_parts (nat_eq x 0) (list_all (λ b. nat_eq b 0) xs) h in
    let zero_here : x ≡ 0 = grind (arith, nat_tests, both.0) in
    ap₂ (λ (y : ℕ) (ys : List ℕ). y ∷ ys) zero_here (all_zero xs both.1)

-- what the checks of a tag say together
record IsPassed (kind : ℕ) (left : RestFacts) (read : List ℕ × RestFacts) : Type 0 where
  long : 8 ≤ length left.bytes
  kind_is : first_u32 left.bytes ≡ kind
  large : 8 ≤ first_u32 (drop 4 left.bytes)
  fits : first_u32 (drop 4 left.bytes) ≤ length left.bytes
  zeros : list_all (λ b. b == 0)
      (slice_range left.bytes (first_u32 (drop 4 left.bytes)) (padded (first_u32
      (drop 4 left.bytes)))) ≡ true
  body : slice_range left.bytes 8 (first_u32 (drop 4 left.bytes)) ≡ read.0
  rest : drop (padded (first_u32 (drop 4 left.bytes))) left.bytes ≡ read.1.bytes

passes : (kind : ℕ) (left : RestFacts) (read : List ℕ × RestFacts) → next_info_tag kind left ≡ Ok read
    → IsPassed kind left read
unfolding next_info_tag
passes kind left read h =
    let size = first_u32 (drop 4 left.bytes) in
    let s1 = passed (nat_eq (length left.bytes) 0) _ _ read h in
    let s2 = passed (nat_lt (length left.bytes) 8) _ _ read s1.1 in
    let s3 = passed (not (nat_eq (first_u32 left.bytes) kind)) _ _ read s2.1 in
    let s4 = passed (nat_lt size 8) _ _ read s3.1 in
    let s5 = passed (nat_lt (length left.bytes) size) _ _ read s4.1 in
    let s6 =
    passed (not (list_all (λ b. b == 0) (slice_range left.bytes size (padded size)))) _ _ read
    s5.1 in
    let is = same_ok _ read s6.1 in
    let kind_true = not-false (nat_eq (first_u32 left.bytes) kind) s3.0 in
    record {
      long = grind (arith, nat_tests, s2.0);
      kind_is = grind (arith, nat_tests, kind_true);
      large = grind (arith, nat_tests, s4.0);
      fits = grind (arith, nat_tests, s5.0);
      zeros = not-false _ s6.0;
      body = ap (λ (r : List ℕ × RestFacts). r.0) is;
      rest = ap (λ (r : List ℕ × RestFacts). r.1.bytes) is;
    }

-- its size counts type and size and the body
size_is : (kind : ℕ) (left : RestFacts) (read : List ℕ × RestFacts) → IsPassed kind left read
    → first_u32 (drop 4 left.bytes) ≡ 8 + length read.0
size_is kind left read p =
    let size = first_u32 (drop 4 left.bytes) in
    let large = p.large in
    let fits = p.fits in
    let body_len : length (slice_range left.bytes 8 size) ≡ size - 8 = search (rules, places) in
    rw (← p.body) (omega arith)

-- a tag whose padding is all there is spelled so
whole_tag_is : (kind : ℕ) (left : RestFacts) (read : List ℕ × RestFacts) → AreBytes left.bytes
    → IsPassed kind left read → padded (first_u32 (drop 4 left.bytes)) ≤ length left.bytes
    → left.bytes ≡ tag kind read.0 ++ read.1.bytes
whole_tag_is kind left read small p enough =
    let bytes = left.bytes in
    let size = first_u32 (drop 4 bytes) in
    let whole = padded size in
    let body = slice_range bytes 8 size in
    let pad = slice_range bytes size whole in
    let long = p.long in
    let large = p.large in
    let front : u32_bytes (first_u32 bytes) ++ drop 4 bytes ≡ bytes =
    word_then bytes small (omega arith) in
    let second : u32_bytes size ++ drop 4 (drop 4 bytes) ≡ drop 4 bytes =
    word_then (drop 4 bytes) (drop_small 4 bytes small) (search (rules, places)) in
    let body_split : body ++ drop size bytes ≡ drop 8 bytes =
    ap (λ (n : ℕ). body ++ drop n bytes) (omega arith)
    ∙ ap (λ (xs : List ℕ). body ++ xs) (sym (drop-drop (size - 8) 8 bytes))
    ∙ take-append-drop (size - 8) (drop 8 bytes) in
    let pad_split : pad ++ drop whole bytes ≡ drop size bytes =
    ap (λ (n : ℕ). pad ++ drop n bytes) (omega arith)
    ∙ ap (λ (xs : List ℕ). pad ++ xs) (sym (drop-drop (whole - size) size bytes))
    ∙ take-append-drop (whole - size) (drop size bytes) in
    let body_len : length body ≡ size - 8 = search (rules, places) in
    let pad_len : length pad ≡ whole - size = search (rules, places) in
    let count : length pad ≡ (8 - length body % 8) % 8 = omega arith in
    let pad_is : pad ≡ padding (length body) =
    all_zero pad p.zeros ∙ ap (λ (n : ℕ). replicate n 0) count in
    let total : size ≡ 8 + length body = omega arith in
    let spelled : bytes ≡ tag kind body ++ drop whole bytes =
    sym front ∙ ap₂ (λ (n : ℕ) (xs : List ℕ). u32_bytes n ++ xs) p.kind_is (sym second)
    ∙ ap₂ (λ (n : ℕ) (xs : List ℕ). u32_bytes kind ++ (u32_bytes n ++ xs)) total
    (drop-drop 4 4 bytes ∙ sym body_split)
    ∙ ap (λ (xs : List ℕ). u32_bytes kind ++ (u32_bytes (8 + length body) ++ (body ++ xs)))
    (sym pad_split)
    ∙ ap
    (λ (xs : List ℕ).
    u32_bytes kind ++ (u32_bytes (8 + length body) ++ (body ++ (xs ++ drop whole bytes))))
    pad_is
    ∙ simp append_assoc in
    rw (← p.body, ← p.rest) spelled

-- where something is left after a tag, its padding is all there
pub tag_is : (kind : ℕ) (left : RestFacts) (read : List ℕ × RestFacts) → AreBytes left.bytes
    → next_info_tag kind left ≡ Ok read → IsRead left (tag kind read.0) read.1 × AreBytes read.0
tag_is kind left read small h =
    let p = passes kind left read h in
    let size = first_u32 (drop 4 left.bytes) in
    let is : IsRead left (tag kind read.0) read.1 = record {
      bytes = λ more.
          whole_tag_is kind left read small p
          (omega (arith, more, length-drop (padded size) left.bytes, ap length p.rest));
      small = rw (← p.rest) (drop_small (padded size) left.bytes small);
    } in
    (is, rw (← p.body) (take_small (size - 8) (drop 8 left.bytes) (drop_small 8 left.bytes small)))

-- a tag with no body has no padding
pub empty_tag_is : (kind : ℕ) (left : RestFacts) (read : List ℕ × RestFacts) → AreBytes left.bytes
    → next_info_tag kind left ≡ Ok read → length read.0 ≡ 0
    → left.bytes ≡ tag kind read.0 ++ read.1.bytes
empty_tag_is kind left read small h empty =
    let p = passes kind left read h in
    let long = p.long in
    whole_tag_is kind left read small p (omega (arith, size_is kind left read p))
