-- A tag that is spelled is read again, and a tag that is read is spelled so.
use Rattle.std.proofs.Common.{◌≡◌, ◌<◌, ◌≤◌, ◌+◌, ◌-◌, ◌%◌, ◌^◌, ℕ, zero, suc, true, false, List}
use Rattle.std.proofs.Common.{◌++◌, length, drop, replicate, Ok, arith, refl, sym, ap₂, ◌∙◌}
use Rattle.std.proofs.Common.{append_assoc, length-append}
use Rattle.std.specs.Prelude.{slice_range, ◌==◌, nat_eq, nat_lt, nat_le}
use Rattle.std.specs.List.{list_all}
use Rattle.std.proofs.lemmas.Bool.Decides.{nat_tests}
use Rattle.std.proofs.lemmas.List.{take_at, drop_at, drop-drop}
use Rattle.bl_mbi.specs.Size.{padded}
use Rattle.bl_mem.specs.LittleEndian.{u32_bytes}
use Rattle.bl_mbi.specs.Tags.{padding, tag}
use Rattle.bl_mbi.specs.ReadingSteps.{RestFacts, first_u32, is_next, next_info_tag}
use Rattle.bl_mbi.proofs.Sizes.{length-padding, length-tag}
use Rattle.bl_mbi.proofs.WordLaws.{word_front, behind_word}

-- the checks of a tag, each of which is passed
tag_at_ok : (kind size : ℕ) (left : RestFacts) → 8 ≤ length left.bytes → first_u32 left.bytes ≡ kind
    → first_u32 (drop 4 left.bytes) ≡ size → 8 ≤ size → size ≤ length left.bytes
    → list_all (λ b. b == 0) (slice_range left.bytes size (padded size)) ≡ true
    → next_info_tag kind left
    ≡ Ok (
      slice_range left.bytes 8 size,
      record { at = left.at + padded size; bytes = drop (padded size) left.bytes },
    )
unfolding next_info_tag
tag_at_ok kind size left long kind_is size_is large fits zeros =
    let not_empty : nat_eq (length left.bytes) 0 ≡ false = grind (arith, nat_tests) in
    let not_short : nat_lt (length left.bytes) 8 ≡ false = grind (arith, nat_tests) in
    let same_kind : nat_eq kind kind ≡ true = grind (arith, nat_tests) in
    let not_small : nat_lt size 8 ≡ false = grind (arith, nat_tests) in
    let not_cut : nat_lt (length left.bytes) size ≡ false = grind (arith, nat_tests) in
    rw (not_empty, not_short, kind_is, same_kind, size_is, not_small, not_cut, zeros) refl

zeros_only : (n : ℕ) → list_all (λ b. b == 0) (replicate n 0) ≡ true
zeros_only zero = refl
zeros_only (suc n) = zeros_only n

-- after type and size stands the body
behind_head : (kind : ℕ) (body rest : List ℕ)
    → drop 8 (tag kind body ++ rest) ≡ body ++ (padding (length body) ++ rest)
behind_head kind body rest =
    let size = u32_bytes (8 + length body) in
    let both : drop 8 (tag kind body ++ rest) ≡ drop 4 (drop 4 (tag kind body ++ rest)) =
    sym (drop-drop 4 4 (tag kind body ++ rest)) in
    let first : tag kind body ++ rest
    ≡ u32_bytes kind ++ (size ++ (body ++ (padding (length body) ++ rest))) =
    simp append_assoc in
    rw (both, first, behind_word, behind_word) refl

pub tag_again : (kind at : ℕ) (body rest : List ℕ) → kind < 2 ^ 32 → 8 + length body < 2 ^ 32
    → next_info_tag kind record { at = at; bytes = tag kind body ++ rest }
    ≡ Ok (body, record { at = at + length (tag kind body); bytes = rest })
tag_again kind at body rest kind_fits size_fits =
    let size = 8 + length body in
    let pad = padding (length body) in
    let bytes = tag kind body ++ rest in
    let tag_len = length-tag kind body in
    let pad_len = length-padding (length body) in
    let len = length-append (tag kind body) rest in
    let first : bytes ≡ u32_bytes kind ++ (u32_bytes size ++ (body ++ (pad ++ rest))) =
    simp append_assoc in
    let kind_is : first_u32 bytes ≡ kind = rw first (word_front kind _ kind_fits) in
    let size_is : first_u32 (drop 4 bytes) ≡ size =
    rw (first, behind_word) (word_front size _ size_fits) in
    let body_is : slice_range bytes 8 size ≡ body =
    rw behind_head (take_at body (pad ++ rest) (size - 8) (omega arith)) in
    let behind : drop size bytes ≡ pad ++ rest =
    sym (drop-drop (length body) 8 bytes)
    ∙ rw behind_head (drop_at body (pad ++ rest) (length body) refl) in
    let pad_is : slice_range bytes size (padded size) ≡ pad =
    rw behind (take_at pad rest (padded size - size) (omega (arith, pad_len))) in
    let zeros : list_all (λ b. b == 0) (slice_range bytes size (padded size)) ≡ true =
    rw pad_is (zeros_only ((8 - length body % 8) % 8)) in
    let rest_is : drop (padded size) bytes ≡ rest =
    drop_at (tag kind body) rest (padded size) (omega (arith, tag_len)) in
    let whole : padded size ≡ length (tag kind body) = omega (arith, tag_len) in
    tag_at_ok kind size record { at = at; bytes = bytes } (omega (arith, len, tag_len)) kind_is
    size_is (omega arith) (omega (arith, len, tag_len)) zeros
    ∙ ap₂ (λ (x : List ℕ) (l : RestFacts). Ok (x, l)) body_is
    (ap₂ (λ (n : ℕ) (bs : List ℕ). record { at = at + n; bytes = bs }) whole rest_is)

-- a tag is next where its type is asked for, and only there
pub next_tag : (kind other at : ℕ) (body rest : List ℕ) → other < 2 ^ 32
    → is_next kind record { at = at; bytes = tag other body ++ rest } ≡ nat_eq other kind
next_tag kind other at body rest fits =
    let tag_len = length-tag other body in
    let len = length-append (tag other body) rest in
    let long : nat_le 8 (length (tag other body ++ rest)) ≡ true =
    grind (arith, nat_tests, len, tag_len) in
    let first : tag other body ++ rest
    ≡ u32_bytes other
    ++ (u32_bytes (8 + length body) ++ (body ++ (padding (length body) ++ rest))) =
    simp append_assoc in
    let kind_is : first_u32 (tag other body ++ rest) ≡ other = rw first (word_front other _ fits) in
    rw (long, kind_is) refl
