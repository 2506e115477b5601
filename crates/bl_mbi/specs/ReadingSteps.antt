-- What reading gives, the numbers and the tag at a place (Multiboot2 3.6.2 "Basic tags structure").
use Rattle.std.specs.Prelude.{◌≡◌, ◌+◌, ℕ, Bool, not, ◌&&◌, if◌then◌else◌, ◌==◌, nat_lt, nat_le}
use Rattle.std.specs.Prelude.{List, length, drop, slice_range, Option, Some, None, Result, Ok, Err}
use Rattle.std.specs.List.{list_all}
use Rattle.bl_mem.specs.LittleEndian.{u32_at, u64_at}
use Rattle.bl_mbi.specs.declared.fault.InfoFault.{InfoFault}
use Rattle.bl_mbi.specs.declared.fault.InfoFault.TheVariants.{BadTag, BadOrder, NoMemory}
use Rattle.bl_mbi.specs.Size.{padded}

-- one step after the other, up to the first fault
infixl 10 ◌>>=◌
abbrev pub ◌>>=◌ : {A B : Type 0} → Result A InfoFault → (A → Result B InfoFault)
    → Result B InfoFault
(Ok x) >>= f = f x
(Err e) >>= f = Err e

-- what a function returned, seen by a view, is what reading gives; but memory may run out at any
-- growth
abbrev pub MatchesFault : {Y : Type 0} → InfoFault → Result Y InfoFault → Type 0
MatchesFault NoMemory read = Unit {0}
MatchesFault fault read = read ≡ Err fault

abbrev pub MatchesReading : {X Y : Type 0} → (X → Y) → Result X InfoFault → Result Y InfoFault
    → Type 0
MatchesReading view (Ok x) read = read ≡ Ok (view x)
MatchesReading view (Err e) read = MatchesFault e read

-- the little-endian number at the front
abbrev pub first_u32 : List ℕ → ℕ
first_u32 bytes = u32_at bytes 0

abbrev pub first_u64 : List ℕ → ℕ
first_u64 bytes = u64_at bytes 0

-- the bytes that are left, and the offset at which they stand
pub record RestFacts : Type 0 where
  pub at : ℕ
  pub bytes : List ℕ

-- a tag of this type begins there
abbrev pub is_next : ℕ → RestFacts → Bool
is_next kind left = nat_le 8 (length left.bytes) && (first_u32 left.bytes == kind)

-- the body of the tag there, which must be of this type, and what is left after it: type and size
-- take 8 bytes, the size counts them and the body, zeros follow up to a multiple of 8. The end may
-- cut these zeros, and then nothing is left at that multiple.
unfoldable pub next_info_tag : ℕ → RestFacts → Result (List ℕ × RestFacts) InfoFault
next_info_tag kind left =
    if length left.bytes == 0 then Err (BadOrder left.at) else
    if nat_lt (length left.bytes) 8 then Err (BadTag left.at) else
    if not (first_u32 left.bytes == kind) then Err (BadOrder left.at) else
    let size = first_u32 (drop 4 left.bytes) in
    if nat_lt size 8 then Err (BadTag left.at) else
    if nat_lt (length left.bytes) size then Err (BadTag left.at) else
    let padding = slice_range left.bytes size (padded size) in
    if not (list_all (λ b. b == 0) padding) then Err (BadTag left.at) else
    let after : RestFacts =
    record { at = left.at + padded size; bytes = drop (padded size) left.bytes } in
    Ok (slice_range left.bytes 8 size, after)

-- what a body tells, or that its tag is bad
abbrev pub or_bad : {A : Type 0} → ℕ → Option A → Result A InfoFault
or_bad at None = Err (BadTag at)
or_bad at (Some x) = Ok x

-- what the tag there tells, which must be of this type
unfoldable pub required_at : {A : Type 0} → ℕ → (List ℕ → Option A) → RestFacts
    → Result (A × RestFacts) InfoFault
required_at kind of_body left = do
  tag ← next_info_tag kind left
  told ← or_bad left.at (of_body tag.0)
  Ok (told, tag.1)

-- what a tag of this type tells, where it stands there
unfoldable pub optional_at : {A : Type 0} → ℕ → (List ℕ → Option A) → RestFacts
    → Result (Option A × RestFacts) InfoFault
optional_at kind of_body left =
    if not (is_next kind left) then Ok (None, left) else do
      tag ← next_info_tag kind left
      told ← or_bad left.at (of_body tag.0)
      Ok (Some told, tag.1)
