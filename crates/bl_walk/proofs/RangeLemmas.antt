-- The bytes of a range, and those from an address to the end of its part.
use Rattle.std.proofs.Common.{◌≡◌, ◌+◌, ◌-◌, ◌≤◌, ℕ, ◌==◌, false, List, [], length, take, drop}
use Rattle.std.proofs.Common.{slice_range, Option, Some, None, option_map, refl, sym, ap, ◌∙◌}
use Rattle.std.proofs.Common.{arith, length-drop}
use Rattle.std.proofs.lemmas.Bool.{ne_eqb}
use Rattle.std.proofs.Math.Seq.{take-length}
use Rattle.bl_load.specs.Handover.{Part}
use Rattle.bl_walk.specs.PartBytes.{part_with, bytes_in, rest_in}

-- ---- the bytes of a range

pub nothing_in : (parts : List Part) (address count : ℕ) → count ≡ 0
    → bytes_in parts address count ≡ Some []
unfolding bytes_in
nothing_in parts address count none = rw none

pub bytes_of : (parts : List Part) (address count : ℕ) → 1 ≤ count
    → bytes_in parts address count
    ≡ option_map
    (λ part.
    slice_range part.bytes (address - part.address) (address - part.address + count))
    (part_with parts address count)
unfolding bytes_in
bytes_of parts address count some =
    let filled : (count == 0) ≡ false = ne_eqb count 0 (omega arith) in
    rw filled

pub outside_in : (parts : List Part) (address count : ℕ) → 1 ≤ count
    → part_with parts address count ≡ None → bytes_in parts address count ≡ None
outside_in parts address count some none = rw (bytes_of parts address count some, none)

pub inside_in : (parts : List Part) (address count : ℕ) (part : Part) → 1 ≤ count
    → part_with parts address count ≡ Some part
    → bytes_in parts address count
    ≡ Some (slice_range part.bytes (address - part.address) (address - part.address + count))
inside_in parts address count part some is = rw (bytes_of parts address count some, is)

pub no_rest_in : (parts : List Part) (address : ℕ) → part_with parts address 1 ≡ None
    → rest_in parts address ≡ None
unfolding rest_in
no_rest_in parts address none = rw none

pub some_rest_in : (parts : List Part) (address : ℕ) (part : Part)
    → part_with parts address 1 ≡ Some part
    → rest_in parts address ≡ Some (drop (address - part.address) part.bytes)
unfolding rest_in
some_rest_in parts address part is = rw is

-- the whole rest, as a slice without an end reads it
pub all_of : (bytes : List ℕ) (from : ℕ)
    → take (length bytes - from) (drop from bytes) ≡ drop from bytes
all_of bytes from =
    ap (λ n. take n (drop from bytes)) (sym (length-drop from bytes))
    ∙ take-length (drop from bytes)

no_bytes : {X Y : Type 0} (found : Option X) (f g : X → Y) → option_map f found ≡ None
    → option_map g found ≡ None
no_bytes None f g none = refl
no_bytes (Some x) f g none = absurd (cc)

-- an address that lies in no part has no rest, and its byte lies in none
pub rest_is_outside : (parts : List Part) (address : ℕ) → rest_in parts address ≡ None
    → bytes_in parts address 1 ≡ None
unfolding rest_in bytes_in
rest_is_outside parts address none =
    no_bytes (part_with parts address 1) (λ part. drop (address - part.address) part.bytes)
    (λ part. slice_range part.bytes (address - part.address) (address - part.address + 1)) none

not_no_bytes : {X Y : Type 0} (found : Option X) (f g : X → Y) (y : Y) → option_map f found ≡ Some y
    → option_map g found ≡ None → ⊥
not_no_bytes None f g y some none = cc
not_no_bytes (Some x) f g y some none = cc

pub rest_is_inside : (parts : List Part) (address : ℕ) (rest : List ℕ)
    → rest_in parts address ≡ Some rest → bytes_in parts address 1 ≡ None → ⊥
unfolding rest_in bytes_in
rest_is_inside parts address rest some none =
    not_no_bytes (part_with parts address 1) (λ part. drop (address - part.address) part.bytes)
    (λ part. slice_range part.bytes (address - part.address) (address - part.address + 1)) rest
    some none
