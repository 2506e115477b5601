-- The bytes of the memory map's entries.
use Rattle.std.proofs.Common.{◌≡◌, ◌≤◌, ◌<◌, ◌+◌, ◌*◌, ℕ, List, [], ◌∷◌, ◌++◌, length, take, arith}
use Rattle.std.proofs.Common.{refl}
use Rattle.std.proofs.lemmas.List.{length-append, take_more, length-take}
use Rattle.std.proofs.lemmas.Grind.{common_steps, flat_map-append}
use Rattle.std.specs.List.{flat_map}
use Rattle.std.specs.Prelude.{get_or}
use Rattle.byteorder.specs.Numbers.{length-bytes_low_first}
use Rattle.bl_map.specs.declared.region.Region.{Region}
use Rattle.bl_map.specs.Kinds.{kind_number}
use Rattle.bl_params.specs.FieldBytes.{number_bytes}
use Rattle.bl_params.specs.BootParams.{e820_entry_bytes}

pub length-number_bytes : (n x : ℕ) → length (number_bytes n x) ≡ n
unfolding number_bytes
length-number_bytes n x = length-bytes_low_first 0 n x

pub length-entry_bytes : (run : Region) → length (e820_entry_bytes run) ≡ 20
length-entry_bytes run =
    let base = length-number_bytes 8 run.base in
    let size = length-number_bytes 8 run.length in
    let kind = length-number_bytes 4 (kind_number run.kind) in
    let inner = length-append (number_bytes 8 run.length) (number_bytes 4 (kind_number run.kind)) in
    let outer =
    length-append (number_bytes 8 run.base)
    (number_bytes 8 run.length ++ number_bytes 4 (kind_number run.kind)) in
    omega arith

pub length-entries : (runs : List Region) → length (flat_map e820_entry_bytes runs) ≡ 20 * length runs
length-entries [] = refl
length-entries (run ∷ runs) =
    let first = length-entry_bytes run in
    let rest = length-entries runs in
    let both = length-append (e820_entry_bytes run) (flat_map e820_entry_bytes runs) in
    omega arith

-- one entry more
pub entries_more : (runs : List Region) (i : ℕ) (d : Region) → i < length runs
    → flat_map e820_entry_bytes (take (i + 1) runs)
    ≡ flat_map e820_entry_bytes (take i runs) ++ e820_entry_bytes (get_or runs i d)
entries_more runs i d within =
    rw (take_more runs i d within, flat_map-append) (grind (arith, common_steps))

pub entries_upto : (runs : List Region) (i : ℕ) → i ≤ length runs
    → length (flat_map e820_entry_bytes (take i runs)) ≡ 20 * i
entries_upto runs i within =
    let all = length-entries (take i runs) in
    let count = length-take i runs in
    grind (arith, common_steps)
