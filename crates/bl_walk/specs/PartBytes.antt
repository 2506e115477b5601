-- Bytes by address, in the parts of a handover. Own.
use Rattle.std.specs.Prelude.{ℕ, ◌+◌, ◌-◌, Bool, ◌&&◌, if◌then◌else◌, ◌==◌, nat_le, List, [], drop}
use Rattle.std.specs.Prelude.{slice_range, Option, Some, option_map}
use Rattle.std.specs.List.{find}
use Rattle.bl_load.specs.Handover.{Part, end_of}

-- whether so many bytes from an address on lie in a part
abbrev pub lies_in : ℕ → ℕ → Part → Bool
lies_in address count part = nat_le part.address address && nat_le (address + count) (end_of part)

-- the part that they lie in, of whatever role; bytes that reach from one part into the next lie in
-- none
unfoldable pub part_with : List Part → ℕ → ℕ → Option Part
part_with parts address count = find (lies_in address count) parts

-- the bytes themselves; a range of no byte is followed nowhere, so it lies anywhere
unfoldable pub bytes_in : List Part → ℕ → ℕ → Option (List ℕ)
bytes_in parts address count =
    if count == 0 then Some [] else
    option_map
    (λ part. slice_range part.bytes (address - part.address) (address - part.address + count))
    (part_with parts address count)

-- the bytes from an address on, up to the end of its part
unfoldable pub rest_in : List Part → ℕ → Option (List ℕ)
rest_in parts address =
    option_map (λ part. drop (address - part.address) part.bytes) (part_with parts address 1)
