-- The number in the bytes that were read is the number at their place.
use Rattle.std.proofs.Common.{◌≡◌, ◌+◌, ◌-◌, ℕ, List, slice_range, drop, arith}
use Rattle.byteorder.specs.Endian.{little_number}
use Rattle.byteorder.specs.Numbers.{little_from-take}
use Rattle.bl_mem.specs.LittleEndian.{number_at}

pub number_at_read : (n at : ℕ) (bytes read : List ℕ) → read ≡ slice_range bytes at (at + n)
    → little_number n read ≡ number_at n bytes at
unfolding number_at
number_at_read n at bytes read e =
    let count : at + n - at ≡ n = omega arith in
    rw (e, count) (little_from-take 0 n n (drop at bytes) (omega arith))
