-- Memory in a slice before and after a call: what is said of the memory that the call was handed is
-- so of the slice.
use Rattle.std.proofs.Common.{◌≡◌, ◌+◌, List, ℕ, ap, arith, length, length-append, replicate, sym}
use Rattle.std.proofs.lemmas.List.{length-replicate}
use Rattle.bl_mem.specs.Memory.{memory_from}
use Rattle.bl_mem.specs.declared.slice_memory.SliceMemory.{SliceMemory}

pub slice_size : (base : ℕ) (bytes : List ℕ) (memory : SliceMemory) (size : ℕ)
    → memory.base ≡ base → memory.held.now ≡ bytes → base + length bytes ≡ size
    → length (memory_from memory.base memory.held.now) ≡ size
slice_size base bytes memory size starts holds is =
    omega (
      arith,
      starts,
      ap length holds,
      is,
      length-append (replicate memory.base 0) memory.held.now,
      length-replicate {A = ℕ} memory.base 0,
    )

-- memory begins where it began, since its size is kept and the slice's length is
pub over_slice : (P : (before after : List ℕ) → Type 0) (base : ℕ) (bytes : List ℕ)
    (old new : SliceMemory)
    → old.base ≡ base → old.held.now ≡ bytes
    → length (memory_from new.base new.held.now) ≡ length (memory_from old.base old.held.now)
    → P (memory_from old.base old.held.now) (memory_from new.base new.held.now)
    → (left : List ℕ) → left ≡ new.held.now → length left ≡ length bytes
    → P (memory_from base bytes) (memory_from base left)
over_slice P base bytes old new starts holds size so left is length_is =
    let stays : new.base ≡ base =
    omega (
      arith,
      starts,
      size,
      ap length holds,
      ap length is,
      length_is,
      length-append (replicate old.base 0) old.held.now,
      length-replicate {A = ℕ} old.base 0,
      length-append (replicate new.base 0) new.held.now,
      length-replicate {A = ℕ} new.base 0,
    ) in
    rw (starts, stays, holds, sym is) at so
