-- Memory once an entry was handed over, or once none is left. Own.
use Rattle.std.specs.Prelude.{◌≡◌, ℕ, ◌-◌, ◌<◌, ◌≤◌, List, All, slice_index}
use Rattle.std.specs.declared.ops.Range.{Range}
use Rattle.bl_mem.specs.Memory.{IsIn}
use Rattle.bl_load.specs.Handover.{Part, end_of}

-- a is an address of the part
abbrev pub Spans : Part → ℕ → Type 0
Spans part a = (part.address ≤ a) × (a < end_of part)

-- the byte at each address: the part's if a part spans it; else 0 if the pool has it; else the one
-- before. If no entry is left there are no parts.
pub record IsMemoryAfter (pool : Range ℕ) (parts : List Part) (old new : List ℕ) : Type 0 where
  pub in_parts :
      All (λ part. (a : ℕ) → Spans part a
      → slice_index new a ≡ slice_index part.bytes (a - part.address)) parts
  pub in_pool : (a : ℕ) → All (λ part. ¬ Spans part a) parts → IsIn pool a → slice_index new a ≡ 0
  pub elsewhere :
      (a : ℕ) → All (λ part. ¬ Spans part a) parts → ¬ IsIn pool a
      → slice_index new a ≡ slice_index old a
