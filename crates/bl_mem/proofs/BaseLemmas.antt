-- Laws of memory that begins at a base: reads of it, and writes above the base.
use Rattle.std.proofs.Common.{◌≡◌, ℕ, ◌+◌, ◌-◌, ◌≤◌, List, ◌++◌, length}
use Rattle.std.proofs.Common.{slice_range, replicate, arith, rules, ap, sym, ◌∙◌}
use Rattle.std.proofs.lemmas.List.{places, same_lists}
use Rattle.bl_mem.specs.Memory.{overwrite, memory_from}

-- how much memory that is
pub length-from : (base : ℕ) (held : List ℕ) → length (memory_from base held) ≡ base + length held
length-from base held = search (rules, places)

-- what is read above the base
pub read_above : (base : ℕ) (held : List ℕ) (at count : ℕ) → base ≤ at
    → at + count ≤ base + length held
    → slice_range (memory_from base held) at (at + count)
    ≡ slice_range held (at - base) (at - base + count)
read_above base held at count above inside =
    same_lists _ _ (search (rules, places)) (λ k d h. grind (arith, places))

-- what is read from below the base on
pub read_below : (base : ℕ) (held : List ℕ) (at low high : ℕ) → at + low ≤ base
    → (1 ≤ high → at + low ≡ base) → high ≤ length held
    → slice_range (memory_from base held) at (at + (low + high))
    ≡ replicate low 0 ++ slice_range held 0 high
read_below base held at low high below meets inside =
    same_lists _ _ (search (rules, places)) (λ k d h. grind (arith, places))

-- what is written above the base
pub write_above : (base : ℕ) (held : List ℕ) (at : ℕ) (part : List ℕ) → base ≤ at
    → at + length part ≤ base + length held
    → memory_from base (overwrite held (at - base) part) ≡ overwrite (memory_from base held) at part
write_above base held at part above inside =
    same_lists _ _ (search (rules, places)) (λ k d h. grind (arith, places))

-- it is as long after a write
pub length-above : (base : ℕ) (held : List ℕ) (at : ℕ) (part : List ℕ) → base ≤ at
    → at + length part ≤ base + length held
    → length (memory_from base (overwrite held (at - base) part)) ≡ length (memory_from base held)
length-above base held at part above inside = search (rules, places)

-- a copy of the slice's first bytes, and then zeros before them
pub zeros_first : (held : List ℕ) (to low high : ℕ) → to + (low + high) ≤ length held
    → overwrite (overwrite held (to + low) (slice_range held 0 (0 + high))) to (replicate low 0)
    ≡ overwrite held to (replicate low 0 ++ slice_range held 0 high)
zeros_first held to low high inside =
    same_lists _ _ (search (rules, places)) (λ k d h. grind (arith, places))

-- what is read of it and written above the base; it is as long then
pub copied_above : (base : ℕ) (held : List ℕ) (from to count : ℕ) (part : List ℕ)
    → from + count ≤ base + length held → base ≤ to → to + count ≤ base + length held
    → slice_range (memory_from base held) from (from + count) ≡ part
    → (memory_from base (overwrite held (to - base) part)
    ≡ overwrite (memory_from base held) to
    (slice_range (memory_from base held) from (from + count)))
    × (length (memory_from base (overwrite held (to - base) part))
    ≡ length (memory_from base held))
copied_above base held from to count part source above inside is =
    let len : length part ≡ count = rw (← is) (search (rules, places)) in (
      write_above base held to part above (omega arith)
          ∙ ap (overwrite (memory_from base held) to) (sym is),
      length-above base held to part above (omega arith),
    )
