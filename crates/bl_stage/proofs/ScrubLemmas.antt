-- The pool after a stretch of it was cleared.
use Rattle.std.proofs.Common.{◌≡◌, ℕ, ◌+◌, ◌-◌, ◌<◌, ◌≤◌, List, length, get_or, replicate, Bool}
use Rattle.std.proofs.Common.{false, not, cond, nat_lt, nat_le, ◌&&◌, arith, sym, ◌∙◌, inl, inr}
use Rattle.std.specs.declared.ops.Range.{Range}
use Rattle.std.proofs.lemmas.Bool.{cases_lt}
use Rattle.std.proofs.lemmas.Bool.Decides.{nat_tests}
use Rattle.std.proofs.lemmas.List.{get_or-replicate, length-replicate}
use Rattle.bl_mem.specs.Memory.{overwrite}
use Rattle.bl_mem.proofs.Overwrites.{get_or-overwrite_in, get_or-overwrite_below}
use Rattle.bl_mem.proofs.Overwrites.{get_or-overwrite_above}
use Rattle.bl_stage.specs.Ranges.{is_in_ranges, scrubbed_byte}

in_pool : (start end a byte : ℕ) (kept : Bool) → start ≤ a → a < end → kept ≡ false
    → 0 ≡ cond (nat_le start a && (nat_lt a end && not kept)) 0 byte
in_pool start end a byte kept low high free = grind (arith, nat_tests)

-- cleared from `at` up to `edge`
abbrev pub zeroed : List ℕ → ℕ → ℕ → List ℕ
zeroed bytes at edge = overwrite bytes at (replicate (edge - at) 0)

module _ (pool : Range ℕ) (keep : List (Range ℕ)) (old bytes : List ℕ) (at edge : ℕ)
    (forward : at ≤ edge) (inside : edge ≤ length bytes) where
  fits : at + length {A = ℕ} (replicate (edge - at) 0) ≤ length bytes
  fits = omega (arith, length-replicate {A = ℕ} (edge - at) 0)

  pub rest_zeroed : (a : ℕ) → edge ≤ a → get_or (zeroed bytes at edge) a 0 ≡ get_or bytes a 0
  rest_zeroed a h =
      get_or-overwrite_above bytes at (replicate (edge - at) 0) a 0
      (omega (arith, length-replicate {A = ℕ} (edge - at) 0)) fits

  pub done_zeroed : pool.start ≤ at → edge ≤ pool.end → false ≡ is_in_ranges keep at
      → ((a : ℕ) → at ≤ a → a < edge → is_in_ranges keep a ≡ is_in_ranges keep at)
      → ((a : ℕ) → a < at → get_or bytes a 0 ≡ scrubbed_byte pool keep old a)
      → (a : ℕ) → a < edge → get_or (zeroed bytes at edge) a 0 ≡ scrubbed_byte pool keep old a
  done_zeroed low high free same done a h = elim (cases_lt a at) [
    | inl below ↦
        get_or-overwrite_below bytes at (replicate (edge - at) 0) a 0 below fits ∙ done a below
    | inr not_below ↦
        let from : at ≤ a = omega arith in
        get_or-overwrite_in bytes at (replicate (edge - at) 0) a 0 from
        (omega (arith, length-replicate {A = ℕ} (edge - at) 0)) fits
        ∙ get_or-replicate (edge - at) (a - at) 0 0 (omega arith)
        ∙ in_pool pool.start pool.end a (get_or old a 0) (is_in_ranges keep a) (omega arith)
        (omega arith) (same a from h ∙ sym free)
  ]
