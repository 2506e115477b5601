-- What a blocked stretch says of the addresses about it.
use Rattle.std.proofs.Common.{◌<◌, ◌≤◌, ◌+◌, ℕ, List, arith, inl, inr}
use Rattle.std.proofs.lemmas.Bool.{cases_lt}
use Rattle.std.specs.declared.ops.Range.{Range}
use Rattle.bl_map.specs.MachineFacts.{MachineFacts}
use Rattle.bl_plan.specs.internal.FreeBytes.{IsBlockedBy, IsFree}
use Rattle.bl_plan.specs.Permitted.{IsPermitted}

-- a blocked stretch is blocked for what asks more
pub blocked_for : (P Q : ℕ → Type 0) (start end : ℕ) (stretch : Range ℕ) → ((a : ℕ) → Q a → P a)
    → IsBlockedBy P start end stretch → IsBlockedBy Q start end stretch
blocked_for P Q start end stretch weaker h =
    record {
      forward = h.forward;
      meets_end = h.meets_end;
      meets_start = h.meets_start;
      without = λ a low high q. h.without a low high (weaker a q);
    }

-- bytes that a blocked stretch meets do not all have the property
pub not_all : (P : ℕ → Type 0) (start end : ℕ) (stretch : Range ℕ) → start < end
    → IsBlockedBy P start end stretch → ((a : ℕ) → start ≤ a → a < end → P a) → ⊥
not_all P start end stretch some h all =
    elim (cases_lt stretch.start start) [
      | inl less ↦ h.without start (omega arith) h.meets_start (all start (omega arith) some)
      | inr more ↦
          h.without stretch.start (omega arith) h.forward (all stretch.start more h.meets_end)
    ]

-- no address from at up to the stretch's end is permitted
pub none_up_to_end : (facts : MachineFacts) (taken : List (Range ℕ))
    (length align low high at a : ℕ) (stretch : Range ℕ) → 1 ≤ length
    → IsBlockedBy (IsFree facts taken) at (at + length) stretch → at ≤ a → a < stretch.end
    → IsPermitted facts taken length align low high a → ⊥
none_up_to_end facts taken length align low high at a stretch some h above below p =
    elim (cases_lt a stretch.start) [
      | inl less ↦ let e = h.meets_end in
          h.without stretch.start (omega arith) h.forward (
            p.usable stretch.start (omega arith) (omega arith),
            p.unavoided stretch.start (omega arith) (omega arith),
            p.apart stretch.start (omega arith) (omega arith),
          )
      | inr more ↦
          h.without a more below (
            p.usable a (omega arith) (omega arith),
            p.unavoided a (omega arith) (omega arith),
            p.apart a (omega arith) (omega arith),
          )
    ]

-- no address up to at from which the bytes reach into the stretch is permitted
pub none_down_to_start : (facts : MachineFacts) (taken : List (Range ℕ))
    (length align low high at a : ℕ) (stretch : Range ℕ) → 1 ≤ length
    → IsBlockedBy (IsFree facts taken) at (at + length) stretch → a ≤ at → stretch.start < a + length
    → IsPermitted facts taken length align low high a → ⊥
none_down_to_start facts taken length align low high at a stretch some h below above p =
    let e = h.meets_start in let f = h.forward in
    elim (cases_lt a stretch.start) [
      | inl less ↦
          h.without stretch.start (omega arith) h.forward (
            p.usable stretch.start (omega arith) above,
            p.unavoided stretch.start (omega arith) above,
            p.apart stretch.start (omega arith) above,
          )
      | inr more ↦
          h.without a more (omega arith) (
            p.usable a (omega arith) (omega arith),
            p.unavoided a (omega arith) (omega arith),
            p.apart a (omega arith) (omega arith),
          )
    ]
