-- How explanations end.
use Rattle.std.proofs.Common.{◌≡◌, ◌+◌, ◌≤◌, ◌++◌, ◌==◌, ◌&&◌, ℕ, nat_le, nat_lt}
use Rattle.std.proofs.Common.{false, List, [], ◌∷◌, refl}
use Rattle.std.proofs.Common.{arith, inl, inr}
use Rattle.std.specs.Prelude.{IsUtf8}
use Rattle.std.specs.Str.{is_utf8}
use Rattle.std.proofs.lemmas.Bool.{cases_Bool}
use Rattle.std.proofs.lemmas.Str.{IsUtf8-from_is_utf8}
use Rattle.program_boots.specs.explaining.TextPlaces.{after_byte, after_bytes}
use Rattle.program_say.specs.declared.subjects.blame.TextPlace.{TextPlace}

-- ---- places in a text

pub after_bytes_more : (place : TextPlace) (bytes : List ℕ) (b : ℕ)
    → after_bytes place (bytes ++ b ∷ []) ≡ after_byte (after_bytes place bytes) b
after_bytes_more place [] b = refl
after_bytes_more place (x ∷ bytes) b = after_bytes_more (after_byte place x) bytes b

-- a byte adds one at most
pub after_byte_small : (place : TextPlace) (b n : ℕ) → place.line ≤ n → place.column ≤ n
    → ((after_byte place b).line ≤ n + 1) × ((after_byte place b).column ≤ n + 1)
after_byte_small place b n line column =
    elim (cases_Bool (b == 10)) [
      | inl feed ↦ rw feed (omega arith, omega arith)
      | inr other ↦
          elim (cases_Bool (nat_le 0x80 b && nat_lt b 0xC0)) [
            | inl inside ↦ rw (other, inside) (omega arith, omega arith)
            | inr first ↦ rw (other, first) (omega arith, omega arith)
          ]
    ]

-- ---- texts

pub no_text : (desc : List ℕ) → (IsUtf8 desc → ⊥) → is_utf8 desc ≡ false
no_text desc not =
    elim (cases_Bool (is_utf8 desc)) [
      | inl text ↦ absurd (not (IsUtf8-from_is_utf8 desc text))
      | inr none ↦ none
    ]
