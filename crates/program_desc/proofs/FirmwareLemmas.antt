-- What firmware tells: a broken rule of its table, and the colours of a screen.
use Rattle.std.proofs.Common.{◌≡◌, ℕ, Some, None, List, [], ◌∷◌, length, get_or, refl, arith}
use Rattle.std.specs.Prelude.{slice_get}
use Rattle.toml.specs.Data.{Members}
use Rattle.toml.specs.View.{view, items_view}
use Rattle.toml.specs.declared.value.Value.{Value}
use Rattle.program_desc.specs.DescribedFirmware.{color_in, color_of}
use Rattle.program_desc.specs.KeyRules.{KeyRule, key_rules}
use Rattle.program_desc.specs.internal.FirmwareReading.{IsFirmwareBad}
use Rattle.program_desc.specs.internal.TableReading.{BreaksAt}
use Rattle.program_desc.specs.declared.bad_key.BadKey.{BadKey}
use Rattle.program_desc.specs.declared.bad_key.TablePlace.TheVariants as places
use Rattle.program_desc.specs.declared.key_set.KeySet.TheVariants as keys
use Rattle.program_desc.proofs.FaultLemmas.{at_rule}

-- a broken rule of the table of what firmware tells
pub firmware_rule : (n : ℕ) (rule : KeyRule) (ms : Members)
    → slice_get (key_rules 0 keys.Firmware) n ≡ Some rule → (bad : BadKey)
    → BreaksAt places.Firmware rule ms bad → IsFirmwareBad ms bad
firmware_rule n rule ms is bad h =
    let fault = at_rule keys.Firmware n rule places.Firmware ms is bad h in rw fault.0 fault.1

-- ---- colours

pub color_of_two : (vs : List Value) (a b : Value) → length vs ≡ 2 → a ≡ get_or vs 0 a
    → b ≡ get_or vs 1 b → color_in (items_view vs) ≡ color_of (view a) (view b)
color_of_two [] a b two first second = absurd (omega (arith, two))
color_of_two (v ∷ []) a b two first second = absurd (omega (arith, two))
color_of_two (v ∷ w ∷ []) a b two first second =
    let one : a ≡ v = first in let other : b ≡ w = second in rw (one, other) refl
color_of_two (v ∷ w ∷ x ∷ vs) a b two first second = absurd (omega (arith, two))

pub no_color : (vs : List Value) → ¬ (length vs ≡ 2) → color_in (items_view vs) ≡ None
no_color [] h = refl
no_color (v ∷ []) h = refl
no_color (v ∷ w ∷ []) h = absurd (h refl)
no_color (v ∷ w ∷ x ∷ vs) h = refl
