-- A line with no fault.
use Rattle.std.proofs.Common.{◌≡◌, ◌≢◌, ◌<◌, ◌≤◌, ℕ, zero, suc, Bool, true, false, List, [], ◌∷◌}
use Rattle.std.proofs.Common.{length, get_or, Option, Some, None, All, cond, arith, refl, ap}
use Rattle.std.proofs.Common.{nat_lt, nat_eq}
use Rattle.std.specs.Prelude.{◌==◌}
use Rattle.std.specs.List.{list_any}
use Rattle.std.proofs.lemmas.Bool.{or_parts}
use Rattle.std.proofs.lemmas.Bool.Decides.{nat_tests}
use Rattle.bl_mbi.specs.InfoToWriteFacts.{IsText}
use Rattle.bl_load.specs.declared.refusal.Refusal.{Refusal}
use Rattle.bl_load.specs.declared.refusal.Refusal.TheVariants.{LineHasNul, LineTooLong}
use Rattle.std.specs.Option.{option_or}
use Rattle.std.proofs.lemmas.List.Elements.{All-nil, All-cons}
use Rattle.bl_load.specs.declared.entry.Module.{Module}
use Rattle.bl_load.specs.internal.Multiboot2Entries.{lines_of_modules}
use Rattle.bl_load.specs.EntryValue.{line_fault, lines_fault}

sound_parts : (a b : Bool) (x y : Refusal) → cond a (Some x) (cond b (Some y) None) ≡ None
    → (a ≡ false) × (b ≡ false)
sound_parts true b x y h = absurd cc
sound_parts false true x y h = absurd cc
sound_parts false false x y h = (refl, refl)

parts_of : (line : List ℕ) → line_fault line ≡ None
    → (list_any (λ b. b == 0) line ≡ false) × (nat_lt 4095 (length line) ≡ false)
unfolding line_fault
parts_of line h =
    sound_parts (list_any (λ b. b == 0) line) (nat_lt 4095 (length line)) LineHasNul LineTooLong h

none_zero : (line : List ℕ) → list_any (λ b. b == 0) line ≡ false → (k d : ℕ) → k < length line
    → get_or line k d ≢ 0
none_zero [] h k d within = absurd (omega arith)
none_zero (x ∷ line) h zero d within =
    let e =
    (or_parts (x == 0) (list_any (λ b. b == 0) line) h).0 in
    λ z. let f : nat_eq x 0 ≡ true = grind (arith, nat_tests) in absurd cc
none_zero (x ∷ line) h (suc k) d within =
    none_zero line (or_parts (x == 0) (list_any (λ b. b == 0) line) h).1 k d (omega arith)

-- it is short
pub sound_short : (line : List ℕ) → line_fault line ≡ None → length line ≤ 4095
sound_short line h = let e = (parts_of line h).1 in grind (arith, nat_tests)

-- it is a text, whose bytes are bytes
pub sound_text : (line : List ℕ) → line_fault line ≡ None
    → ((k d : ℕ) → k < length line → get_or line k d < 256) → IsText line
sound_text line h bytes =
    λ k d within. (none_zero line (parts_of line h).0 k d within, bytes k d within)

-- lines have no fault where the first has none and the others have none
pub first_sound : (first rest : Option Refusal) → option_or first rest ≡ None
    → (first ≡ None) × (rest ≡ None)
first_sound None rest h = (refl, h)
first_sound (Some r) rest h = absurd cc

pub all_sound : {A : Type 0} (modules : List (Module A)) → lines_fault (lines_of_modules modules) ≡ None
    → All (λ m. line_fault m.line ≡ None) modules
all_sound {A = A} [] h = All-nil (λ (m : Module A). line_fault m.line ≡ None)
all_sound {A = A} (m ∷ modules) h =
    let parts = first_sound (line_fault m.line) (lines_fault (lines_of_modules modules)) h in
    All-cons (λ (n : Module A). line_fault n.line ≡ None) m modules parts.0
    (all_sound modules parts.1)

pub all_short : {A : Type 0} (modules : List (Module A))
    → All (λ m. line_fault m.line ≡ None) modules → All (λ m. length m.line ≤ 4095) modules
all_short modules sound = λ k d within. sound_short (get_or modules k d).line (sound k d within)

-- a line alone has no fault where it has none
pub one_sound : (line : List ℕ) → line_fault line ≡ None → lines_fault (line ∷ []) ≡ None
one_sound line sound = ap (λ (fault : Option Refusal). option_or fault None) sound
