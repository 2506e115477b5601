-- The rows and texts of a Multiboot2 entry, as its kernel sees them.
use Rattle.std.proofs.Common.{◌≡◌, ◌≢◌, ◌&&◌, nat_le, nat_lt, ◌<◌, ◌≤◌, ◌^◌, ◌∷◌, ◌++◌, ℕ, true}
use Rattle.std.proofs.Common.{List, [], length, Some, None, Option, refl, arith, suc, All}
use Rattle.std.specs.Prelude.{IfSome, option_map, codes}
use Rattle.std.specs.List.{list_all}
use Rattle.std.proofs.lemmas.Bool.{leb-true, ltb-true}
use Rattle.std.proofs.lemmas.List.Elements.{All-cons, All-nil, All-append}
use Rattle.bl_map.specs.MachineFacts.{MachineFacts}
use Rattle.bl_mb2head.specs.declared.relocation.Relocation.{Relocation}
use Rattle.bl_mbi.specs.InfoToWriteFacts.{IsText}
use Rattle.bl_load.specs.Rows.{module_rows, information_row}
use Rattle.bl_load.specs.EntryValue.{EntryValue, line_fault, lines_fault}
use Rattle.bl_load.proofs.LineLemmas.{sound_short, first_sound}
use Rattle.bl_load.proofs.RowPlaceLemmas.{Anywhere}
use Rattle.bl_walk.proofs.KernelLemmas.{IsOther}
use Rattle.bl_walk.proofs.PartLemmas.{both_true}

-- lines that are sound are short
pub lines_short : (lines : List (List ℕ)) → lines_fault lines ≡ None
    → All (λ (line : List ℕ). length line ≤ 4095) lines
lines_short [] sound = All-nil (λ (line : List ℕ). length line ≤ 4095)
lines_short (line ∷ lines) sound =
    let split = first_sound (line_fault line) (lines_fault lines) sound in
    All-cons (λ (l : List ℕ). length l ≤ 4095) line lines (sound_short line split.0)
    (lines_short lines split.1)

pub base_fits : {X : Type 0} (given : Option X) (base : ℕ) → base < 2 ^ 32
    → IfSome (option_map (λ x. base) given) (λ b. b < 2 ^ 32)
base_fits None base small = tt
base_fits (Some x) base small = small

-- a text, by a test of each byte
text_by : (text : List ℕ) → list_all (λ c. nat_le 1 c && nat_lt c 256) text ≡ true → IsText text
text_by [] is = All-nil (λ (c : ℕ). (c ≢ 0) × (c < 256))
text_by (c ∷ text) is =
    let split = both_true _ _ is in
    let first = both_true _ _ split.0 in
    let low = leb-true 1 c first.0 in
    All-cons (λ (b : ℕ). (b ≢ 0) × (b < 256)) c text (omega arith, ltb-true c 256 first.1)
    (text_by text split.1)

pub name_is : IsText (codes "bootcore")
name_is = text_by (codes "bootcore") refl

-- no row after the kernel's is one of the kernel
module_rows_other : (files : List (List ℕ)) (k : ℕ) (module_lines : List (List ℕ))
    → All (Anywhere IsOther) (module_rows files k module_lines)
module_rows_other files k [] = All-nil (Anywhere IsOther)
module_rows_other files k (line ∷ rest) =
    All-cons (Anywhere IsOther) _ (module_rows files (suc k) rest) (λ a. refl)
    (module_rows_other files (suc k) rest)

pub modules_other : (facts : MachineFacts) (value : EntryValue) (given : Option Relocation)
    → All (Anywhere IsOther)
    (module_rows value.files 0 value.module_lines ++ information_row facts value given ∷ [])
modules_other facts value given =
    All-append (Anywhere IsOther) (module_rows value.files 0 value.module_lines)
    (information_row facts value given ∷ [])
    (module_rows_other value.files 0 value.module_lines)
    (All-cons (Anywhere IsOther) (information_row facts value given) [] (λ a. refl)
    (All-nil (Anywhere IsOther)))
