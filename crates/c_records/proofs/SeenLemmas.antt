-- One module more is told, and its line.
use Rattle.std.proofs.Common.{◌≡◌, ◌∙◌, ◌+◌, ◌<◌, ℕ, zero, suc, List, [], ◌∷◌, ◌++◌, length}
use Rattle.std.proofs.Common.{take, get_or, ap, sym, refl, arith, append_assoc, length-append}
use Rattle.std.proofs.Common.{add-one}
use Rattle.std.specs.List.{flat_map}
use Rattle.bl_image.proofs.Spelled.{flat_map-take}
use Rattle.bl_walk.specs.SeenFacts.{SeenModuleFacts}
use Rattle.c_records.specs.SeenTold.{module_told, modules_told}
use Rattle.c_records.specs.declared.seen_records.SeenModuleRecord.{SeenModuleRecord}

module_next : (ms : List SeenModuleFacts) (i : ℕ) (m : SeenModuleFacts) (at end : ℕ)
    → i < length ms → m ≡ get_or ms i m → end ≡ at + length (flat_map (λ m. m.line) (take i ms))
    → modules_told at (take (suc i) ms) ≡ modules_told at (take i ms) ++ module_told end m ∷ []
module_next [] i m at end within here is = absurd (omega arith)
module_next (x ∷ ms) zero m at end within here is =
    let first : m ≡ x = here in
    let same : end ≡ at = omega (arith, is) in rw (same, first) refl
module_next (x ∷ ms) (suc i) m at end within here is =
    ap (λ told. module_told at x ∷ told)
    (module_next ms i m (at + length x.line) end (omega arith) here
    (omega (arith, is, length-append x.line (flat_map (λ m. m.line) (take i ms)))))

-- its record comes after those of the modules so far
pub one_more_told : (ms : List SeenModuleFacts) (i : ℕ) (m : SeenModuleFacts)
    (start so_far after : List SeenModuleRecord) (first text : List ℕ)
    → i < length ms → m ≡ get_or ms i m → text ≡ first ++ flat_map (λ m. m.line) (take i ms)
    → so_far ≡ start ++ modules_told (length first) (take i ms)
    → after ≡ so_far ++ module_told (length text) m ∷ []
    → after ≡ start ++ modules_told (length first) (take (i + 1) ms)
one_more_told ms i m start so_far after first text within here lines so one =
    let end : length text ≡ length first + length (flat_map (λ m. m.line) (take i ms)) =
    ap length lines ∙ length-append first (flat_map (λ m. m.line) (take i ms)) in
    let next = module_next ms i m (length first) (length text) within here end in
    one ∙ ap (λ told. told ++ module_told (length text) m ∷ []) so
    ∙ append_assoc start (modules_told (length first) (take i ms))
    (module_told (length text) m ∷ [])
    ∙ ap (λ told. start ++ told) (sym (rw add-one next))

-- and its line after theirs
pub one_more_line : (ms : List SeenModuleFacts) (i : ℕ) (m : SeenModuleFacts)
    (first so_far after : List ℕ)
    → i < length ms → m ≡ get_or ms i m → so_far ≡ first ++ flat_map (λ m. m.line) (take i ms)
    → after ≡ so_far ++ m.line → after ≡ first ++ flat_map (λ m. m.line) (take (i + 1) ms)
one_more_line ms i m first so_far after within here so one =
    one ∙ ap (λ lines. lines ++ m.line) so
    ∙ append_assoc first (flat_map (λ m. m.line) (take i ms)) m.line
    ∙ ap (λ lines. first ++ lines) (sym (flat_map-take (λ m. m.line) ms i m here within))
