-- Pieces appended one after the other are the tags.
use Rattle.std.proofs.Common.{◌≡◌, ◌+◌, ℕ, List, [], ◌∷◌, ◌++◌, length, arith, append_assoc}
use Rattle.bl_mem.specs.LittleEndian.{u32_bytes}
use Rattle.bl_mbi.specs.declared.tag_types.TheConstants.{TAG_MODULE}
use Rattle.bl_mbi.specs.InfoToWriteFacts.{ModuleInfo}
use Rattle.bl_mbi.specs.Tags.{padding, module_body, module_tag}
use Rattle.bl_mbi.proofs.Sizes.{length-module_body}

-- seven pieces, one after the other
pub appended_7 : (o p q r s t u v a b c d e f h : List ℕ) → p ≡ o ++ a → q ≡ p ++ b → r ≡ q ++ c
    → s ≡ r ++ d → t ≡ s ++ e → u ≡ t ++ f → v ≡ u ++ h
    → v ≡ o ++ (a ++ (b ++ (c ++ (d ++ (e ++ (f ++ h))))))
appended_7 o p q r s t u v a b c d e f h p-is q-is r-is s-is t-is u-is v-is =
    rw (v-is, u-is, t-is, s-is, r-is, q-is, p-is) (simp append_assoc)

pub module_pieces : (m : ModuleInfo) (line : List ℕ) → line ≡ m.line
    → u32_bytes TAG_MODULE
    ++ (u32_bytes (length line + 17)
    ++ (u32_bytes m.mod_start
    ++ (u32_bytes m.mod_end ++ (line ++ (0 ∷ [] ++ padding (length line + 9))))))
    ≡ module_tag m
module_pieces m line e =
    let len = length-module_body m in
    let whole : length m.line + 17 ≡ 8 + length (module_body m) = omega (arith, len) in
    rw (e, whole, ← len) (simp append_assoc)
