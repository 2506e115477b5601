-- What an image tells is one: its information, its parameters and their modules.
use Rattle.std.proofs.Common.{◌≡◌, ◌-◌, ◌<◌, ℕ, zero, suc, List, [], ◌∷◌, length, get_or}
use Rattle.std.proofs.Common.{Option, Some, None, Result, Ok, true, sym, ap, ◌∙◌, arith, subst}
use Rattle.bl_mem.specs.LittleEndian.{u32_at}
use Rattle.bl_mbi.specs.declared.fault.InfoFault.{InfoFault}
use Rattle.bl_mbi.specs.InfoToWriteFacts.{ModuleInfo}
use Rattle.bl_mbi.specs.InfoFacts.{InfoFacts, IsSpelling}
use Rattle.bl_mbi.specs.Reading.{info_of}
use Rattle.bl_mbi.proofs.ReadAgain.{spelled_is_read}
use Rattle.bl_params.specs.ParamsFacts.{ParamsFacts}
use Rattle.bl_params.specs.Reading.{IsParams}
use Rattle.bl_params.proofs.ParamsLaws.{one_reading}
use Rattle.bl_load.specs.Handover.{Part, Handover}
use Rattle.bl_load.specs.Protocols.{has_params, descriptors_of, is_wide}
use Rattle.bl_load.specs.Registers.{information_in}
use Rattle.bl_plan.specs.declared.protocol.Protocol.{Protocol}
use Rattle.bl_plan.specs.declared.protocol.Protocol.TheVariants.{Multiboot2}
use Rattle.bl_walk.specs.PartBytes.{bytes_in}
use Rattle.bl_walk.specs.Seen.{HasTotalSize, IsInformation, HasInformation, AreSeenModules}
use Rattle.bl_walk.specs.Seen.{AreParameters, HasParameters}
use Rattle.bl_walk.specs.SeenFacts.{SeenModuleFacts}
use Rattle.bl_walk.proofs.LengthLemmas.{same_some}

pub not_none : {A : Type 0} (found : Option A) (x : A) → found ≡ Some x → found ≡ None → ⊥
not_none found x some none = cc

same_ok : (x y : InfoFacts) → (let r : Result InfoFacts InfoFault = Ok x in r) ≡ Ok y → x ≡ y
same_ok x y same = cc

-- a Multiboot2 kernel is handed no boot parameters and no descriptors
pub not_handed : (p : Protocol) → p ≡ Multiboot2 → has_params p ≡ true → ⊥
not_handed p is handed = let none = ap has_params is in cc

pub no_descriptors : (p : Protocol) (gdt : List ℕ) → p ≡ Multiboot2 → descriptors_of p ≡ Some gdt
    → ⊥
no_descriptors p gdt is handed = let none = ap descriptors_of is in cc

-- and is not entered with 64 bits
pub not_wide : (p : Protocol) → p ≡ Multiboot2 → is_wide p ≡ true → ⊥
not_wide p is wide = let none = ap is_wide is in cc

-- ---- the information is one

pub same_size : (h : Handover) (a b : ℕ) → HasTotalSize h a → HasTotalSize h b → a ≡ b
same_size h a b p q =
    let same = same_some p.word q.word (sym p.whole ∙ q.whole) in
    p.told ∙ ap (λ bytes. u32_at bytes 0) same ∙ sym q.told

pub same_information : (h : Handover) (a b : List ℕ) → IsInformation h a → IsInformation h b → a ≡ b
same_information h a b p q =
    same_some a b
    (sym p.whole
    ∙ ap (bytes_in h.parts (information_in h.registers))
    (same_size h p.size q.size p.total_size q.total_size) ∙ q.whole)

spelling_read : (bytes : List ℕ) (info : InfoFacts) → IsSpelling bytes info → info_of bytes ≡ Ok info
spelling_read bytes info is =
    let e = is.exact in
    rw e (spelled_is_read info.name info.facts is.name is.facts (rw (← e) is.short))

pub says_read : (h : Handover) (info : InfoFacts) (says : HasInformation h info)
    → info_of says.bytes ≡ Ok info
says_read h info says =
    spelling_read says.bytes info says.spelling

pub same_info : (h : Handover) (a b : InfoFacts) → HasInformation h a → HasInformation h b → a ≡ b
same_info h a b p q =
    same_ok a b
    (sym (says_read h a p)
    ∙ ap info_of (same_information h p.bytes q.bytes p.information q.information)
    ∙ says_read h b q)

-- ---- the boot parameters are one

pub same_bytes : (h : Handover) (a b : List ℕ) → AreParameters h a → AreParameters h b → a ≡ b
same_bytes h a b p q = same_some a b (sym p.whole ∙ q.whole)

pub same_params : (h : Handover) (a b : ParamsFacts) → HasParameters h a → HasParameters h b → a ≡ b
same_params h a b p q =
    one_reading q.bytes a b
    (subst (λ bytes. IsParams bytes a) (same_bytes h p.bytes q.bytes p.parameters q.parameters)
    p.told) q.told

-- ---- each module that is told of is seen

pub seen_at : (parts : List Part) (ms : List ModuleInfo) (ss : List SeenModuleFacts) (k : ℕ)
    (m : ModuleInfo) → AreSeenModules parts ms ss
    → k < length ms → get_or ms k m ≡ m
    → (bytes : List ℕ) × (bytes_in parts m.mod_start (m.mod_end - m.mod_start) ≡ Some bytes)
seen_at parts [] ss k m are within is = absurd (omega arith)
seen_at parts (n ∷ ms) [] k m are within is = absurd are
seen_at parts (n ∷ ms) (s ∷ ss) zero m are within is = (
  s.bytes,
  subst
      (λ (x : ModuleInfo). bytes_in parts x.mod_start (x.mod_end - x.mod_start) ≡ Some s.bytes) is
      are.0.bytes,
)
seen_at parts (n ∷ ms) (s ∷ ss) (suc k) m are within is =
    seen_at parts ms ss k m are.1 (omega arith) is
