-- What is seen in an image is one thing.
use Rattle.std.proofs.Common.{◌≡◌, ℕ, List, [], ◌∷◌, Option, Some, None, refl, sym, ap, ap₂, ◌∙◌}
use Rattle.std.proofs.Common.{arith, subst, ⊎_elim}
use Rattle.bl_mbi.specs.InfoToWriteFacts.{ModuleInfo}
use Rattle.bl_mbi.specs.InfoFacts.{InfoFacts}
use Rattle.bl_params.specs.ParamsFacts.{ParamsFacts}
use Rattle.bl_load.specs.Handover.{Part, Handover}
use Rattle.bl_walk.specs.Seen.{IsSeenModule, AreSeenModules, InformationShows, IsLine, IsInitrd}
use Rattle.bl_walk.specs.Seen.{ParametersShow, IsSeen, text_to_zero, firmware_in_information}
use Rattle.bl_walk.specs.Seen.{firmware_in_parameters}
use Rattle.bl_walk.specs.SeenFacts.{SeenModuleFacts, SeenFileFacts, SeenFacts}
use Rattle.bl_walk.proofs.LengthLemmas.{same_some}
use Rattle.bl_walk.proofs.OneToldLemmas.{not_handed, same_info, same_params}

same_module : (parts : List Part) (m : ModuleInfo) (s t : SeenModuleFacts) → IsSeenModule parts m s
    → IsSeenModule parts m t → s ≡ t
same_module parts m s t a b =
    let start = a.start ∙ sym b.start in
    let bytes = same_some s.bytes t.bytes (sym a.bytes ∙ b.bytes) in
    let line = a.line ∙ sym b.line in
    λ i. record { mod_start = start i; bytes = bytes i; line = line i }

same_modules : (parts : List Part) (ms : List ModuleInfo) (ss ts : List SeenModuleFacts)
    → AreSeenModules parts ms ss → AreSeenModules parts ms ts → ss ≡ ts
same_modules parts [] [] [] a b = refl
same_modules parts [] (s ∷ ss) ts a b = absurd a
same_modules parts [] [] (t ∷ ts) a b = absurd b
same_modules parts (m ∷ ms) [] ts a b = absurd a
same_modules parts (m ∷ ms) (s ∷ ss) [] a b = absurd b
same_modules parts (m ∷ ms) (s ∷ ss) (t ∷ ts) a b =
    ap₂ (λ (x : SeenModuleFacts) (xs : List SeenModuleFacts). x ∷ xs)
    (same_module parts m s t a.0 b.0) (same_modules parts ms ss ts a.1 b.1)

same_line : (parts : List Part) (address : ℕ) (s t : List ℕ) → IsLine parts address s
    → IsLine parts address t → s ≡ t
same_line parts address s t a b =
    let rest = same_some a.rest b.rest (sym a.from ∙ b.from) in
    same_some s t (sym a.text ∙ ap text_to_zero rest ∙ b.text)

same_initrd : (parts : List Part) (params : ParamsFacts) (s t : Option SeenFileFacts)
    → IsInitrd parts params s → IsInitrd parts params t → s ≡ t
same_initrd parts params None None a b = refl
same_initrd parts params None (Some t) a b = absurd (omega arith)
same_initrd parts params (Some s) None a b = absurd (omega arith)
same_initrd parts params (Some s) (Some t) a b =
    let address = a.1 ∙ sym b.1 in
    let bytes = same_some s.bytes t.bytes (sym a.2 ∙ b.2) in
    let same : s ≡ t = λ i. record { address = address i; bytes = bytes i } in
    ap Some same

-- the fields that the information or the boot parameters show
record AreSame (s t : SeenFacts) : Type 0 where
  line : s.line ≡ t.line
  modules : s.modules ≡ t.modules
  initrd : s.initrd ≡ t.initrd
  runs : s.map ≡ t.map
  rsdp_old : s.rsdp_old ≡ t.rsdp_old
  rsdp_new : s.rsdp_new ≡ t.rsdp_new
  firmware : s.firmware ≡ t.firmware

by_information : (h : Handover) (s t : SeenFacts) → InformationShows h s → InformationShows h t
    → AreSame s t
by_information h s t a b =
    let same = same_info h a.info b.info a.says b.says in
    let told =
    subst (λ (i : InfoFacts). AreSeenModules h.parts i.facts.modules s.modules) same
    a.modules in
    record {
      line = a.line ∙ ap (λ (i : InfoFacts). i.facts.line) same ∙ sym b.line;
      modules = same_modules h.parts b.info.facts.modules s.modules t.modules told b.modules;
      initrd = a.initrd ∙ sym b.initrd;
      runs = a.runs ∙ ap (λ (i : InfoFacts). i.facts.runs) same ∙ sym b.runs;
      rsdp_old = a.rsdp_old ∙ ap (λ (i : InfoFacts). i.facts.rsdp_old) same ∙ sym b.rsdp_old;
      rsdp_new = a.rsdp_new ∙ ap (λ (i : InfoFacts). i.facts.rsdp_new) same ∙ sym b.rsdp_new;
      firmware =
          a.firmware ∙ ap (λ (i : InfoFacts). firmware_in_information i.facts) same
          ∙ sym b.firmware;
    }

by_parameters : (h : Handover) (s t : SeenFacts) → ParametersShow h s → ParametersShow h t
    → AreSame s t
by_parameters h s t a b =
    let same = same_params h a.params b.params a.say b.say in
    let text = subst (λ (p : ParamsFacts). IsLine h.parts p.cmd_line_ptr s.line) same a.line in
    let ramdisk = subst (λ (p : ParamsFacts). IsInitrd h.parts p s.initrd) same a.initrd in
    record {
      line = same_line h.parts b.params.cmd_line_ptr s.line t.line text b.line;
      modules = a.modules ∙ sym b.modules;
      initrd = same_initrd h.parts b.params s.initrd t.initrd ramdisk b.initrd;
      runs = a.runs ∙ ap (λ (p : ParamsFacts). p.runs) same ∙ sym b.runs;
      rsdp_old = a.rsdp_old ∙ sym b.rsdp_old;
      rsdp_new = a.rsdp_new ∙ sym b.rsdp_new;
      firmware = a.firmware ∙ ap firmware_in_parameters same ∙ sym b.firmware;
    }

-- one protocol
apart : (h : Handover) (s t : SeenFacts) → InformationShows h s → ParametersShow h t → ⊥
apart h s t a b =
    not_handed h.protocol a.says.information.total_size.protocol b.say.parameters.handed

all_same : (h : Handover) (s t : SeenFacts) → IsSeen h s → IsSeen h t → AreSame s t
all_same h s t a b =
    ⊎_elim
    (λ x. ⊎_elim (λ y. by_information h s t x y) (λ y. absurd (apart h s t x y)) b.shown)
    (λ x. ⊎_elim (λ y. absurd (apart h t s y x)) (λ y. by_parameters h s t x y) b.shown)
    a.shown

pub seen_is_determined : (h : Handover) (s t : SeenFacts) → IsSeen h s → IsSeen h t → s ≡ t
seen_is_determined h s t a b =
    let same = all_same h s t a b in
    let protocol = a.protocol ∙ sym b.protocol in
    let entry = a.entry ∙ sym b.entry in
    let line = same.line in
    let kernel = a.kernel ∙ sym b.kernel in
    let modules = same.modules in
    let initrd = same.initrd in
    let runs = same.runs in
    let rsdp_old = same.rsdp_old in
    let rsdp_new = same.rsdp_new in
    let firmware = same.firmware in
    λ i. record {
      protocol = protocol i;
      entry = entry i;
      line = line i;
      kernel = kernel i;
      modules = modules i;
      initrd = initrd i;
      map = runs i;
      rsdp_old = rsdp_old i;
      rsdp_new = rsdp_new i;
      firmware = firmware i;
    }
