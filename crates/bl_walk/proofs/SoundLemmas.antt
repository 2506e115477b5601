-- Where something is seen in an image that is entered as it must be, no fault stands.
use Rattle.std.proofs.Common.{◌≡◌, ◌*◌, ℕ, List, [], Option, Some, None, Result, Ok, Err, sym, ap}
use Rattle.std.proofs.Common.{◌∙◌}
use Rattle.std.proofs.Common.{arith, subst, ⊎_elim}
use Rattle.std.specs.Prelude.{IfOk, OnOk}
use Rattle.std.specs.List.{Contains}
use Rattle.bl_mbi.specs.InfoFacts.{InfoFacts}
use Rattle.bl_mbi.specs.Reading.{info_of}
use Rattle.bl_params.specs.ParamsFacts.{ParamsFacts}
use Rattle.bl_params.specs.Reading.{IsParams}
use Rattle.bl_params.proofs.ParamsLaws.{not_both}
use Rattle.bl_plan.specs.declared.protocol.Protocol.TheVariants.{Multiboot2}
use Rattle.bl_load.specs.Handover.{Handover}
use Rattle.bl_load.specs.Registers.{information_in, page_tables_in}
use Rattle.bl_params.specs.Translation.{translation}
use Rattle.bl_walk.specs.Faults.{IsFollowed, IsOutside, HasBadInfo, HasBadState, IsSound}
use Rattle.bl_walk.specs.Faults.{size_word, information, loaded_module, descriptors, boot_params}
use Rattle.bl_walk.specs.Faults.{command_line, initrd, page_tables, outside_kernel, outside_parts}
use Rattle.bl_walk.specs.Faults.{short_information, other_information, other_parameters}
use Rattle.bl_walk.specs.Faults.{endless_line, other_registers, other_descriptors}
use Rattle.bl_walk.specs.Faults.{other_translation}
use Rattle.bl_walk.specs.PartBytes.{bytes_in, rest_in}
use Rattle.bl_walk.specs.Seen.{HasInformation, AreSeenModules, InformationShows, HasParameters}
use Rattle.bl_walk.specs.Seen.{IsLine, IsInitrd, ParametersShow, IsSeen, text_to_zero}
use Rattle.bl_walk.specs.SeenFacts.{SeenModuleFacts, SeenFileFacts, SeenFacts}
use Rattle.bl_walk.specs.State.{IsEntered}
use Rattle.bl_walk.proofs.RangeLemmas.{nothing_in, rest_is_inside}
use Rattle.bl_walk.proofs.LengthLemmas.{same_some}
use Rattle.bl_walk.proofs.OneToldLemmas.{not_handed, no_descriptors, not_wide}
use Rattle.bl_walk.proofs.OneToldLemmas.{not_none, same_size, same_information, says_read}
use Rattle.bl_walk.proofs.OneToldLemmas.{same_info, same_bytes, same_params, seen_at}

-- ---- Multiboot2

module _ (h : Handover) (info : InfoFacts) (ss : List SeenModuleFacts)
    (says : HasInformation h info)
    (modules : AreSeenModules h.parts info.facts.modules ss) where
  protocol_is : h.protocol ≡ Multiboot2
  protocol_is = says.information.total_size.protocol

  followed_inside : (address count : ℕ) → IsFollowed h address count
      → bytes_in h.parts address count ≡ None → ⊥
  followed_inside address count (size_word p) none =
      not_none _ says.information.total_size.word says.information.total_size.whole none
  followed_inside address count (information size is least) none =
      let same =
      ap (bytes_in h.parts (information_in h.registers))
      (same_size h size says.information.size is says.information.total_size) in
      not_none _ says.bytes (same ∙ says.information.whole) none
  followed_inside address count (loaded_module other m is among) none =
      let same = same_info h other info is says in
      let here = subst (λ (i : InfoFacts). Contains i.facts.modules m) same among in
      let seen = seen_at h.parts info.facts.modules ss here.0 m modules here.1 here.2 in
      not_none _ seen.0 seen.1 none
  followed_inside address count (descriptors gdt p) none =
      no_descriptors h.protocol gdt protocol_is p
  followed_inside address count (boot_params p) none = not_handed h.protocol protocol_is p
  followed_inside address count (command_line params is) none =
      not_handed h.protocol protocol_is is.parameters.handed
  followed_inside address count (initrd params is) none =
      not_handed h.protocol protocol_is is.parameters.handed
  followed_inside address count (page_tables wide) none = not_wide h.protocol protocol_is wide

  good_information : HasBadInfo h → ⊥
  good_information (short_information size is low) =
      let same = same_size h size says.information.size is says.information.total_size in
      let least = says.information.least in
      omega arith
  good_information (other_information bytes fault is refused) =
      let same = ap info_of (same_information h bytes says.bytes is says.information) in
      let read = says_read h info says in
      cc
  good_information (other_parameters bytes fault are other first) =
      not_handed h.protocol protocol_is are.handed
  good_information (endless_line params rest is from none) =
      not_handed h.protocol protocol_is is.parameters.handed

-- ---- Linux

module _ (h : Handover) (params : ParamsFacts) (line : List ℕ) (file : Option SeenFileFacts)
    (say : HasParameters h params)
    (text : IsLine h.parts params.cmd_line_ptr line) (ramdisk : IsInitrd h.parts params file)
    (entered : IsEntered h) where
  not_told : h.protocol ≡ Multiboot2 → ⊥
  not_told is = not_handed h.protocol is say.parameters.handed

  ramdisk_inside : (seen : Option SeenFileFacts) → IsInitrd h.parts params seen
      → (bytes : List ℕ) × (bytes_in h.parts params.ramdisk_image params.ramdisk_size ≡ Some bytes)
  ramdisk_inside None is = ([], nothing_in h.parts params.ramdisk_image params.ramdisk_size is)
  ramdisk_inside (Some seen) is = (seen.bytes, is.2)

  linux_inside : (address count : ℕ) → IsFollowed h address count
      → bytes_in h.parts address count ≡ None → ⊥
  linux_inside address count (size_word p) none = not_told p
  linux_inside address count (information size is least) none = not_told is.protocol
  linux_inside address count (loaded_module other m is among) none =
      not_told is.information.total_size.protocol
  linux_inside address count (descriptors gdt p) none =
      not_none _ gdt (entered.descriptors gdt p) none
  linux_inside address count (boot_params p) none = not_none _ say.bytes say.parameters.whole none
  linux_inside address count (command_line other is) none =
      let same =
      ap (λ (p : ParamsFacts). bytes_in h.parts p.cmd_line_ptr 1)
      (same_params h params other say is) in
      rest_is_inside h.parts params.cmd_line_ptr text.rest text.from (same ∙ none)
  linux_inside address count (initrd other is) none =
      let same =
      ap (λ (p : ParamsFacts). bytes_in h.parts p.ramdisk_image p.ramdisk_size)
      (same_params h params other say is) in
      let held = ramdisk_inside file ramdisk in
      not_none _ held.0 held.1 (same ∙ none)
  linux_inside address count (page_tables wide) none =
      let tables = entered.paging wide in not_none _ tables.0 tables.1 none

  good_parameters : HasBadInfo h → ⊥
  good_parameters (short_information size is low) = not_told is.protocol
  good_parameters (other_information bytes fault is refused) = not_told is.total_size.protocol
  good_parameters (other_parameters bytes fault are other first) =
      let same = same_bytes h say.bytes bytes say.parameters are in
      not_both bytes params fault other (subst (λ bs. IsParams bs params) same say.told) first
  good_parameters (endless_line other rest is from none) =
      let same =
      ap (λ (p : ParamsFacts). rest_in h.parts p.cmd_line_ptr)
      (same_params h params other say is) in
      let one = same_some text.rest rest (sym text.from ∙ same ∙ from) in
      let ended = text.text in
      let fails = ap text_to_zero one ∙ none in
      cc

-- ---- both

module _ (h : Handover) (seen : SeenFacts) (entered : IsEntered h) where
  entered_state : HasBadState h → ⊥
  entered_state (other_registers other) = other entered.registers
  entered_state (other_descriptors gdt bytes p is other) =
      other (same_some bytes gdt (sym is ∙ entered.descriptors gdt p))
  entered_state (other_translation bytes page wide is within other) =
      let tables = entered.paging wide in
      let same = same_some tables.0 bytes (sym tables.1 ∙ is) in
      other
      (subst
      (λ (l : List ℕ).
      translation l (page_tables_in h.registers) (page * 0x200000) ≡ Some (page * 0x200000)) same
      (tables.2 (page * 0x200000) (omega arith)))

  entered_inside : ((address count : ℕ) → IsFollowed h address count
      → bytes_in h.parts address count ≡ None → ⊥) → IsOutside h → ⊥
  entered_inside inside (outside_kernel missed) = let found = entered.kernel in cc
  entered_inside inside (outside_parts address count is none) = inside address count is none

  sound_information : InformationShows h seen → IsSound h
  sound_information shown = record {
    inside = entered_inside (followed_inside h shown.info seen.modules shown.says shown.modules);
    info = good_information h shown.info seen.modules shown.says shown.modules;
    state = entered_state;
  }

  sound_parameters : ParametersShow h seen → IsSound h
  sound_parameters shown = record {
    inside =
        entered_inside
        (linux_inside h shown.params seen.line seen.initrd shown.say shown.line shown.initrd
        entered);
    info =
        good_parameters h shown.params seen.line seen.initrd shown.say shown.line shown.initrd
        entered;
    state = entered_state;
  }

pub seen_is_sound : (h : Handover) (seen : SeenFacts) → IsEntered h → IsSeen h seen → IsSound h
seen_is_sound h seen entered is =
    ⊎_elim (sound_information h seen entered) (sound_parameters h seen entered) is.shown

-- the same of an answer
pub sound_by : {E : Type 0} (h : Handover) (answer : Result SeenFacts E) → IsEntered h
    → IfOk answer (IsSeen h) → OnOk answer (IsSound h)
sound_by h (Ok seen) entered is = seen_is_sound h seen entered is
sound_by h (Err fault) entered is = tt
