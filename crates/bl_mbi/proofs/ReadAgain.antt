-- Boot information that is spelled is read again.
use Rattle.std.proofs.Common.{◌≡◌, ◌<◌, ◌≤◌, ◌+◌, ◌^◌, ℕ, true, false, List, [], ◌++◌, length, drop}
use Rattle.std.proofs.Common.{Ok, lit<, lit≤, arith, length-append, option_map}
use Rattle.std.specs.Prelude.{nat_eq, nat_lt}
use Rattle.std.specs.List.{flat_map}
use Rattle.std.proofs.lemmas.Bool.Decides.{nat_tests}
use Rattle.bl_mem.specs.LittleEndian.{u32_bytes}
use Rattle.bl_mem.proofs.LittleEndianLaws.{length-u32_bytes}
use Rattle.bl_mbi.specs.declared.tag_types.TheConstants.{TAG_COMMAND_LINE, TAG_BOOT_LOADER_NAME}
use Rattle.bl_mbi.specs.declared.tag_types.TheConstants.{TAG_MODULE, TAG_BASIC_MEMORY}
use Rattle.bl_mbi.specs.declared.tag_types.TheConstants.{TAG_MEMORY_MAP, TAG_FRAMEBUFFER, TAG_EFI64}
use Rattle.bl_mbi.specs.declared.tag_types.TheConstants.{TAG_SMBIOS, TAG_ACPI_OLD, TAG_ACPI_NEW}
use Rattle.bl_mbi.specs.declared.tag_types.TheConstants.{TAG_EFI_MAP, TAG_LOAD_BASE, TAG_END}
use Rattle.bl_mbi.specs.InfoToWriteFacts.{InfoToWriteFacts, IsText, IsToldScreen, IsToldSmbios}
use Rattle.bl_mbi.specs.InfoToWriteFacts.{FitsInfoFields}
use Rattle.bl_mbi.specs.Tags.{tag, tag_if, text_body, module_tag, memory_body, map_body}
use Rattle.bl_mbi.specs.Tags.{screen_body, pointer_tag, smbios_body, efi_map_body}
use Rattle.bl_mbi.specs.Spelling.{optional_tags, tags, info_spelling}
use Rattle.bl_mbi.specs.ReadingSteps.{first_u32, RestFacts}
use Rattle.bl_mbi.specs.Bodies.{text_of_body, memory_of, map_of, load_base_of}
use Rattle.bl_mbi.specs.FirmwareBodies.{framebuffer_of, smbios_of, copy_of}
use Rattle.bl_mbi.specs.Reading.{text_and_module_tags_at, memory_tags_at, info_of_tags, info_of}
use Rattle.bl_mbi.proofs.Sizes.{length-tags}
use Rattle.bl_mbi.proofs.WordLaws.{word_front, behind_word, behind_words}
use Rattle.bl_mbi.proofs.TagLaws.{next_tag}
use Rattle.bl_mbi.proofs.BodyLaws.{text_again, memory_again, map_again, load_base_again}
use Rattle.bl_mbi.proofs.FirmwareBodyLaws.{screen_again, smbios_again}
use Rattle.bl_mbi.proofs.TagsAgain.{from, past, required_again, tells_by, tells_copy}
use Rattle.bl_mbi.proofs.TagsAgain.{optional_again, none_at_end, none_before, modules_at_again}
use Rattle.bl_mbi.proofs.TagsAgain.{end_at_again}
use Rattle.bl_mbi.proofs.EfiTagsAgain.{pointer_tag_again, none_before_pointer, efi_map_again}
use Rattle.bl_mbi.proofs.OrderLemmas.{texts_in_order, memory_in_order, tables_in_order}
use Rattle.bl_mbi.proofs.OrderLemmas.{all_in_order}

optional_tags_again : (l0 l1 : RestFacts) (at : ℕ) (name : List ℕ) (facts : InfoToWriteFacts)
    → FitsInfoFields facts → length (optional_tags facts) < 2 ^ 32
    → text_and_module_tags_at l0 ≡ Ok ((facts.line, name, facts.modules), l1)
    → memory_tags_at l1
    ≡ Ok (((facts.mem_lower, facts.mem_upper), facts.runs), from at (optional_tags facts))
    → info_of_tags l0 ≡ Ok record { name = name; facts = facts }
optional_tags_again l0 l1 at name facts is fits texts memory =
    let screen = tag_if TAG_FRAMEBUFFER (option_map screen_body facts.screen) in
    let pointer = pointer_tag facts.efi in
    let smbios = tag_if TAG_SMBIOS (option_map smbios_body facts.smbios) in
    let old = tag_if TAG_ACPI_OLD facts.rsdp_old in
    let new = tag_if TAG_ACPI_NEW facts.rsdp_new in
    let map = tag_if TAG_EFI_MAP (option_map efi_map_body facts.efi) in
    let base = tag_if TAG_LOAD_BASE (option_map u32_bytes facts.load_base) in
    let r7 = tag TAG_END [] in
    let r6 = base ++ r7 in
    let r5 = map ++ r6 in
    let r4 = new ++ r5 in
    let r3 = old ++ r4 in
    let r2 = smbios ++ r3 in
    let r1 = pointer ++ r2 in
    let n7 = none_at_end TAG_LOAD_BASE in
    let n6 = none_before TAG_EFI_MAP TAG_LOAD_BASE _ r7 (lit< tt) (lit< tt) n7 in
    let n5 = none_before TAG_ACPI_NEW TAG_EFI_MAP _ r6 (lit< tt) (lit< tt) n6 in
    let n4 = none_before TAG_ACPI_OLD TAG_ACPI_NEW _ r5 (lit< tt) (lit< tt) n5 in
    let n3 = none_before TAG_SMBIOS TAG_ACPI_OLD _ r4 (lit< tt) (lit< tt) n4 in
    let n2 = none_before TAG_EFI64 TAG_SMBIOS _ r3 (lit< tt) (lit< tt) n3 in
    let n1 = none_before_pointer TAG_FRAMEBUFFER facts.efi r2 (lit< tt) n2 in
    let sum : length screen
    + (length pointer
    + (length smbios + (length old + (length new + (length map + (length base + length r7))))))
    ≡ length (optional_tags facts) =
    omega (
      arith,
      length-append screen r1,
      length-append pointer r2,
      length-append smbios r3,
      length-append old r4,
      length-append new r5,
      length-append map r6,
      length-append base r7,
    ) in
    let l3 = past at screen r1 in
    let l4 = past l3.at pointer r2 in
    let l5 = past l4.at smbios r3 in
    let l6 = past l5.at old r4 in
    let l7 = past l6.at new r5 in
    let l8 = past l7.at map r6 in
    let l9 = past l8.at base r7 in
    all_in_order l0 l1 (from at (optional_tags facts)) l3 l8 l9 name facts texts memory
    (optional_again TAG_FRAMEBUFFER at framebuffer_of _ r1 facts.screen (lit≤ tt) (lit< tt) (omega arith)
    (tells_by IsToldScreen framebuffer_of screen_body facts.screen screen_again is.screen) n1)
    (tables_in_order l3 l4 l5 l6 l7 l8 _ facts.smbios facts.rsdp_old facts.rsdp_new facts.efi
    (pointer_tag_again l3.at facts.efi r2 is.efi (omega arith) n2)
    (optional_again TAG_SMBIOS l4.at smbios_of _ r3 facts.smbios (lit≤ tt) (lit< tt) (omega arith)
    (tells_by IsToldSmbios smbios_of smbios_body facts.smbios smbios_again is.smbios) n3)
    (optional_again TAG_ACPI_OLD l5.at copy_of facts.rsdp_old r4 facts.rsdp_old (lit≤ tt) (lit< tt)
    (omega arith) (tells_copy facts.rsdp_old) n4)
    (optional_again TAG_ACPI_NEW l6.at copy_of facts.rsdp_new r5 facts.rsdp_new (lit≤ tt) (lit< tt)
    (omega arith) (tells_copy facts.rsdp_new) n5)
    (efi_map_again l7.at facts.efi r6 is.efi (omega arith)))
    (optional_again TAG_LOAD_BASE l8.at load_base_of _ r7 facts.load_base (lit≤ tt) (lit< tt)
    (omega arith)
    (tells_by (λ (base : ℕ). base < 2 ^ 32) load_base_of u32_bytes facts.load_base load_base_again
    is.load_base) n7)
    (end_at_again l9.at)

pub tags_again : (at : ℕ) (name : List ℕ) (facts : InfoToWriteFacts) → IsText name
    → FitsInfoFields facts → 8 + length (tags name facts) < 2 ^ 32
    → info_of_tags (from at (tags name facts)) ≡ Ok record { name = name; facts = facts }
tags_again at name facts name_is is fits =
    let line = tag TAG_COMMAND_LINE (text_body facts.line) in
    let loader = tag TAG_BOOT_LOADER_NAME (text_body name) in
    let modules = flat_map module_tag facts.modules in
    let memory = tag TAG_BASIC_MEMORY (memory_body facts.mem_lower facts.mem_upper) in
    let map = tag TAG_MEMORY_MAP (map_body facts.runs) in
    let r5 = optional_tags facts in
    let r4 = map ++ r5 in
    let r3 = memory ++ r4 in
    let r2 = modules ++ r3 in
    let r1 = loader ++ r2 in
    let l1 = past at line r1 in
    let l2 = past l1.at loader r2 in
    let l3 = past l2.at modules r3 in
    let l4 = past l3.at memory r4 in
    let l5 = past l4.at map r5 in
    let sum : length line
    + (length loader + (length modules + (length memory + (length map + length r5))))
    ≡ length (tags name facts) =
    omega (
      arith,
      length-append line r1,
      length-append loader r2,
      length-append modules r3,
      length-append memory r4,
      length-append map r5,
    ) in
    optional_tags_again (from at (tags name facts)) l3 l5.at name facts is (omega arith)
    (texts_in_order (from at (tags name facts)) l1 l2 l3 facts.line name facts.modules
    (required_again TAG_COMMAND_LINE at text_of_body (text_body facts.line) r1 facts.line (lit< tt)
    (omega arith) (text_again facts.line is.line))
    (required_again TAG_BOOT_LOADER_NAME l1.at text_of_body (text_body name) r2 name (lit< tt)
    (omega arith) (text_again name name_is))
    (modules_at_again l2.at facts.modules r3 (omega arith) is.modules
    (λ there. next_tag TAG_MODULE TAG_BASIC_MEMORY there
    (memory_body facts.mem_lower facts.mem_upper) r4 (lit< tt))))
    (memory_in_order l3 l4 l5 (facts.mem_lower, facts.mem_upper) facts.runs
    (required_again TAG_BASIC_MEMORY l3.at memory_of
    (memory_body facts.mem_lower facts.mem_upper) r4 (facts.mem_lower, facts.mem_upper) (lit< tt)
    (omega arith) (memory_again facts.mem_lower facts.mem_upper is.mem_lower is.mem_upper))
    (required_again TAG_MEMORY_MAP l4.at map_of (map_body facts.runs) r5 facts.runs (lit< tt)
    (omega arith) (map_again facts.runs is.runs)))

pub spelled_is_read : (name : List ℕ) (facts : InfoToWriteFacts) → IsText name
    → FitsInfoFields facts
    → length (info_spelling name facts) < 2 ^ 32
    → info_of (info_spelling name facts) ≡ Ok record { name = name; facts = facts }
unfolding info_of info_spelling
spelled_is_read name facts name_is is fits =
    let all = tags name facts in
    let total = 8 + length all in
    let bytes = u32_bytes total ++ (u32_bytes 0 ++ all) in
    let len : length bytes ≡ total =
    omega (
      arith,
      length-append (u32_bytes total) (u32_bytes 0 ++ all),
      length-append (u32_bytes 0) all,
      length-u32_bytes,
    ) in
    let long : 16 ≤ total = omega (arith, length-tags name facts) in
    let not_short : nat_lt (length bytes) 16 ≡ false = grind (arith, nat_tests) in
    let whole : first_u32 bytes ≡ total = word_front total _ (omega arith) in
    let same : nat_eq total (length bytes) ≡ true = grind (arith, nat_tests) in
    let reserved : first_u32 (drop 4 bytes) ≡ 0 = rw behind_word (word_front 0 all (lit< tt)) in
    let rest : drop 8 bytes ≡ all = behind_words total 0 all in
    rw (not_short, whole, same, reserved, rest) (tags_again 8 name facts name_is is (omega arith))
