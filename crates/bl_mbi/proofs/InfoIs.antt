-- Boot information that is read is spelled so.
use Rattle.std.proofs.Common.{◌≡◌, ◌<◌, ◌≤◌, ◌+◌, ◌^◌, ℕ, List, [], ◌++◌, length, drop, Ok, arith}
use Rattle.std.proofs.Common.{sym, ap, ap₂, ◌∙◌, append_assoc, length-drop, option_map}
use Rattle.std.specs.Prelude.{nat_eq, nat_lt, not}
use Rattle.std.specs.List.{flat_map}
use Rattle.std.proofs.lemmas.Bool.{not-false}
use Rattle.std.proofs.lemmas.Bool.Decides.{nat_tests}
use Rattle.std.proofs.lemmas.List.{drop-drop}
use Rattle.bl_mem.specs.LittleEndian.{u32_bytes}
use Rattle.bl_mbi.specs.declared.tag_types.TheConstants.{TAG_COMMAND_LINE, TAG_BOOT_LOADER_NAME}
use Rattle.bl_mbi.specs.declared.tag_types.TheConstants.{TAG_BASIC_MEMORY, TAG_MEMORY_MAP}
use Rattle.bl_mbi.specs.declared.tag_types.TheConstants.{TAG_FRAMEBUFFER, TAG_SMBIOS, TAG_ACPI_OLD}
use Rattle.bl_mbi.specs.declared.tag_types.TheConstants.{TAG_ACPI_NEW, TAG_EFI_MAP, TAG_LOAD_BASE}
use Rattle.bl_mbi.specs.declared.tag_types.TheConstants.{TAG_END}
use Rattle.bl_mbi.specs.InfoToWriteFacts.{InfoToWriteFacts, IsText, AreBytes, IsToldScreen}
use Rattle.bl_mbi.specs.InfoToWriteFacts.{FitsInfoFields}
use Rattle.bl_mbi.specs.InfoFacts.{InfoFacts, IsSpelling}
use Rattle.bl_mbi.specs.Tags.{tag, tag_if, text_body, module_tag, memory_body, map_body}
use Rattle.bl_mbi.specs.Tags.{screen_body, pointer_tag, smbios_body, efi_map_body}
use Rattle.bl_mbi.specs.Spelling.{tags, info_spelling}
use Rattle.bl_mbi.specs.ReadingSteps.{RestFacts, first_u32, optional_at}
use Rattle.bl_mbi.specs.Bodies.{load_base_of}
use Rattle.bl_mbi.specs.FirmwareBodies.{framebuffer_of}
use Rattle.bl_mbi.specs.Reading.{text_and_module_tags_at, memory_tags_at, table_tags_at, end_at}
use Rattle.bl_mbi.specs.Reading.{info_of_tags, info_of}
use Rattle.bl_mbi.proofs.Inverse.{passed, made, same_ok}
use Rattle.bl_mbi.proofs.Sizes.{length-tag}
use Rattle.bl_mbi.proofs.WordLaws.{word_then, word_small}
use Rattle.bl_mbi.proofs.TagIs.{IsRead, drop_small}
use Rattle.bl_mbi.proofs.BodyIs.{load_base_is}
use Rattle.bl_mbi.proofs.FirmwareBodyIs.{screen_is}
use Rattle.bl_mbi.proofs.ReadIs.{both_read, optional_is, end_at_is}
use Rattle.bl_mbi.proofs.GroupIs.{texts_are, memory_tags_are, table_tags_are}

-- the tags that were read, one after the other
record IsInOrder (left : RestFacts) (info : InfoFacts) : Type 0 where
  bytes : left.bytes ≡ tags info.name info.facts
  name : IsText info.name
  facts : FitsInfoFields info.facts

end_stands : 1 ≤ length (tag TAG_END [])
end_stands = omega (arith, length-tag TAG_END [])

-- the end tag stands behind the last of them, so the end cuts none
in_order : (l0 l1 l2 l3 l4 l5 : RestFacts) (a b c d e : List ℕ) → IsRead l0 a l1 → IsRead l1 b l2
    → IsRead l2 c l3 → IsRead l3 d l4 → IsRead l4 e l5 → l5.bytes ≡ tag TAG_END []
    → l0.bytes ≡ a ++ (b ++ (c ++ (d ++ (e ++ tag TAG_END []))))
in_order l0 l1 l2 l3 l4 l5 a b c d e r1 r2 r3 r4 r5 last =
    let from_4 = both_read l3 l4 l5 d e r4 r5 in
    let from_3 = both_read l2 l3 l5 c _ r3 from_4 in
    let from_2 = both_read l1 l2 l5 b _ r2 from_3 in
    let from_1 = both_read l0 l1 l5 a _ r1 from_2 in
    from_1.bytes (rw last end_stands) ∙ rw last (simp append_assoc)

-- the groups together, one tag after the other
flat : (a b c d e f g h i j k l m : List ℕ)
    → (a ++ (b ++ c)) ++ ((d ++ e) ++ (f ++ ((g ++ (h ++ (i ++ (j ++ k)))) ++ (l ++ m))))
    ≡ a ++ (b ++ (c ++ (d ++ (e ++ (f ++ (g ++ (h ++ (i ++ (j ++ (k ++ (l ++ m)))))))))))
flat a b c d e f g h i j k l m = simp append_assoc

tags_by_groups : (name : List ℕ) (facts : InfoToWriteFacts)
    → (tag TAG_COMMAND_LINE (text_body facts.line)
    ++ (tag TAG_BOOT_LOADER_NAME (text_body name) ++ flat_map module_tag facts.modules))
    ++ ((tag TAG_BASIC_MEMORY (memory_body facts.mem_lower facts.mem_upper)
    ++ tag TAG_MEMORY_MAP (map_body facts.runs))
    ++ (tag_if TAG_FRAMEBUFFER (option_map screen_body facts.screen)
    ++ ((pointer_tag facts.efi
    ++ (tag_if TAG_SMBIOS (option_map smbios_body facts.smbios)
    ++ (tag_if TAG_ACPI_OLD facts.rsdp_old
    ++ (tag_if TAG_ACPI_NEW facts.rsdp_new
    ++ tag_if TAG_EFI_MAP (option_map efi_map_body facts.efi)))))
    ++ (tag_if TAG_LOAD_BASE (option_map u32_bytes facts.load_base) ++ tag TAG_END []))))
    ≡ tags name facts
tags_by_groups name facts =
    flat (tag TAG_COMMAND_LINE (text_body facts.line)) (tag TAG_BOOT_LOADER_NAME (text_body name))
    (flat_map module_tag facts.modules)
    (tag TAG_BASIC_MEMORY (memory_body facts.mem_lower facts.mem_upper))
    (tag TAG_MEMORY_MAP (map_body facts.runs))
    (tag_if TAG_FRAMEBUFFER (option_map screen_body facts.screen)) (pointer_tag facts.efi)
    (tag_if TAG_SMBIOS (option_map smbios_body facts.smbios)) (tag_if TAG_ACPI_OLD facts.rsdp_old)
    (tag_if TAG_ACPI_NEW facts.rsdp_new) (tag_if TAG_EFI_MAP (option_map efi_map_body facts.efi))
    (tag_if TAG_LOAD_BASE (option_map u32_bytes facts.load_base)) (tag TAG_END [])

tags_are : (left : RestFacts) (info : InfoFacts) → AreBytes left.bytes → info_of_tags left ≡ Ok info
    → IsInOrder left info
unfolding info_of_tags
tags_are left info small h =
    let s1 = made (text_and_module_tags_at left) _ info h in
    let s2 = made (memory_tags_at s1.0.1) _ info s1.2 in
    let s3 = made (optional_at TAG_FRAMEBUFFER framebuffer_of s2.0.1) _ info s2.2 in
    let s4 = made (table_tags_at s3.0.1) _ info s3.2 in
    let s5 = made (optional_at TAG_LOAD_BASE load_base_of s4.0.1) _ info s4.2 in
    let s6 = made (end_at s5.0.1) _ info s5.2 in
    let texts = texts_are left s1.0 small s1.1 in
    let memory = memory_tags_are s1.0.1 s2.0 texts.read.small s2.1 in
    let screen =
    optional_is IsToldScreen TAG_FRAMEBUFFER framebuffer_of screen_body s2.0.1 s3.0 screen_is
    memory.read.small s3.1 in
    let tables = table_tags_are s3.0.1 s4.0 screen.0.small s4.1 in
    let base =
    optional_is (λ (base : ℕ). base < 2 ^ 32) TAG_LOAD_BASE load_base_of u32_bytes s4.0.1 s5.0
    load_base_is tables.read.small s5.1 in
    let end : s5.0.1.bytes ≡ tag TAG_END [] = end_at_is s5.0.1 base.0.small s6.1 in
    let facts : InfoToWriteFacts =
    record {
      line = s1.0.0.0;
      modules = s1.0.0.2;
      mem_lower = s2.0.0.0.0;
      mem_upper = s2.0.0.0.1;
      runs = s2.0.0.1;
      screen = s3.0.0;
      efi = s4.0.0.0;
      smbios = s4.0.0.1;
      rsdp_old = s4.0.0.2;
      rsdp_new = s4.0.0.3;
      load_base = s5.0.0;
    } in
    let info_is : InfoFacts = record { name = s1.0.0.1; facts = facts } in
    let is : IsInOrder left info_is = record {
      bytes =
          in_order left s1.0.1 s2.0.1 s3.0.1 s4.0.1 s5.0.1 _ _ _ _ _ texts.read memory.read screen.0
          tables.read base.0 end ∙ tags_by_groups s1.0.0.1 facts;
      name = texts.name;
      facts =
          record {
            line = texts.line;
            modules = texts.modules;
            mem_lower = memory.sizes.lower;
            mem_upper = memory.sizes.upper;
            runs = memory.runs;
            screen = screen.1;
            efi = tables.efi;
            smbios = tables.smbios;
            rsdp_old = tables.old;
            rsdp_new = tables.new;
            load_base = base.1;
          };
    } in
    rw (← same_ok info_is info s6.2) is

-- what was read is spelled so
pub read_is_spelled : (bytes : List ℕ) (info : InfoFacts) → AreBytes bytes → info_of bytes ≡ Ok info
    → IsSpelling bytes info
unfolding info_of info_spelling
read_is_spelled bytes info small h =
    let s1 = passed (nat_lt (length bytes) 16) _ _ info h in
    let s2 = passed (not (nat_eq (first_u32 bytes) (length bytes))) _ _ info s1.1 in
    let s3 = passed (not (nat_eq (first_u32 (drop 4 bytes)) 0)) _ _ info s2.1 in
    let long : 16 ≤ length bytes = grind (arith, nat_tests, s1.0) in
    let whole : first_u32 bytes ≡ length bytes = grind (arith, nat_tests, not-false _ s2.0) in
    let reserved : first_u32 (drop 4 bytes) ≡ 0 = grind (arith, nat_tests, not-false _ s3.0) in
    let is =
    tags_are record { at = 8; bytes = drop 8 bytes } info (drop_small 8 bytes small) s3.1 in
    let all : drop 8 bytes ≡ tags info.name info.facts = is.bytes in
    let total : length bytes ≡ 8 + length (tags info.name info.facts) =
    omega (arith, length-drop 8 bytes, ap length all) in
    let front : u32_bytes (first_u32 bytes) ++ drop 4 bytes ≡ bytes =
    word_then bytes small (omega arith) in
    let second : u32_bytes (first_u32 (drop 4 bytes)) ++ drop 4 (drop 4 bytes) ≡ drop 4 bytes =
    word_then (drop 4 bytes) (drop_small 4 bytes small) (omega (arith, length-drop 4 bytes)) in
    record {
      short = omega (arith, whole, word_small bytes small);
      exact =
          sym front ∙ ap₂ (λ (n : ℕ) (xs : List ℕ). u32_bytes n ++ xs) (whole ∙ total) (sym second)
          ∙ ap₂
          (λ (n : ℕ) (xs : List ℕ).
          u32_bytes (8 + length (tags info.name info.facts)) ++ (u32_bytes n ++ xs))
          reserved (drop-drop 4 4 bytes ∙ all);
      name = is.name;
      facts = is.facts;
    }
