-- The groups of tags together.
use Rattle.std.proofs.Common.{◌≡◌, ◌+◌, ◌<◌, ◌^◌, ℕ, List, [], ◌∷◌, ◌++◌, length, map, sum_by}
use Rattle.std.proofs.Common.{Option, Some, None, is_some, arith, refl, append_assoc}
use Rattle.std.specs.Prelude.{codes, option_map, IfSome}
use Rattle.std.specs.List.{flat_map}
use Rattle.std.proofs.lemmas.List.Sums.{sum_by-cons}
use Rattle.bl_mem.specs.LittleEndian.{u32_bytes}
use Rattle.bl_mbi.specs.declared.tag_types.TheConstants.{TAG_COMMAND_LINE, TAG_BOOT_LOADER_NAME}
use Rattle.bl_mbi.specs.declared.tag_types.TheConstants.{TAG_BASIC_MEMORY, TAG_MEMORY_MAP}
use Rattle.bl_mbi.specs.declared.tag_types.TheConstants.{TAG_FRAMEBUFFER, TAG_SMBIOS, TAG_ACPI_OLD}
use Rattle.bl_mbi.specs.declared.tag_types.TheConstants.{TAG_ACPI_NEW, TAG_EFI_MAP, TAG_LOAD_BASE}
use Rattle.bl_mbi.specs.declared.tag_types.TheConstants.{TAG_END}
use Rattle.bl_mbi.specs.Size.{tag_size, tag_size_if, behind_8, size_by_lengths}
use Rattle.bl_mbi.specs.InfoToWriteFacts.{InfoToWriteFacts, HasSpelling, ModuleInfo, info_size}
use Rattle.bl_mbi.specs.internal.GroupSizes.{modules_size, texts_size, memory_tags_size}
use Rattle.bl_mbi.specs.internal.GroupSizes.{firmware_tags_size, copy_tags_size, closing_tags_size}
use Rattle.bl_mbi.specs.Tags.{tag, tag_if, text_body, module_tag, memory_body, map_body}
use Rattle.bl_mbi.specs.Tags.{screen_body, pointer_tag, smbios_body, efi_map_body}
use Rattle.bl_mbi.specs.Spelling.{tags, info_spelling}
use Rattle.bl_mbi.proofs.Sizes.{length-tags, same_pointer_size}

sum_lines : (modules : List ModuleInfo)
    → sum_by (λ length. tag_size (length + 9)) (map (λ m. length m.line) modules)
    ≡ modules_size modules
sum_lines [] = refl
sum_lines (m ∷ modules) =
    omega (
      arith,
      sum_lines modules,
      sum_by-cons (λ length. tag_size (length + 9)) (length m.line)
          (map (λ (m : ModuleInfo). length m.line) modules),
      sum_by-cons (λ (m : ModuleInfo). tag_size (length m.line + 9)) m modules,
    )

pub info_size_is : (facts : InfoToWriteFacts)
    → info_size facts
    ≡ 8 + texts_size facts + memory_tags_size facts + firmware_tags_size facts
    + copy_tags_size facts
    + closing_tags_size facts
info_size_is facts = omega (arith, sum_lines facts.modules, same_pointer_size facts.efi)

-- by the lengths and by the sum of the modules' tags
pub size_by_parts : (facts : InfoToWriteFacts)
    → size_by_lengths (length facts.line) [] (length facts.runs)
    (option_map length facts.rsdp_old) (option_map length facts.rsdp_new)
    (is_some facts.load_base) (is_some facts.screen) (option_map (λ e. length e.map) facts.efi)
    (option_map (λ s. length s.tables) facts.smbios)
    + modules_size facts.modules
    ≡ info_size facts
size_by_parts facts = omega (arith, sum_lines facts.modules)

-- each part is small
pub record ArePartsSmall (facts : InfoToWriteFacts) : Type 0 where
  pub line : length facts.line < 2 ^ 32
  pub modules : modules_size facts.modules < 2 ^ 32
  pub runs : length facts.runs < 2 ^ 32
  pub efi : IfSome (option_map (λ e. length e.map) facts.efi) (λ n. n < 2 ^ 32)
  pub smbios : IfSome (option_map (λ s. length s.tables) facts.smbios) (λ n. n < 2 ^ 32)
  pub rsdp_old : IfSome (option_map length facts.rsdp_old) (λ n. n < 2 ^ 32)
  pub rsdp_new : IfSome (option_map length facts.rsdp_new) (λ n. n < 2 ^ 32)

body_small : (body : Option ℕ) → tag_size_if body < 2 ^ 32 → IfSome body (λ n. n < 2 ^ 32)
body_small None small = tt
body_small (Some body) small = omega arith

tables_small : (tables : Option ℕ) → tag_size_if (behind_8 tables) < 2 ^ 32
    → IfSome tables (λ n. n < 2 ^ 32)
tables_small None small = tt
tables_small (Some tables) small = omega arith

pub parts_small : (facts : InfoToWriteFacts) → HasSpelling facts → ArePartsSmall facts
parts_small facts is =
    let small = is.small in
    record {
      line = omega arith;
      modules = omega (arith, sum_lines facts.modules);
      runs = omega arith;
      efi = tables_small (option_map (λ e. length e.map) facts.efi) (omega arith);
      smbios = tables_small (option_map (λ s. length s.tables) facts.smbios) (omega arith);
      rsdp_old = body_small (option_map length facts.rsdp_old) (omega arith);
      rsdp_new = body_small (option_map length facts.rsdp_new) (omega arith);
    }

-- the groups, one after the other, are the spelling
pub spelled : (o p q r s t u v : List ℕ) (facts : InfoToWriteFacts) (size : ℕ)
    → size ≡ info_size facts → p ≡ o ++ u32_bytes size → q ≡ p ++ u32_bytes 0
    → r
    ≡ q
    ++ (tag TAG_COMMAND_LINE (text_body facts.line)
    ++ (tag TAG_BOOT_LOADER_NAME (text_body (codes "bootcore"))
    ++ flat_map module_tag facts.modules))
    → s
    ≡ r
    ++ (tag TAG_BASIC_MEMORY (memory_body facts.mem_lower facts.mem_upper)
    ++ tag TAG_MEMORY_MAP (map_body facts.runs))
    → t
    ≡ s
    ++ (tag_if TAG_FRAMEBUFFER (option_map screen_body facts.screen)
    ++ (pointer_tag facts.efi ++ tag_if TAG_SMBIOS (option_map smbios_body facts.smbios)))
    → u
    ≡ t
    ++ (tag_if TAG_ACPI_OLD facts.rsdp_old
    ++ (tag_if TAG_ACPI_NEW facts.rsdp_new
    ++ tag_if TAG_EFI_MAP (option_map efi_map_body facts.efi)))
    → v
    ≡ u ++ (tag_if TAG_LOAD_BASE (option_map u32_bytes facts.load_base) ++ tag TAG_END [])
    → v ≡ o ++ info_spelling (codes "bootcore") facts
unfolding info_spelling
spelled o p q r s t u v facts size size-is p-is q-is r-is s-is t-is u-is v-is =
    let whole : size ≡ 8 + length (tags (codes "bootcore") facts) =
    omega (arith, length-tags (codes "bootcore") facts) in
    rw (v-is, u-is, t-is, s-is, r-is, q-is, p-is, whole) (simp append_assoc)
