-- Tags that are read one after the other are their groups, and these the information.
use Rattle.std.proofs.Common.{◌≡◌, ℕ, Option, List, Ok, refl}
use Rattle.bl_map.specs.declared.firmware.efi.EfiBits.{EfiBits}
use Rattle.bl_map.specs.declared.region.Region.{Region}
use Rattle.bl_map.specs.Firmware.{SmbiosFacts}
use Rattle.bl_mbi.specs.declared.tag_types.TheConstants.{TAG_COMMAND_LINE, TAG_BOOT_LOADER_NAME}
use Rattle.bl_mbi.specs.declared.tag_types.TheConstants.{TAG_BASIC_MEMORY, TAG_MEMORY_MAP}
use Rattle.bl_mbi.specs.declared.tag_types.TheConstants.{TAG_FRAMEBUFFER, TAG_SMBIOS, TAG_ACPI_OLD}
use Rattle.bl_mbi.specs.declared.tag_types.TheConstants.{TAG_ACPI_NEW, TAG_LOAD_BASE}
use Rattle.bl_mbi.specs.InfoToWriteFacts.{InfoToWriteFacts, EfiTables, ModuleInfo}
use Rattle.bl_mbi.specs.ReadingSteps.{RestFacts, required_at, optional_at}
use Rattle.bl_mbi.specs.Bodies.{text_of_body, memory_of, map_of, load_base_of}
use Rattle.bl_mbi.specs.FirmwareBodies.{framebuffer_of, smbios_of, copy_of}
use Rattle.bl_mbi.specs.Reading.{modules_at, text_and_module_tags_at, memory_tags_at, pointer_at}
use Rattle.bl_mbi.specs.Reading.{efi_at, table_tags_at, end_at, info_of_tags}

pub texts_in_order : (l0 l1 l2 l3 : RestFacts) (line name : List ℕ) (modules : List ModuleInfo)
    → required_at TAG_COMMAND_LINE text_of_body l0 ≡ Ok (line, l1)
    → required_at TAG_BOOT_LOADER_NAME text_of_body l1 ≡ Ok (name, l2)
    → modules_at l2 ≡ Ok (modules, l3)
    → text_and_module_tags_at l0 ≡ Ok ((line, name, modules), l3)
unfolding text_and_module_tags_at
texts_in_order l0 l1 l2 l3 line name modules a b c = rw (a, b, c) refl

pub memory_in_order : (l0 l1 l2 : RestFacts) (sizes : ℕ × ℕ) (runs : List Region)
    → required_at TAG_BASIC_MEMORY memory_of l0 ≡ Ok (sizes, l1)
    → required_at TAG_MEMORY_MAP map_of l1 ≡ Ok (runs, l2)
    → memory_tags_at l0 ≡ Ok ((sizes, runs), l2)
unfolding memory_tags_at
memory_in_order l0 l1 l2 sizes runs a b = rw (a, b) refl

pub tables_in_order : (l0 l1 l2 l3 l4 l5 : RestFacts) (pointer : Option (EfiBits × ℕ))
    (smbios : Option SmbiosFacts) (old new : Option (List ℕ)) (efi : Option EfiTables)
    → pointer_at l0 ≡ Ok (pointer, l1) → optional_at TAG_SMBIOS smbios_of l1 ≡ Ok (smbios, l2)
    → optional_at TAG_ACPI_OLD copy_of l2 ≡ Ok (old, l3)
    → optional_at TAG_ACPI_NEW copy_of l3 ≡ Ok (new, l4) → efi_at pointer l4 ≡ Ok (efi, l5)
    → table_tags_at l0 ≡ Ok ((efi, smbios, old, new), l5)
unfolding table_tags_at
tables_in_order l0 l1 l2 l3 l4 l5 pointer smbios old new efi a b c d e = rw (a, b, c, d, e) refl

pub all_in_order : (l0 l1 l2 l3 l4 l5 : RestFacts) (name : List ℕ) (facts : InfoToWriteFacts)
    → text_and_module_tags_at l0 ≡ Ok ((facts.line, name, facts.modules), l1)
    → memory_tags_at l1 ≡ Ok (((facts.mem_lower, facts.mem_upper), facts.runs), l2)
    → optional_at TAG_FRAMEBUFFER framebuffer_of l2 ≡ Ok (facts.screen, l3)
    → table_tags_at l3 ≡ Ok ((facts.efi, facts.smbios, facts.rsdp_old, facts.rsdp_new), l4)
    → optional_at TAG_LOAD_BASE load_base_of l4 ≡ Ok (facts.load_base, l5) → end_at l5 ≡ Ok tt
    → info_of_tags l0 ≡ Ok record { name = name; facts = facts }
unfolding info_of_tags
all_in_order l0 l1 l2 l3 l4 l5 name facts a b c d e f = rw (a, b, c, d, e, f) refl
