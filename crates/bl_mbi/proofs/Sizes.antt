-- How long boot information is.
use Rattle.std.proofs.Common.{◌≡◌, ◌+◌, ◌-◌, ◌*◌, ◌%◌, ℕ, List, [], ◌∷◌, length, map, sum_by}
use Rattle.std.proofs.Common.{Bool, Option, Some, None, option_map, is_some, arith, refl, ap, ◌∙◌}
use Rattle.std.proofs.Common.{length-append}
use Rattle.std.specs.Prelude.{codes}
use Rattle.std.specs.List.{flat_map}
use Rattle.std.proofs.lemmas.List.{length-replicate}
use Rattle.std.proofs.lemmas.List.Sums.{sum_by-cons}
use Rattle.bl_map.specs.declared.firmware.efi.EfiBits.{EfiBits}
use Rattle.bl_map.specs.declared.firmware.efi.EfiBits.TheVariants.{Efi32, Efi64}
use Rattle.bl_map.specs.declared.firmware.screen.Screen.{Screen}
use Rattle.bl_map.specs.declared.region.Region.{Region}
use Rattle.bl_map.specs.Firmware.{SmbiosFacts}
use Rattle.bl_mem.specs.LittleEndian.{u32_bytes}
use Rattle.bl_mem.proofs.LittleEndianLaws.{length-u32_bytes, length-u64_bytes}
use Rattle.bl_mbi.specs.declared.tag_types.TheConstants.{TAG_COMMAND_LINE, TAG_BOOT_LOADER_NAME}
use Rattle.bl_mbi.specs.declared.tag_types.TheConstants.{TAG_MODULE, TAG_BASIC_MEMORY}
use Rattle.bl_mbi.specs.declared.tag_types.TheConstants.{TAG_MEMORY_MAP, TAG_FRAMEBUFFER}
use Rattle.bl_mbi.specs.declared.tag_types.TheConstants.{TAG_SMBIOS, TAG_ACPI_OLD, TAG_ACPI_NEW}
use Rattle.bl_mbi.specs.declared.tag_types.TheConstants.{TAG_EFI_MAP, TAG_LOAD_BASE, TAG_END}
use Rattle.bl_mbi.specs.declared.tag_types.TheConstants.{FRAMEBUFFER_BODY}
use Rattle.bl_mbi.specs.Size.{tag_size, tag_size_if, body_if, behind_8}
use Rattle.bl_mbi.specs.InfoToWriteFacts.{InfoToWriteFacts, ModuleInfo, EfiTables, info_size}
use Rattle.bl_mbi.specs.Tags.{padding, tag, tag_if, text_body, module_body, module_tag}
use Rattle.bl_mbi.specs.Tags.{memory_body, run_bytes, map_body, screen_body, pointer_type}
use Rattle.bl_mbi.specs.Tags.{pointer_body, pointer_tag, smbios_body, efi_map_body}
use Rattle.bl_mbi.specs.Spelling.{optional_tags, tags, info_spelling}
use Rattle.bl_mbi.specs.internal.GroupSizes.{firmware_tags_size, copy_tags_size}
use Rattle.bl_mbi.specs.internal.GroupSizes.{closing_tags_size}

pub length-padding : (n : ℕ) → length (padding n) ≡ (8 - n % 8) % 8
length-padding n = length-replicate ((8 - n % 8) % 8) 0

pub length-tag : (kind : ℕ) (body : List ℕ) → length (tag kind body) ≡ tag_size (length body)
length-tag kind body =
    omega (arith, length-append {A = ℕ}, length-u32_bytes, length-padding (length body))

pub length-text_body : (text : List ℕ) → length (text_body text) ≡ length text + 1
length-text_body text = length-append text (0 ∷ [])

pub length-module_body : (m : ModuleInfo) → length (module_body m) ≡ length m.line + 9
length-module_body m = omega (arith, length-append {A = ℕ}, length-u32_bytes)

pub length-module_tag : (m : ModuleInfo) → length (module_tag m) ≡ tag_size (length m.line + 9)
length-module_tag m = length-tag TAG_MODULE (module_body m) ∙ ap tag_size (length-module_body m)

pub length-modules : (modules : List ModuleInfo)
    → length (flat_map module_tag modules)
    ≡ sum_by (λ length. tag_size (length + 9)) (map (λ m. length m.line) modules)
length-modules [] = refl
length-modules (m ∷ modules) =
    let lines = map (λ (m : ModuleInfo). length m.line) modules in
    omega (
      arith,
      length-append (module_tag m) (flat_map module_tag modules),
      length-module_tag m,
      length-modules modules,
      sum_by-cons (λ length. tag_size (length + 9)) (length m.line) lines,
    )

pub length-run_bytes : (run : Region) → length (run_bytes run) ≡ 24
length-run_bytes run = omega (arith, length-append {A = ℕ}, length-u32_bytes, length-u64_bytes)

pub length-runs : (runs : List Region) → length (flat_map run_bytes runs) ≡ 24 * length runs
length-runs [] = refl
length-runs (run ∷ runs) =
    omega (
      arith,
      length-append (run_bytes run) (flat_map run_bytes runs),
      length-run_bytes run,
      length-runs runs,
    )

pub length-map_body : (runs : List Region) → length (map_body runs) ≡ 8 + 24 * length runs
length-map_body runs = omega (arith, length-append {A = ℕ}, length-u32_bytes, length-runs runs)

pub length-screen_body : (screen : Screen) → length (screen_body screen) ≡ FRAMEBUFFER_BODY
length-screen_body screen =
    omega (arith, length-append {A = ℕ}, length-u32_bytes, length-u64_bytes)

pub length-smbios_body : (smbios : SmbiosFacts)
    → length (smbios_body smbios) ≡ length smbios.tables + 8
length-smbios_body smbios = omega (arith, length-append {A = ℕ})

pub length-efi_map_body : (efi : EfiTables) → length (efi_map_body efi) ≡ length efi.map + 8
length-efi_map_body efi = omega (arith, length-append {A = ℕ}, length-u32_bytes)

pub length-pointer : (bits : EfiBits) (a : ℕ) → tag_size (length (pointer_body bits a)) ≡ 16
length-pointer Efi32 a = ap tag_size (length-u32_bytes a)
length-pointer Efi64 a = ap tag_size (length-u64_bytes a)

-- ---- tags that may be missing

pub length-tag_if : (kind : ℕ) (body : Option (List ℕ))
    → length (tag_if kind body) ≡ tag_size_if (option_map length body)
length-tag_if kind None = refl
length-tag_if kind (Some body) = length-tag kind body

-- each body has so many bytes
pub length-fixed : {A : Type 0} (kind : ℕ) (body_of : A → List ℕ) (size : ℕ) (x : Option A)
    → ((y : A) → length (body_of y) ≡ size)
    → length (tag_if kind (option_map body_of x)) ≡ tag_size_if (body_if (is_some x) size)
length-fixed kind body_of size None is = refl
length-fixed kind body_of size (Some y) is = length-tag kind (body_of y) ∙ ap tag_size (is y)

-- each body has 8 bytes more than these
pub length-behind_8 : {A : Type 0} (kind : ℕ) (body_of tables : A → List ℕ) (x : Option A)
    → ((y : A) → length (body_of y) ≡ length (tables y) + 8)
    → length (tag_if kind (option_map body_of x))
    ≡ tag_size_if (behind_8 (option_map (λ y. length (tables y)) x))
length-behind_8 kind body_of tables None is = refl
length-behind_8 kind body_of tables (Some y) is =
    length-tag kind (body_of y) ∙ ap tag_size (is y)

pub length-pointer_tag : (efi : Option EfiTables)
    → length (pointer_tag efi) ≡ tag_size_if (body_if (is_some efi) 8)
length-pointer_tag None = refl
length-pointer_tag (Some efi) =
    length-tag (pointer_type efi.bits) (pointer_body efi.bits efi.system_table)
    ∙ length-pointer efi.bits efi.system_table

-- a pointer is told where a memory map is
same_given : (efi : Option EfiTables)
    → is_some (option_map (λ e. length e.map) efi) ≡ is_some efi
same_given None = refl
same_given (Some efi) = refl

pub same_pointer_size : (efi : Option EfiTables)
    → tag_size_if (body_if (is_some (option_map (λ e. length e.map) efi)) 8)
    ≡ tag_size_if (body_if (is_some efi) 8)
same_pointer_size efi = ap (λ (given : Bool). tag_size_if (body_if given 8)) (same_given efi)

pub length-optional_tags : (facts : InfoToWriteFacts)
    → length (optional_tags facts)
    ≡ firmware_tags_size facts + copy_tags_size facts + closing_tags_size facts
length-optional_tags facts =
    omega (
      arith,
      length-append {A = ℕ},
      length-fixed TAG_FRAMEBUFFER screen_body FRAMEBUFFER_BODY facts.screen length-screen_body,
      length-pointer_tag facts.efi,
      length-behind_8 TAG_SMBIOS smbios_body (λ (s : SmbiosFacts). s.tables) facts.smbios
          length-smbios_body,
      length-tag_if TAG_ACPI_OLD facts.rsdp_old,
      length-tag_if TAG_ACPI_NEW facts.rsdp_new,
      length-behind_8 TAG_EFI_MAP efi_map_body (λ (e : EfiTables). e.map) facts.efi
          length-efi_map_body,
      length-fixed TAG_LOAD_BASE u32_bytes 4 facts.load_base length-u32_bytes,
      length-tag TAG_END [],
    )

pub length-tags : (name : List ℕ) (facts : InfoToWriteFacts)
    → length (tags name facts) + 32 ≡ info_size facts + tag_size (length name + 1)
length-tags name facts =
    let line =
    length-tag TAG_COMMAND_LINE (text_body facts.line)
    ∙ ap tag_size (length-text_body facts.line) in
    let loader =
    length-tag TAG_BOOT_LOADER_NAME (text_body name) ∙ ap tag_size (length-text_body name) in
    let memory = length-tag TAG_BASIC_MEMORY (memory_body facts.mem_lower facts.mem_upper) in
    let map =
    length-tag TAG_MEMORY_MAP (map_body facts.runs) ∙ ap tag_size (length-map_body facts.runs) in
    omega (
      arith,
      length-append {A = ℕ},
      line,
      loader,
      memory,
      map,
      length-u32_bytes,
      length-modules facts.modules,
      length-optional_tags facts,
      same_pointer_size facts.efi,
    )

-- by any loader's name
pub length-spelling_by : (name : List ℕ) (facts : InfoToWriteFacts)
    → length (info_spelling name facts) + 24 ≡ info_size facts + tag_size (length name + 1)
unfolding info_spelling
length-spelling_by name facts =
    omega (arith, length-append {A = ℕ}, length-u32_bytes, length-tags name facts)

-- with the name that is written
pub length-spelling : (facts : InfoToWriteFacts)
    → length (info_spelling (codes "bootcore") facts) ≡ info_size facts
length-spelling facts = omega (arith, length-spelling_by (codes "bootcore") facts)

-- no address and no number has a part in the size
pub same_size : (i j : InfoToWriteFacts) → length i.line ≡ length j.line
    → map (λ m. length m.line) i.modules ≡ map (λ m. length m.line) j.modules
    → length i.runs ≡ length j.runs
    → is_some i.screen ≡ is_some j.screen
    → option_map (λ e. length e.map) i.efi ≡ option_map (λ e. length e.map) j.efi
    → option_map (λ s. length s.tables) i.smbios ≡ option_map (λ s. length s.tables) j.smbios
    → option_map length i.rsdp_old ≡ option_map length j.rsdp_old
    → option_map length i.rsdp_new ≡ option_map length j.rsdp_new
    → is_some i.load_base ≡ is_some j.load_base → info_size i ≡ info_size j
same_size i j line lines runs screen efi smbios old new base =
    rw (line, lines, runs, screen, efi, smbios, old, new, base) refl
