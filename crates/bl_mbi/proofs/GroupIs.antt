-- Groups of tags that are read are spelled so.
use Rattle.std.proofs.Common.{◌≡◌, ◌<◌, ◌≤◌, ◌^◌, ℕ, Option, List, ◌++◌, Ok}
use Rattle.std.proofs.Common.{refl, option_map}
use Rattle.std.proofs.Common.{Some, None}
use Rattle.std.specs.Prelude.{All, IfSome}
use Rattle.std.specs.List.{flat_map}
use Rattle.bl_map.specs.declared.region.Region.{Region}
use Rattle.bl_map.specs.Firmware.{SmbiosFacts}
use Rattle.bl_map.specs.NormalMap.{region_end}
use Rattle.bl_mbi.specs.declared.tag_types.TheConstants.{TAG_COMMAND_LINE, TAG_BOOT_LOADER_NAME}
use Rattle.bl_mbi.specs.declared.tag_types.TheConstants.{TAG_BASIC_MEMORY, TAG_MEMORY_MAP}
use Rattle.bl_mbi.specs.declared.tag_types.TheConstants.{TAG_SMBIOS, TAG_ACPI_OLD}
use Rattle.bl_mbi.specs.declared.tag_types.TheConstants.{TAG_ACPI_NEW, TAG_EFI_MAP}
use Rattle.bl_mbi.specs.InfoToWriteFacts.{ModuleInfo, EfiTables, IsText, IsModule}
use Rattle.bl_mbi.specs.InfoToWriteFacts.{IsToldEfi, IsToldSmbios, AreBytes}
use Rattle.bl_mbi.specs.Tags.{tag, tag_if, text_body, module_tag, memory_body, map_body}
use Rattle.bl_mbi.specs.Tags.{pointer_tag, smbios_body, efi_map_body}
use Rattle.bl_mbi.specs.ReadingSteps.{RestFacts, required_at, optional_at}
use Rattle.bl_mbi.specs.Bodies.{text_of_body, memory_of, map_of}
use Rattle.bl_mbi.specs.FirmwareBodies.{smbios_of, copy_of}
use Rattle.bl_mbi.specs.Reading.{modules_at, text_and_module_tags_at, memory_tags_at, pointer_at}
use Rattle.bl_mbi.specs.Reading.{efi_at, table_tags_at}
use Rattle.bl_mbi.proofs.Inverse.{made, same_ok, same_some}
use Rattle.bl_mbi.proofs.TagIs.{IsRead}
use Rattle.bl_mbi.proofs.BodyIs.{text_is, memory_is}
use Rattle.bl_mbi.proofs.MapBodyIs.{map_is}
use Rattle.bl_mbi.proofs.FirmwareBodyIs.{smbios_is}
use Rattle.bl_mbi.proofs.ReadIs.{both_read, required_is, optional_is, modules_at_are}
use Rattle.bl_mbi.proofs.EfiTagsAre.{pointer_at_is, efi_at_is}

-- ---- the groups of tags

abbrev pub Texts : Type 0
Texts = List ℕ × List ℕ × List ModuleInfo

-- the command line, the loader's name, the modules
pub record AreTexts (left after : RestFacts) (texts : Texts) : Type 0 where
  pub read : IsRead left (tag TAG_COMMAND_LINE (text_body texts.0)
      ++ (tag TAG_BOOT_LOADER_NAME (text_body texts.1) ++ flat_map module_tag texts.2)) after
  pub line : IsText texts.0
  pub name : IsText texts.1
  pub modules : All IsModule texts.2

pub texts_are : (left : RestFacts) (read : Texts × RestFacts) → AreBytes left.bytes
    → text_and_module_tags_at left ≡ Ok read → AreTexts left read.1 read.0
unfolding text_and_module_tags_at
texts_are left read small h =
    let s1 = made (required_at TAG_COMMAND_LINE text_of_body left) _ read h in
    let s2 = made (required_at TAG_BOOT_LOADER_NAME text_of_body s1.0.1) _ read s1.2 in
    let s3 = made (modules_at s2.0.1) _ read s2.2 in
    let line =
    required_is IsText TAG_COMMAND_LINE text_of_body text_body left s1.0 text_is small s1.1 in
    let name =
    required_is IsText TAG_BOOT_LOADER_NAME text_of_body text_body s1.0.1 s2.0 text_is
    line.0.small s2.1 in
    let modules = modules_at_are s2.0.1 s3.0 name.0.small s3.1 in
    let is : AreTexts left s3.0.1 (s1.0.0, s2.0.0, s3.0.0) = record {
      read =
          both_read left s1.0.1 s3.0.1 _ _ line.0
          (both_read s1.0.1 s2.0.1 s3.0.1 _ _ name.0 modules.0);
      line = line.1;
      name = name.1;
      modules = modules.1;
    } in
    rw (← same_ok ((s1.0.0, s2.0.0, s3.0.0), s3.0.1) read s3.2) is

abbrev pub Memory : Type 0
Memory = (ℕ × ℕ) × List Region

abbrev pub AreLow : List Region → Type 0
AreLow runs = All (λ run. region_end run ≤ 2 ^ 52) runs

pub record IsSizes (sizes : ℕ × ℕ) : Type 0 where
  pub lower : sizes.0 ≤ 640
  pub upper : sizes.1 < 2 ^ 32

sizes_are : (body : List ℕ) (sizes : ℕ × ℕ) → AreBytes body → memory_of body ≡ Some sizes
    → (body ≡ memory_body sizes.0 sizes.1) × IsSizes sizes
sizes_are body sizes small h =
    let is = memory_is body sizes small h in (is.0, record { lower = is.1; upper = is.2 })

-- basic memory information, the memory map
pub record IsMemory (left after : RestFacts) (memory : Memory) : Type 0 where
  pub read : IsRead left (tag TAG_BASIC_MEMORY (memory_body memory.0.0 memory.0.1)
      ++ tag TAG_MEMORY_MAP (map_body memory.1)) after
  pub sizes : IsSizes memory.0
  pub runs : AreLow memory.1

pub memory_tags_are : (left : RestFacts) (read : Memory × RestFacts) → AreBytes left.bytes
    → memory_tags_at left ≡ Ok read → IsMemory left read.1 read.0
unfolding memory_tags_at
memory_tags_are left read small h =
    let s1 = made (required_at TAG_BASIC_MEMORY memory_of left) _ read h in
    let s2 = made (required_at TAG_MEMORY_MAP map_of s1.0.1) _ read s1.2 in
    let sizes =
    required_is IsSizes TAG_BASIC_MEMORY memory_of (λ (s : ℕ × ℕ). memory_body s.0 s.1) left s1.0
    sizes_are small s1.1 in
    let runs =
    required_is AreLow TAG_MEMORY_MAP map_of map_body s1.0.1 s2.0 map_is sizes.0.small s2.1 in
    let is : IsMemory left s2.0.1 (s1.0.0, s2.0.0) = record {
      read = both_read left s1.0.1 s2.0.1 _ _ sizes.0 runs.0;
      sizes = sizes.1;
      runs = runs.1;
    } in
    rw (← same_ok ((s1.0.0, s2.0.0), s2.0.1) read s2.2) is

abbrev pub Tables : Type 0
Tables = Option EfiTables × Option SmbiosFacts × Option (List ℕ) × Option (List ℕ)

-- the tables of UEFI, of SMBIOS, and the copies of ACPI's
pub record AreTables (left after : RestFacts) (tables : Tables) : Type 0 where
  pub read : IsRead left (pointer_tag tables.0
      ++ (tag_if TAG_SMBIOS (option_map smbios_body tables.1)
      ++ (tag_if TAG_ACPI_OLD tables.2
      ++ (tag_if TAG_ACPI_NEW tables.3
      ++ tag_if TAG_EFI_MAP (option_map efi_map_body tables.0))))) after
  pub efi : IfSome tables.0 IsToldEfi
  pub smbios : IfSome tables.1 IsToldSmbios
  pub old : IfSome tables.2 AreBytes
  pub new : IfSome tables.3 AreBytes

-- the whole body is the copy
copy_is : (body copy : List ℕ) → AreBytes body → copy_of body ≡ Some copy
    → (body ≡ copy) × AreBytes copy
copy_is body copy small h =
    let same = same_some body copy h in (same, rw (← same) small)

copy_tag_is : (kind : ℕ) (copy : Option (List ℕ))
    → tag_if kind (option_map (λ body. body) copy) ≡ tag_if kind copy
copy_tag_is kind None = refl
copy_tag_is kind (Some copy) = refl

copy_at_is : (kind : ℕ) (left : RestFacts) (read : Option (List ℕ) × RestFacts)
    → AreBytes left.bytes → optional_at kind copy_of left ≡ Ok read
    → IsRead left (tag_if kind read.0) read.1 × IfSome read.0 AreBytes
copy_at_is kind left read small h =
    let is =
    optional_is AreBytes kind copy_of (λ (body : List ℕ). body) left read copy_is small h in
    (rw (← copy_tag_is kind read.0) is.0, is.1)

pub table_tags_are : (left : RestFacts) (read : Tables × RestFacts) → AreBytes left.bytes
    → table_tags_at left ≡ Ok read → AreTables left read.1 read.0
unfolding table_tags_at
table_tags_are left read small h =
    let s1 = made (pointer_at left) _ read h in
    let s2 = made (optional_at TAG_SMBIOS smbios_of s1.0.1) _ read s1.2 in
    let s3 = made (optional_at TAG_ACPI_OLD copy_of s2.0.1) _ read s2.2 in
    let s4 = made (optional_at TAG_ACPI_NEW copy_of s3.0.1) _ read s3.2 in
    let s5 = made (efi_at s1.0.0 s4.0.1) _ read s4.2 in
    let pointer = pointer_at_is left s1.0 small s1.1 in
    let smbios =
    optional_is IsToldSmbios TAG_SMBIOS smbios_of smbios_body s1.0.1 s2.0 smbios_is
    pointer.0.small s2.1 in
    let old = copy_at_is TAG_ACPI_OLD s2.0.1 s3.0 smbios.0.small s3.1 in
    let new = copy_at_is TAG_ACPI_NEW s3.0.1 s4.0 old.0.small s4.1 in
    let efi = efi_at_is s1.0.0 s4.0.1 s5.0 new.0.small pointer.1 s5.1 in
    let first : IsRead left (pointer_tag s5.0.0) s1.0.1 = rw efi.tag_is pointer.0 in
    let is : AreTables left s5.0.1 (s5.0.0, s2.0.0, s3.0.0, s4.0.0) = record {
      read =
          both_read left s1.0.1 s5.0.1 _ _ first
          (both_read s1.0.1 s2.0.1 s5.0.1 _ _ smbios.0
          (both_read s2.0.1 s3.0.1 s5.0.1 _ _ old.0
          (both_read s3.0.1 s4.0.1 s5.0.1 _ _ new.0 efi.read)));
      efi = efi.told;
      smbios = smbios.1;
      old = old.1;
      new = new.1;
    } in
    rw (← same_ok ((s5.0.0, s2.0.0, s3.0.0, s4.0.0), s5.0.1) read s5.2) is
