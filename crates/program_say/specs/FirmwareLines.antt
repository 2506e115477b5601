-- The lines of what a kernel sees of what firmware tells. Own.
use Rattle.std.specs.Prelude.{ℕ, List, [], ◌++◌, length, Option, Some, None}
use Rattle.std.specs.Prelude.{codes, decimal}
use Rattle.hex.specs.Hex.{encode_lower}
use Rattle.sha2.specs.Sha256.{sha256}
use Rattle.bl_map.specs.Firmware.{SmbiosFacts}
use Rattle.bl_map.specs.FirmwareNumbers.{efi_bits_number, secure_boot_number}
use Rattle.bl_map.specs.declared.firmware.efi.EfiBits.{EfiBits}
use Rattle.bl_map.specs.declared.firmware.efi.EfiInfo.{EfiInfo}
use Rattle.bl_map.specs.declared.firmware.efi.SecureBoot.{SecureBoot}
use Rattle.bl_map.specs.declared.firmware.screen.ColorField.{ColorField}
use Rattle.bl_map.specs.declared.firmware.screen.Screen.{Screen}
use Rattle.bl_mbi.specs.InfoToWriteFacts.{EfiTables}
use Rattle.bl_walk.specs.SeenFacts.{SeenFirmwareFacts}
use Rattle.program_say.specs.BootAndMapLines.{hex16}

-- a number, and a space behind it
abbrev pub number_word : ℕ → List ℕ
number_word n = decimal n ++ codes " "

-- a colour: the lowest of its bits, and how many they are
unfoldable pub color_words : ColorField → List ℕ
color_words color = decimal color.position ++ codes "+" ++ decimal color.size

-- the screen: its base, pitch, width, height and depth, red, green and blue
unfoldable pub screen_line : Screen → List ℕ
screen_line screen =
    codes "screen " ++ hex16 screen.base ++ codes " " ++ number_word screen.pitch
    ++ number_word screen.width ++ number_word screen.height ++ number_word screen.depth
    ++ color_words screen.red ++ codes " " ++ color_words screen.green ++ codes " "
    ++ color_words screen.blue ++ codes "\n"

-- the address of ACPI's root pointer
unfoldable pub rsdp_line : ℕ → List ℕ
rsdp_line a = codes "rsdp " ++ hex16 a ++ codes "\n"

-- UEFI: its bits, the address of its system table
unfoldable pub efi_line : EfiBits → ℕ → List ℕ
efi_line bits system_table =
    codes "efi " ++ number_word (efi_bits_number bits) ++ hex16 system_table ++ codes "\n"

-- its memory map: a word for where it lies, its bytes, a descriptor's, their version, a word for
-- its digest
unfoldable pub efi_map_line : List ℕ → ℕ → ℕ → ℕ → List ℕ → List ℕ
efi_map_line place count descriptor_size version digest =
    codes "efi-map " ++ place ++ codes " " ++ number_word count ++ number_word descriptor_size
    ++ number_word version ++ digest ++ codes "\n"

unfoldable pub secure_boot_line : SecureBoot → List ℕ
secure_boot_line secure_boot =
    codes "secure-boot " ++ decimal (secure_boot_number secure_boot) ++ codes "\n"

-- SMBIOS: its version, the bytes of its tables, their digest
unfoldable pub smbios_line : SmbiosFacts → List ℕ
smbios_line smbios =
    codes "smbios " ++ number_word smbios.major ++ number_word smbios.minor
    ++ number_word (length smbios.tables) ++ encode_lower (sha256 smbios.tables) ++ codes "\n"

-- of UEFI what a Linux kernel is told, which reads the map where it lies
abbrev pub map_at_line : EfiInfo → List ℕ
map_at_line efi =
    efi_map_line (hex16 efi.map_address) efi.map_size efi.descriptor_size efi.descriptor_version
    (codes "-")

abbrev pub efi_info_lines : EfiInfo → List ℕ
efi_info_lines efi =
    efi_line efi.bits efi.system_table ++ map_at_line efi ++ secure_boot_line efi.secure_boot

-- what a Multiboot2 kernel is told, which has a copy of the map
abbrev pub map_copy_line : EfiTables → List ℕ
map_copy_line efi =
    efi_map_line (codes "-") (length efi.map) efi.descriptor_size efi.descriptor_version
    (encode_lower (sha256 efi.map))

abbrev pub efi_tables_lines : EfiTables → List ℕ
efi_tables_lines efi = efi_line efi.bits efi.system_table ++ map_copy_line efi

-- the lines of what may be missing
abbrev pub lines_if : {T : Type 0} → (T → List ℕ) → Option T → List ℕ
lines_if lines None = []
lines_if lines (Some told) = lines told

-- what a kernel sees of it
abbrev pub firmware_lines : SeenFirmwareFacts → List ℕ
firmware_lines seen =
    lines_if screen_line seen.screen ++ lines_if rsdp_line seen.rsdp
    ++ lines_if efi_info_lines seen.efi_info ++ lines_if efi_tables_lines seen.efi_tables
    ++ lines_if smbios_line seen.smbios
