-- What a boot description says of what firmware tells: for each of its tables a function from the
-- table's keys to a record, or to none where the table is a bad one. Own.
use Rattle.std.specs.Prelude.{ℕ, ◌+◌, if◌then◌else◌, List, Option, Some, None, codes}
use Rattle.std.specs.declared.ops.Range.{Range}
use Rattle.toml.specs.Data.{Data, Items, no_items, item, Members, as_array}
use Rattle.bl_map.specs.Firmware.{EfiFacts, SmbiosFacts, FirmwareFacts}
use Rattle.bl_map.specs.FirmwareNumbers.{efi_bits_of, secure_boot_of}
use Rattle.bl_map.specs.declared.firmware.efi.EfiBits.{EfiBits}
use Rattle.bl_map.specs.declared.firmware.efi.SecureBoot.{SecureBoot}
use Rattle.bl_map.specs.declared.firmware.efi.SecureBoot.TheVariants.{Unset}
use Rattle.bl_map.specs.declared.firmware.screen.ColorField.{ColorField}
use Rattle.bl_map.specs.declared.firmware.screen.Screen.{Screen}
use Rattle.program_desc.specs.TomlValues.{◌>>=◌, toml_number, toml_byte, toml_word, toml_bytes}
use Rattle.program_desc.specs.TomlValues.{has_only, at_key, at_key_or, at_key_if, in_table}
use Rattle.program_desc.specs.TomlValues.{in_tables}
use Rattle.program_desc.specs.KeyRules.{keys_of_set}
use Rattle.program_desc.specs.declared.key_set.KeySet.TheVariants as keys

-- ---- values

-- a colour is two bytes: where its bits lie, and how many they are
abbrev pub color_of : Data → Data → Option ColorField
color_of a b = do
  position ← toml_byte a
  size ← toml_byte b
  Some record { position = position; size = size }

abbrev pub color_in : Items → Option ColorField
color_in (item a (item b no_items)) = color_of a b
color_in _ = None

abbrev pub toml_color : Data → Option ColorField
toml_color d = as_array d >>= color_in

abbrev pub toml_efi_bits : Data → Option EfiBits
toml_efi_bits d = toml_word d >>= efi_bits_of

abbrev pub toml_secure_boot : Data → Option SecureBoot
toml_secure_boot d = toml_word d >>= secure_boot_of

-- ---- firmware.screen

unfoldable pub described_screen : Members → Option Screen
described_screen ms =
    if has_only (keys_of_set keys.Screen) ms then (do
      base ← at_key toml_number (codes "base") ms
      pitch ← at_key toml_word (codes "pitch") ms
      width ← at_key toml_word (codes "width") ms
      height ← at_key toml_word (codes "height") ms
      depth ← at_key toml_byte (codes "depth") ms
      red ← at_key toml_color (codes "red") ms
      green ← at_key toml_color (codes "green") ms
      blue ← at_key toml_color (codes "blue") ms
      Some record {
        base = base;
        pitch = pitch;
        width = width;
        height = height;
        depth = depth;
        red = red;
        green = green;
        blue = blue;
      })
    else None

-- ---- firmware.efi

unfoldable pub described_efi : Members → Option EfiFacts
described_efi ms =
    if has_only (keys_of_set keys.Efi) ms then (do
      bits ← at_key toml_efi_bits (codes "bits") ms
      system_table ← at_key toml_number (codes "system_table") ms
      map ← at_key toml_bytes (codes "map") ms
      map_address ← at_key toml_number (codes "map_address") ms
      size ← at_key toml_word (codes "descriptor_size") ms
      version ← at_key toml_word (codes "descriptor_version") ms
      secure_boot ← at_key_or Unset toml_secure_boot (codes "secure_boot") ms
      Some record {
        bits = bits;
        system_table = system_table;
        map_address = map_address;
        map = map;
        descriptor_size = size;
        descriptor_version = version;
        secure_boot = secure_boot;
      })
    else None

-- ---- firmware.smbios

unfoldable pub described_smbios : Members → Option SmbiosFacts
described_smbios ms =
    if has_only (keys_of_set keys.Smbios) ms then (do
      major ← at_key toml_byte (codes "major") ms
      minor ← at_key toml_byte (codes "minor") ms
      tables ← at_key toml_bytes (codes "tables") ms
      Some record { major = major; minor = minor; tables = tables })
    else None

-- ---- avoid

unfoldable pub avoided_in : Members → Option (Range ℕ)
avoided_in ms =
    if has_only (keys_of_set keys.Avoided) ms then (do
      base ← at_key toml_number (codes "base") ms
      length ← at_key toml_number (codes "length") ms
      Some record { start = base; end = base + length })
    else None

unfoldable pub toml_avoided : Data → Option (List (Range ℕ))
toml_avoided d = in_tables avoided_in d

-- ---- firmware

-- what firmware tells, beside these ranges that are avoided
unfoldable pub described_firmware : List (Range ℕ) → Members → Option FirmwareFacts
described_firmware avoided ms =
    if has_only (keys_of_set keys.Firmware) ms then (do
      rsdp ← at_key_if toml_number (codes "rsdp") ms
      screen ← at_key_if (in_table described_screen) (codes "screen") ms
      efi ← at_key_if (in_table described_efi) (codes "efi") ms
      smbios ← at_key_if (in_table described_smbios) (codes "smbios") ms
      Some record {
        screen = screen;
        rsdp = rsdp;
        efi = efi;
        smbios = smbios;
        avoided = avoided;
      })
    else None

-- ranges alone are avoided, where firmware tells nothing
abbrev pub only_avoided : List (Range ℕ) → FirmwareFacts
only_avoided avoided =
    record { screen = None; rsdp = None; efi = None; smbios = None; avoided = avoided }
