-- What the records of C tell of firmware: what is 0, or has no byte, is not told. A number that
-- stands for nothing is given a meaning too; a call that meets it answers a misuse. Own.
use Rattle.std.specs.Prelude.{ℕ, ◌+◌, ◌-◌, ◌^◌, ◌==◌, if◌then◌else◌, length, map, min}
use Rattle.std.specs.Prelude.{Option, Some, None, unwrap_or}
use Rattle.std.specs.declared.ops.Range.{Range}
use Rattle.bl_map.specs.Firmware.{FirmwareFacts, EfiFacts, SmbiosFacts}
use Rattle.bl_map.specs.FirmwareNumbers.{efi_bits_of, secure_boot_of}
use Rattle.bl_map.specs.declared.firmware.efi.EfiBits.TheVariants.{Efi64}
use Rattle.bl_map.specs.declared.firmware.efi.SecureBoot.TheVariants.{Unset}
use Rattle.bl_map.specs.declared.firmware.screen.ColorField.{ColorField}
use Rattle.bl_map.specs.declared.firmware.screen.Screen.{Screen}
use Rattle.c_records.specs.declared.firmware_records.AvoidedRecord.{AvoidedRecord}
use Rattle.c_records.specs.declared.firmware_records.ColorRecord.{ColorRecord}
use Rattle.c_records.specs.declared.firmware_records.EfiRecord.{EfiRecord}
use Rattle.c_records.specs.declared.firmware_records.FirmwareRecord.{FirmwareRecord}
use Rattle.c_records.specs.declared.firmware_records.ScreenRecord.{ScreenRecord}
use Rattle.c_records.specs.declared.firmware_records.SmbiosRecord.{SmbiosRecord}

abbrev pub color_given : ColorRecord → ColorField
color_given color = record { position = color.position; size = color.size }

-- at address 0 there is no screen
abbrev pub screen_given : ScreenRecord → Option Screen
screen_given screen =
    if screen.base == 0
    then None
    else Some (record {
      base = screen.base;
      pitch = screen.pitch;
      width = screen.width;
      height = screen.height;
      depth = screen.depth;
      red = color_given screen.red;
      green = color_given screen.green;
      blue = color_given screen.blue;
    })

abbrev pub rsdp_given : ℕ → Option ℕ
rsdp_given rsdp = if rsdp == 0 then None else Some rsdp

-- without a system table there is no UEFI
abbrev pub efi_given : EfiRecord → Option EfiFacts
efi_given efi =
    if efi.system_table == 0
    then None
    else Some (record {
      bits = unwrap_or (efi_bits_of efi.bits) Efi64;
      system_table = efi.system_table;
      map_address = efi.map_address;
      map = efi.map.now;
      descriptor_size = efi.descriptor_size;
      descriptor_version = efi.descriptor_version;
      secure_boot = unwrap_or (secure_boot_of efi.secure_boot) Unset;
    })

-- tables without bytes are none
abbrev pub smbios_given : SmbiosRecord → Option SmbiosFacts
smbios_given smbios =
    if length smbios.tables.now == 0
    then None
    else Some (record {
      major = smbios.major;
      minor = smbios.minor;
      tables = smbios.tables.now;
    })

-- a range that ends at 2^64 or above ends at 2^64 - 1, which is too high for one
abbrev pub range_given : AvoidedRecord → Range ℕ
range_given range =
    record { start = range.base; end = min (range.base + range.length) (2 ^ 64 - 1) }

-- all of it
abbrev pub firmware_given : FirmwareRecord → FirmwareFacts
firmware_given firmware = record {
  screen = screen_given firmware.screen;
  rsdp = rsdp_given firmware.rsdp;
  efi = efi_given firmware.efi;
  smbios = smbios_given firmware.smbios;
  avoided = map range_given firmware.avoided.now;
}
