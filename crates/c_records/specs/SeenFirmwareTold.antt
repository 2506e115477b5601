-- What C is told of what firmware tells a kernel; 0 is not told. Own.
use Rattle.std.specs.Prelude.{ℕ, List, [], ◌++◌, length, Option, Some, None, unwrap_or}
use Rattle.bl_map.specs.Firmware.{SmbiosFacts}
use Rattle.bl_map.specs.FirmwareNumbers.{efi_bits_number, secure_boot_number}
use Rattle.bl_map.specs.declared.firmware.efi.EfiInfo.{EfiInfo}
use Rattle.bl_map.specs.declared.firmware.screen.ColorField.{ColorField}
use Rattle.bl_map.specs.declared.firmware.screen.Screen.{Screen}
use Rattle.bl_mbi.specs.InfoToWriteFacts.{EfiTables}
use Rattle.bl_walk.specs.SeenFacts.{SeenFirmwareFacts}
use Rattle.c_records.specs.declared.firmware_records.ColorRecord.{ColorRecord}
use Rattle.c_records.specs.declared.firmware_records.ScreenRecord.{ScreenRecord}
use Rattle.c_records.specs.declared.seen_firmware_records.SeenEfiRecord.{SeenEfiRecord}
use Rattle.c_records.specs.declared.seen_firmware_records.SeenFirmwareRecord.{SeenFirmwareRecord}
use Rattle.c_records.specs.declared.seen_firmware_records.SeenSmbiosRecord.{SeenSmbiosRecord}
use Rattle.c_records.specs.LoadTold.{no_words}
use Rattle.c_records.specs.TextRanges.{no_range}

-- ---- the text: the copy of UEFI's memory map, and the tables of SMBIOS

abbrev pub map_seen : Option EfiTables → List ℕ
map_seen None = []
map_seen (Some efi) = efi.map

abbrev pub tables_seen : Option SmbiosFacts → List ℕ
tables_seen None = []
tables_seen (Some smbios) = smbios.tables

-- a text with them behind it
abbrev pub with_tables : List ℕ → SeenFirmwareFacts → List ℕ
with_tables before firmware =
    (before ++ map_seen firmware.efi_tables) ++ tables_seen firmware.smbios

-- ---- the screen

abbrev pub color_told : ColorField → ColorRecord
color_told color = record { position = color.position; size = color.size }

abbrev pub no_color : ColorRecord
no_color = record { position = 0; size = 0 }

abbrev pub screen_told : Option Screen → ScreenRecord
screen_told None = record {
  base = 0;
  pitch = 0;
  width = 0;
  height = 0;
  depth = 0;
  reserved8 = 0;
  red = no_color;
  green = no_color;
  blue = no_color;
  reserved = 0;
}
screen_told (Some screen) = record {
  base = screen.base;
  pitch = screen.pitch;
  width = screen.width;
  height = screen.height;
  depth = screen.depth;
  reserved8 = 0;
  red = color_told screen.red;
  green = color_told screen.green;
  blue = color_told screen.blue;
  reserved = 0;
}

-- ---- UEFI

-- by boot parameters: where its map lies
abbrev pub efi_info_told : EfiInfo → SeenEfiRecord
efi_info_told efi = record {
  system_table = efi.system_table;
  map_address = efi.map_address;
  map_length = efi.map_size;
  bits = efi_bits_number efi.bits;
  descriptor_size = efi.descriptor_size;
  descriptor_version = efi.descriptor_version;
  secure_boot = secure_boot_number efi.secure_boot;
  map = no_range;
}

-- by boot information: a copy of its map, which lies in the text from this offset on
abbrev pub efi_tables_told : ℕ → EfiTables → SeenEfiRecord
efi_tables_told at efi = record {
  system_table = efi.system_table;
  map_address = 0;
  map_length = length efi.map;
  bits = efi_bits_number efi.bits;
  descriptor_size = efi.descriptor_size;
  descriptor_version = efi.descriptor_version;
  secure_boot = 0;
  map = record { offset = at; length = length efi.map };
}

abbrev pub efi_told : ℕ → Option EfiInfo → Option EfiTables → SeenEfiRecord
efi_told at (Some info) tables = efi_info_told info
efi_told at None (Some tables) = efi_tables_told at tables
efi_told at None None = record {
  system_table = 0;
  map_address = 0;
  map_length = 0;
  bits = 0;
  descriptor_size = 0;
  descriptor_version = 0;
  secure_boot = 0;
  map = no_range;
}

-- ---- SMBIOS: tables that lie in the text from this offset on

abbrev pub smbios_told : ℕ → Option SmbiosFacts → SeenSmbiosRecord
smbios_told at None =
    record { tables = no_range; major = 0; minor = 0; reserved16 = 0; reserved32 = 0 }
smbios_told at (Some smbios) = record {
  tables = record { offset = at; length = length smbios.tables };
  major = smbios.major;
  minor = smbios.minor;
  reserved16 = 0;
  reserved32 = 0;
}

-- ---- all of it, where the tables lie behind this text

abbrev pub firmware_told : List ℕ → SeenFirmwareFacts → SeenFirmwareRecord
firmware_told before firmware = record {
  screen = screen_told firmware.screen;
  rsdp = unwrap_or firmware.rsdp 0;
  efi = efi_told (length before) firmware.efi_info firmware.efi_tables;
  smbios = smbios_told (length (before ++ map_seen firmware.efi_tables)) firmware.smbios;
  reserved = no_words;
}
