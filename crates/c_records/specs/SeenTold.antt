-- What C is told of what a kernel sees: a summary, and the elements of arrays. Own.
use Rattle.std.specs.Prelude.{ℕ, ◌+◌, List, [], ◌∷◌, ◌++◌, length, map, Option, Some, None}
use Rattle.std.specs.Prelude.{unwrap_or}
use Rattle.std.specs.List.{flat_map}
use Rattle.bl_map.specs.declared.region.Region.{Region}
use Rattle.bl_map.specs.Kinds.{kind_number}
use Rattle.bl_plan.specs.Protocols.{protocol_number}
use Rattle.bl_walk.specs.SeenFacts.{SeenFacts, SeenFileFacts, SeenModuleFacts}
use Rattle.bl_walk.specs.declared.seen.SeenPart.{SeenPart}
use Rattle.c_records.specs.declared.seen_records.ByteRange.{ByteRange}
use Rattle.c_records.specs.declared.given_records.RegionRecord.{RegionRecord}
use Rattle.c_records.specs.declared.seen_records.SeenModuleRecord.{SeenModuleRecord}
use Rattle.c_records.specs.declared.seen_records.SeenPartRecord.{SeenPartRecord}
use Rattle.c_records.specs.declared.seen_records.SeenRecord.{SeenRecord}
use Rattle.c_records.specs.declared.seen_firmware_records.SeenFirmwareRecord.{SeenFirmwareRecord}
use Rattle.c_records.specs.LoadTold.{no_words}
use Rattle.c_records.specs.SeenFirmwareTold.{firmware_told, with_tables}
use Rattle.c_records.specs.TextRanges.{no_range}

-- ---- the text: the line, the modules' lines in order, the copies of the RSDP, the old one first,
-- the copy of UEFI's memory map, the tables of SMBIOS

-- up to the copies
abbrev pub lines_seen : SeenFacts → List ℕ
lines_seen seen = seen.line ++ flat_map (λ m. m.line) seen.modules

-- up to the new copy
abbrev pub text_before_rsdp_new : SeenFacts → List ℕ
text_before_rsdp_new seen = lines_seen seen ++ unwrap_or seen.rsdp_old []

-- up to what firmware tells
abbrev pub text_before_firmware : SeenFacts → List ℕ
text_before_firmware seen = text_before_rsdp_new seen ++ unwrap_or seen.rsdp_new []

abbrev pub text_seen : SeenFacts → List ℕ
text_seen seen = with_tables (text_before_firmware seen) seen.firmware

-- the range of a copy that lies in the text from this offset on; a copy that is not there has the
-- range of a file that can't be read
abbrev pub copy_range : ℕ → Option (List ℕ) → ByteRange
copy_range at None = no_range
copy_range at (Some copy) = record { offset = at; length = length copy }

-- ---- the summary

-- where an initial ramdisk lies, and how long it is; 0 if there is none
abbrev pub initrd_start : Option SeenFileFacts → ℕ
initrd_start None = 0
initrd_start (Some file) = file.address

abbrev pub initrd_length : Option SeenFileFacts → ℕ
initrd_length None = 0
initrd_length (Some file) = length file.bytes

abbrev pub seen_told : SeenFacts → SeenRecord
seen_told seen = record {
  protocol = protocol_number seen.protocol;
  reserved32 = 0;
  kernel_parts = length seen.kernel;
  modules = length seen.modules;
  runs = length seen.map;
  entry = seen.entry;
  line_length = length seen.line;
  initrd = initrd_start seen.initrd;
  initrd_length = initrd_length seen.initrd;
  text_length = length (text_seen seen);
  rsdp_old = copy_range (length (lines_seen seen)) seen.rsdp_old;
  rsdp_new = copy_range (length (text_before_rsdp_new seen)) seen.rsdp_new;
  reserved = no_words;
}

-- ---- the arrays

abbrev pub part_told : SeenPart → SeenPartRecord
part_told part = record { address = part.address; length = part.length; reserved = 0 }

-- a module whose line lies in the text from this offset on
abbrev pub module_told : ℕ → SeenModuleFacts → SeenModuleRecord
module_told at m = record {
  address = m.mod_start;
  length = length m.bytes;
  line = record { offset = at; length = length m.line };
  reserved = 0;
}

-- modules whose lines lie there one after the other
abbrev pub modules_told : ℕ → List SeenModuleFacts → List SeenModuleRecord
modules_told at [] = []
modules_told at (m ∷ modules) = module_told at m ∷ modules_told (at + length m.line) modules

abbrev pub run_told : Region → RegionRecord
run_told run = record {
  base = run.base;
  length = run.length;
  kind = kind_number run.kind;
  reserved = 0;
}

-- the summary, of each array the elements that are told, and what firmware tells
pub record WalkRecordsFacts : Type 0 where
  pub seen : SeenRecord
  pub kernel : List SeenPartRecord
  pub modules : List SeenModuleRecord
  pub runs : List RegionRecord
  pub text : List ℕ
  pub firmware : SeenFirmwareRecord

abbrev pub walk_records : SeenFacts → WalkRecordsFacts
walk_records seen = record {
  seen = seen_told seen;
  kernel = map part_told seen.kernel;
  modules = modules_told (length seen.line) seen.modules;
  runs = map run_told seen.map;
  text = text_seen seen;
  firmware = firmware_told (text_before_firmware seen) seen.firmware;
}
