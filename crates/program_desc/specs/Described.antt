-- What a boot description says: for each of its tables a function from the table's keys to a
-- record, or to none where the table is a bad one. Own.
use Rattle.std.specs.Prelude.{ℕ, Bool, true, ◌&&◌, not, if◌then◌else◌, List, [], ◌∷◌, length, map}
use Rattle.std.specs.Prelude.{Option, Some, None, codes}
use Rattle.std.specs.Str.{bytes_eq, is_utf8}
use Rattle.std.specs.List.{list_any}
use Rattle.std.specs.declared.ops.Range.{Range}
use Rattle.toml.specs.Data.{Data, Members}
use Rattle.toml.specs.Parse.{parse_document}
use Rattle.bl_map.specs.Firmware.{FirmwareFacts}
use Rattle.bl_map.specs.declared.region.Region.{Region}
use Rattle.program_desc.specs.TomlValues.{◌>>=◌, some_when, toml_number, toml_byte, toml_text}
use Rattle.program_desc.specs.TomlValues.{toml_bytes, toml_kind}
use Rattle.program_desc.specs.TomlValues.{toml_range, toml_index, toml_indices, has_only, at_key}
use Rattle.program_desc.specs.TomlValues.{at_key_or, in_table, in_tables}
use Rattle.program_desc.specs.DescribedFirmware.{toml_avoided, described_firmware, only_avoided}
use Rattle.program_desc.specs.KeyRules.{keys_of_set}
use Rattle.program_desc.specs.Entries.{Entry, form_view, toml_entries}
use Rattle.program_desc.specs.declared.desc.Description.{Description}
use Rattle.program_desc.specs.declared.entry_row.EntryRow.{EntryRow}
use Rattle.program_desc.specs.declared.file_row.FileRow.{FileRow}
use Rattle.program_desc.specs.declared.key_set.KeySet.TheVariants as keys

-- a file that stands in the description
pub record InlineFile : Type 0 where
  pub name : List ℕ
  pub bytes : List ℕ

-- the bytes of the first file of this name
abbrev pub file_named : List ℕ → List InlineFile → Option (List ℕ)
file_named name [] = None
file_named name (f ∷ fs) = if bytes_eq f.name name then Some f.bytes else file_named name fs

-- what the whole says; the default and each fallback is the index of an entry
pub record DescriptionFacts : Type 0 where
  pub size : ℕ
  pub pool : Range ℕ
  pub fill : ℕ
  pub regions : List Region
  pub firmware : FirmwareFacts
  pub files : List InlineFile
  pub entries : List Entry
  pub default : ℕ
  pub fallbacks : List ℕ

-- how files, entries and the whole are seen
abbrev pub file_view : {A : Type 0} → FileRow A → InlineFile
file_view f = record { name = f.name; bytes = f.bytes }

abbrev pub entry_view : {A : Type 0} → EntryRow A → Entry
entry_view e = record { title = e.title; kernel = e.kernel; line = e.line; form = form_view e.form }

abbrev pub view : {A : Type 0} → Description A → DescriptionFacts
view d = record {
  size = d.size;
  pool = d.pool;
  fill = d.fill;
  regions = d.regions.items;
  firmware = d.firmware;
  files = map file_view d.files.items;
  entries = map entry_view d.entries.items;
  default = d.default;
  fallbacks = d.fallbacks.items;
}

-- ---- region

unfoldable pub region_in : Members → Option Region
region_in ms =
    if has_only (keys_of_set keys.Region) ms then (do
      base ← at_key toml_number (codes "base") ms
      length ← at_key toml_number (codes "length") ms
      kind ← at_key toml_kind (codes "kind") ms
      Some record { base = base; length = length; kind = kind })
    else None

unfoldable pub toml_regions : Data → Option (List Region)
toml_regions d = in_tables region_in d

-- ---- file

unfoldable pub file_in : Members → Option InlineFile
file_in ms =
    if has_only (keys_of_set keys.File) ms then (do
      name ← at_key toml_text (codes "name") ms
      bytes ← at_key toml_bytes (codes "hex") ms
      Some record { name = name; bytes = bytes })
    else None

-- one of the files has this name
abbrev pub has_file : List ℕ → List InlineFile → Bool
has_file name files = list_any (λ f. bytes_eq f.name name) files

-- no two files have one name
abbrev pub names_differ : List InlineFile → Bool
names_differ [] = true
names_differ (f ∷ fs) = not (has_file f.name fs) && names_differ fs

unfoldable pub toml_files : Data → Option (List InlineFile)
toml_files d = in_tables file_in d >>= some_when names_differ

-- ---- the whole

unfoldable pub described_in : Members → Option DescriptionFacts
described_in ms =
    if has_only (keys_of_set keys.Description) ms then (do
      size ← at_key toml_number (codes "size") ms
      pool ← at_key toml_range (codes "pool") ms
      fill ← at_key_or 0 toml_byte (codes "fill") ms
      regions ← at_key_or [] toml_regions (codes "region") ms
      avoided ← at_key_or [] toml_avoided (codes "avoid") ms
      firmware ← at_key_or (only_avoided avoided) (in_table (described_firmware avoided))
          (codes "firmware") ms
      files ← at_key_or [] toml_files (codes "file") ms
      entries ← at_key toml_entries (codes "entry") ms
      default ← at_key_or 0 (toml_index (length entries)) (codes "default") ms
      fallbacks ← at_key_or [] (toml_indices (length entries)) (codes "fallback") ms
      Some record {
        size = size;
        pool = pool;
        fill = fill;
        regions = regions;
        firmware = firmware;
        files = files;
        entries = entries;
        default = default;
        fallbacks = fallbacks;
      })
    else None

-- what these bytes describe: UTF-8, the text of a TOML document
unfoldable pub described : List ℕ → Option DescriptionFacts
described bytes = if is_utf8 bytes then parse_document bytes >>= described_in else None
