-- What a key of a description may hold. Own.
use Rattle.std.specs.Prelude.{ℕ, suc, Bool, false, ◌&&◌, nat_le, Option, Some, None, is_some}
use Rattle.toml.specs.Data.{Data, Items, no_items, item, as_array, as_table}
use Rattle.bl_plan.specs.MenuLimits.{max_entries, max_modules}
use Rattle.program_desc.specs.TomlValues.{toml_number, toml_byte, toml_text, toml_bytes}
use Rattle.program_desc.specs.TomlValues.{toml_index, toml_kind, toml_word}
use Rattle.program_desc.specs.Entries.{toml_title, toml_rsdp_copy, toml_protocol}
use Rattle.program_desc.specs.declared.allowed.Allowed.{Allowed}
use Rattle.program_desc.specs.declared.allowed.Allowed.TheVariants.{Number, Byte, IndexBelow}
use Rattle.program_desc.specs.declared.allowed.Allowed.TheVariants.{TwoNumbers, Indices, Tables}
use Rattle.program_desc.specs.declared.allowed.Allowed.TheVariants.{EntryTables, ModuleTables}
use Rattle.program_desc.specs.declared.allowed.Allowed.TheVariants.{AnyText}
use Rattle.program_desc.specs.declared.allowed.Allowed.TheVariants.{Title, KindName, ProtocolName}
use Rattle.program_desc.specs.declared.allowed.Allowed.TheVariants.{HexText, CopyText, Word}
use Rattle.program_desc.specs.declared.allowed.Allowed.TheVariants.{OneTable, EfiBits, SecureBoot}
use Rattle.program_desc.specs.declared.allowed.Allowed.TheVariants.{Color}
use Rattle.program_desc.specs.DescribedFirmware.{toml_color, toml_efi_bits, toml_secure_boot}

abbrev pub item_count : Items → ℕ
item_count no_items = 0
item_count (item d ds) = suc (item_count ds)

abbrev pub count_within : ℕ → ℕ → Option Items → Bool
count_within least most None = false
count_within least most (Some ds) = nat_le least (item_count ds) && nat_le (item_count ds) most

-- an array of so many items
abbrev pub has_count : ℕ → ℕ → Data → Bool
has_count least most d = count_within least most (as_array d)

-- a value of a key is allowed; of an array, but for its items
abbrev pub allows : Allowed → Data → Bool
allows Number d = is_some (toml_number d)
allows Byte d = is_some (toml_byte d)
allows Word d = is_some (toml_word d)
allows OneTable d = is_some (as_table d)
allows EfiBits d = is_some (toml_efi_bits d)
allows SecureBoot d = is_some (toml_secure_boot d)
allows Color d = is_some (toml_color d)
allows (IndexBelow count) d = is_some (toml_index count d)
allows TwoNumbers d = has_count 2 2 d
allows Indices d = is_some (as_array d)
allows Tables d = is_some (as_array d)
allows EntryTables d = has_count 1 max_entries d
allows ModuleTables d = has_count 0 max_modules d
allows AnyText d = is_some (toml_text d)
allows Title d = is_some (toml_title d)
allows KindName d = is_some (toml_kind d)
allows ProtocolName d = is_some (toml_protocol d)
allows HexText d = is_some (toml_bytes d)
allows CopyText d = is_some (toml_rsdp_copy d)
