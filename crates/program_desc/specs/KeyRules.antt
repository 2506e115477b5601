-- The keys of a description's tables, table by table. Own.
use Rattle.std.specs.Prelude.{ℕ, Bool, true, false, List, [], ◌∷◌, ◌++◌, Option, Some, None}
use Rattle.std.specs.Prelude.{codes, map}
use Rattle.bl_plan.specs.declared.protocol.Protocol.{Protocol}
use Rattle.bl_plan.specs.declared.protocol.Protocol.TheVariants.{Multiboot2, Linux, Linux64}
use Rattle.program_desc.specs.declared.allowed.Allowed.{Allowed}
use Rattle.program_desc.specs.declared.allowed.Allowed.TheVariants.{Number, Byte, IndexBelow}
use Rattle.program_desc.specs.declared.allowed.Allowed.TheVariants.{TwoNumbers, Indices, Tables}
use Rattle.program_desc.specs.declared.allowed.Allowed.TheVariants.{EntryTables, ModuleTables}
use Rattle.program_desc.specs.declared.allowed.Allowed.TheVariants.{AnyText}
use Rattle.program_desc.specs.declared.allowed.Allowed.TheVariants.{Title, KindName, ProtocolName}
use Rattle.program_desc.specs.declared.allowed.Allowed.TheVariants.{HexText, CopyText, Word}
use Rattle.program_desc.specs.declared.allowed.Allowed.TheVariants.{OneTable, Color}
use Rattle.program_desc.specs.declared.allowed.Allowed.TheVariants as allowed
use Rattle.program_desc.specs.declared.key_set.KeySet.{KeySet}
use Rattle.program_desc.specs.declared.key_set.KeySet.TheVariants.{Description, Region, File, Entry}
use Rattle.program_desc.specs.declared.key_set.KeySet.TheVariants.{Multiboot2Entry, LinuxEntry}
use Rattle.program_desc.specs.declared.key_set.KeySet.TheVariants.{Module, Firmware, Screen, Efi}
use Rattle.program_desc.specs.declared.key_set.KeySet.TheVariants.{Smbios, Avoided}

-- a key of a table: whether it must stand, what it may hold, and what each item of an array may,
-- where an item is no table
pub record KeyRule : Type 0 where
  pub key : List ℕ
  pub required : Bool
  pub allowed : Allowed
  pub items : Option Allowed

-- it must stand
abbrev pub required_key : List ℕ → Allowed → KeyRule
required_key key allowed = record { key = key; required = true; allowed = allowed; items = None }

-- it may be left out
abbrev pub optional_key : List ℕ → Allowed → KeyRule
optional_key key allowed = record { key = key; required = false; allowed = allowed; items = None }

abbrev pub with_items : KeyRule → Allowed → KeyRule
with_items rule allowed = record rule { items = Some allowed }

-- the keys of each entry, and those of its protocol
abbrev pub common_entry_rules : List KeyRule
common_entry_rules =
    required_key (codes "title") Title
    ∷ required_key (codes "protocol") ProtocolName
    ∷ required_key (codes "kernel") AnyText
    ∷ optional_key (codes "line") AnyText
    ∷ []

abbrev pub multiboot2_rules : List KeyRule
multiboot2_rules =
    optional_key (codes "module") ModuleTables
    ∷ optional_key (codes "rsdp_old") CopyText
    ∷ optional_key (codes "rsdp_new") CopyText
    ∷ []

abbrev pub linux_rules : List KeyRule
linux_rules = optional_key (codes "initrd") AnyText ∷ []

-- the keys of a table, where there are so many entries
abbrev pub key_rules : ℕ → KeySet → List KeyRule
key_rules count Description =
    required_key (codes "size") Number
    ∷ with_items (required_key (codes "pool") TwoNumbers) Number
    ∷ optional_key (codes "fill") Byte
    ∷ optional_key (codes "default") (IndexBelow count)
    ∷ with_items (optional_key (codes "fallback") Indices) (IndexBelow count)
    ∷ optional_key (codes "region") Tables
    ∷ optional_key (codes "file") Tables
    ∷ required_key (codes "entry") EntryTables
    ∷ optional_key (codes "firmware") OneTable
    ∷ optional_key (codes "avoid") Tables
    ∷ []
key_rules count Region =
    required_key (codes "base") Number ∷ required_key (codes "length") Number
    ∷ required_key (codes "kind") KindName ∷ []
key_rules count Firmware =
    optional_key (codes "rsdp") Number
    ∷ optional_key (codes "screen") OneTable
    ∷ optional_key (codes "efi") OneTable
    ∷ optional_key (codes "smbios") OneTable
    ∷ []
key_rules count Screen =
    required_key (codes "base") Number
    ∷ required_key (codes "pitch") Word
    ∷ required_key (codes "width") Word
    ∷ required_key (codes "height") Word
    ∷ required_key (codes "depth") Byte
    ∷ required_key (codes "red") Color
    ∷ required_key (codes "green") Color
    ∷ required_key (codes "blue") Color
    ∷ []
key_rules count Efi =
    required_key (codes "bits") allowed.EfiBits
    ∷ required_key (codes "system_table") Number
    ∷ required_key (codes "map") HexText
    ∷ required_key (codes "map_address") Number
    ∷ required_key (codes "descriptor_size") Word
    ∷ required_key (codes "descriptor_version") Word
    ∷ optional_key (codes "secure_boot") allowed.SecureBoot
    ∷ []
key_rules count Smbios =
    required_key (codes "major") Byte
    ∷ required_key (codes "minor") Byte
    ∷ required_key (codes "tables") HexText
    ∷ []
key_rules count Avoided =
    required_key (codes "base") Number ∷ required_key (codes "length") Number ∷ []
key_rules count File = required_key (codes "name") AnyText ∷ required_key (codes "hex") HexText ∷ []
key_rules count Entry = common_entry_rules ++ multiboot2_rules ++ linux_rules
key_rules count Multiboot2Entry = common_entry_rules ++ multiboot2_rules
key_rules count LinuxEntry = common_entry_rules ++ linux_rules
key_rules count Module =
    required_key (codes "file") AnyText ∷ optional_key (codes "line") AnyText ∷ []

-- the keys that a table may have
abbrev pub keys_of_set : KeySet → List (List ℕ)
keys_of_set set = map (λ rule. rule.key) (key_rules 0 set)

-- the keys that an entry may have, by its protocol, if it has one
abbrev pub set_of_protocol : Option Protocol → KeySet
set_of_protocol None = Entry
set_of_protocol (Some Multiboot2) = Multiboot2Entry
set_of_protocol (Some Linux) = LinuxEntry
set_of_protocol (Some Linux64) = LinuxEntry
