-- Which key of a description is a bad one: where it stands, what it holds, and that this is not
-- allowed there. Own.
use Rattle.std.specs.Prelude.{◌≡◌, ◌≢◌, ◌⊎◌, ℕ, true, false, List, [], ◌∷◌, Option, Some, None}
use Rattle.std.specs.Prelude.{codes, IsSome}
use Rattle.std.specs.Option.{IsSomeAnd}
use Rattle.std.specs.Str.{bytes_eq}
use Rattle.std.specs.List.{list_any}
use Rattle.toml.specs.Data.{Data, string, Items, Members, get_member, get, at, as_array, as_table}
use Rattle.toml.specs.View.{view}
use Rattle.program_desc.specs.TomlValues.{◌>>=◌, toml_text}
use Rattle.program_desc.specs.Entries.{toml_protocol}
use Rattle.program_desc.specs.Allowed.{allows, item_count}
use Rattle.program_desc.specs.KeyRules.{KeyRule, key_rules, keys_of_set, set_of_protocol}
use Rattle.program_desc.specs.declared.bad_key.BadKey.{BadKey}
use Rattle.program_desc.specs.declared.bad_key.KeyFault.{KeyFault}
use Rattle.program_desc.specs.declared.bad_key.KeyFault.TheVariants.{NoTable, Unknown, Missing}
use Rattle.program_desc.specs.declared.bad_key.KeyFault.TheVariants.{BadValue}
use Rattle.program_desc.specs.declared.bad_key.KeyFault.TheVariants.{BadItem, SameName}
use Rattle.program_desc.specs.declared.key_set.KeySet.{KeySet}
use Rattle.program_desc.specs.declared.key_set.KeySet.TheVariants as keys
use Rattle.program_desc.specs.declared.bad_key.TablePlace.{TablePlace}
use Rattle.program_desc.specs.declared.bad_key.TablePlace.TheVariants.{Description, Region, File}
use Rattle.program_desc.specs.declared.bad_key.TablePlace.TheVariants.{Entry}
use Rattle.program_desc.specs.declared.bad_key.TablePlace.TheVariants.{Module, Firmware, Screen}
use Rattle.program_desc.specs.declared.bad_key.TablePlace.TheVariants.{Efi, Smbios, Avoided}

-- ---- in one table

-- the key of this rule is missing, or it or an item of it holds what is not allowed
abbrev pub BreaksRule : KeyRule → Members → KeyFault → Type 0
BreaksRule rule ms (Missing key allowed) =
    (key.now ≡ rule.key) × (allowed ≡ rule.allowed) × (rule.required ≡ true)
    × (get_member rule.key ms ≡ None)
BreaksRule rule ms (BadValue key value allowed) =
    (key.now ≡ rule.key) × (allowed ≡ rule.allowed)
    × (get_member rule.key ms ≡ Some (view value.now))
    × (allows allowed (view value.now) ≡ false)
BreaksRule rule ms (BadItem key index value allowed) =
    (key.now ≡ rule.key) × (rule.items ≡ Some allowed)
    × ((get_member rule.key ms >>= at index) ≡ Some (view value.now))
    × (allows allowed (view value.now) ≡ false)
BreaksRule rule ms _ = ⊥

-- one of these rules is broken
abbrev pub BreaksAnyOf : List KeyRule → Members → KeyFault → Type 0
BreaksAnyOf [] ms fault = ⊥
BreaksAnyOf (rule ∷ rules) ms fault = BreaksRule rule ms fault ⊎ BreaksAnyOf rules ms fault

-- a table of these keys, where there are so many entries, has this fault
abbrev pub IsKeyFault : ℕ → KeySet → Members → KeyFault → Type 0
IsKeyFault count set ms (Unknown key known) =
    (known ≡ set) × IsSome (get_member key.now ms)
    × (list_any (λ k. bytes_eq k key.now) (keys_of_set set) ≡ false)
IsKeyFault count set ms fault = BreaksAnyOf (key_rules count set) ms fault

-- the same of a value: it is no table, or it is one that has this fault
abbrev pub IsItemFault : KeySet → Data → KeyFault → Type 0
IsItemFault set d (NoTable value) = (view value.now ≡ d) × (as_table d ≡ None)
IsItemFault set d fault = IsSomeAnd (as_table d) (λ ms. IsKeyFault 0 set ms fault)

-- ---- in the description

-- how many items the array at a key has, 0 if there is none
abbrev pub item_count_or_zero : Option Items → ℕ
item_count_or_zero None = 0
item_count_or_zero (Some ds) = item_count ds

abbrev pub count_at : List ℕ → Members → ℕ
count_at key ms = item_count_or_zero (get_member key ms >>= as_array)

-- the keys that an entry may have
abbrev pub entry_set : Data → KeySet
entry_set d = set_of_protocol (get (codes "protocol") d >>= toml_protocol)

-- the item of an index of the array at a key
abbrev pub item_at : List ℕ → ℕ → Members → Option Data
item_at key index ms = get_member key ms >>= at index

-- the name of the file of this index
abbrev pub file_name_at : ℕ → Members → Option (List ℕ)
file_name_at index ms = item_at (codes "file") index ms >>= get (codes "name") >>= toml_text

-- the table at this place has this fault
abbrev pub IsFaultAt : Members → TablePlace → KeyFault → Type 0
IsFaultAt ms Description fault =
    IsKeyFault (count_at (codes "entry") ms) keys.Description ms fault
IsFaultAt ms (Region i) fault =
    IsSomeAnd (item_at (codes "region") i ms) (λ d. IsItemFault keys.Region d fault)
IsFaultAt ms Firmware fault =
    IsSomeAnd (get_member (codes "firmware") ms) (λ d. IsItemFault keys.Firmware d fault)
IsFaultAt ms Screen fault =
    IsSomeAnd (get_member (codes "firmware") ms >>= get (codes "screen"))
    (λ d. IsItemFault keys.Screen d fault)
IsFaultAt ms Efi fault =
    IsSomeAnd (get_member (codes "firmware") ms >>= get (codes "efi"))
    (λ d. IsItemFault keys.Efi d fault)
IsFaultAt ms Smbios fault =
    IsSomeAnd (get_member (codes "firmware") ms >>= get (codes "smbios"))
    (λ d. IsItemFault keys.Smbios d fault)
IsFaultAt ms (Avoided i) fault =
    IsSomeAnd (item_at (codes "avoid") i ms) (λ d. IsItemFault keys.Avoided d fault)
IsFaultAt ms (File i) (SameName value) =
    (name : List ℕ) × (view value.now ≡ string name) × (file_name_at i ms ≡ Some name)
    × ((j : ℕ) × (j ≢ i) × (file_name_at j ms ≡ Some name))
IsFaultAt ms (File i) fault =
    IsSomeAnd (item_at (codes "file") i ms) (λ d. IsItemFault keys.File d fault)
IsFaultAt ms (Entry i) fault =
    IsSomeAnd (item_at (codes "entry") i ms) (λ d. IsItemFault (entry_set d) d fault)
IsFaultAt ms (Module i j) fault =
    IsSomeAnd (item_at (codes "entry") i ms >>= get (codes "module") >>= at j)
    (λ d. IsItemFault keys.Module d fault)

-- the table of these members has this bad key
abbrev pub IsBadKey : Members → BadKey → Type 0
IsBadKey ms bad = IsFaultAt ms bad.table bad.fault
