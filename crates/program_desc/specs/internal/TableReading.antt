-- What the code keeps of reading a table key by key. Own.
use Rattle.std.specs.Prelude.{◌≡◌, ◌<◌, ℕ, Bool, true, false, ◌&&◌, not, nat_le, if◌then◌else◌}
use Rattle.std.specs.Prelude.{List, length, map, take, slice_get, Option, Some, None, IfSome}
use Rattle.std.specs.Option.{IsSomeAnd}
use Rattle.toml.specs.Data.{Data, array, Items, no_items, Members, get_member, get_item}
use Rattle.toml.specs.View.{view}
use Rattle.bl_plan.specs.MenuLimits.{max_entries, max_modules}
use Rattle.program_desc.specs.TomlValues.{◌>>=◌, has_only, toml_number}
use Rattle.program_desc.specs.Described.{has_file}
use Rattle.program_desc.specs.Views.{file_view}
use Rattle.program_desc.specs.Allowed.{allows}
use Rattle.program_desc.specs.KeyRules.{KeyRule, keys_of_set}
use Rattle.program_desc.specs.BadKeys.{BreaksRule, IsItemFault, IsKeyFault}
use Rattle.program_desc.specs.declared.allowed.Allowed.{Allowed}
use Rattle.program_desc.specs.declared.allowed.Allowed.TheVariants.{TwoNumbers, Indices, Tables}
use Rattle.program_desc.specs.declared.allowed.Allowed.TheVariants.{EntryTables, ModuleTables}
use Rattle.program_desc.specs.declared.bad_key.BadKey.{BadKey}
use Rattle.program_desc.specs.declared.bad_key.KeyFault.{KeyFault}
use Rattle.program_desc.specs.declared.bad_key.KeyFault.TheVariants.{BadItem}
use Rattle.program_desc.specs.declared.bad_key.TablePlace.{TablePlace}
use Rattle.program_desc.specs.declared.bad_key.TablePlace.TheVariants.{Description}
use Rattle.program_desc.specs.declared.file_row.FileRow.{FileRow}
use Rattle.program_desc.specs.declared.key_set.KeySet.{KeySet}
use Rattle.program_desc.specs.declared.key_table.Key.{Key}
use Rattle.program_desc.specs.declared.table_fault.TableFault.{TableFault}
use Rattle.program_desc.specs.declared.table_fault.TableFault.TheVariants as faults

-- ---- keys

-- the rule of a key, but for items of arrays
abbrev pub rule_view : Key → KeyRule
rule_view key = record {
  key = key.name.now;
  required = key.required;
  allowed = key.allowed;
  items = None;
}

-- the table at this place breaks this rule
abbrev pub BreaksAt : TablePlace → KeyRule → Members → BadKey → Type 0
BreaksAt place rule ms bad = (bad.table ≡ place) × BreaksRule rule ms bad.fault

-- the table at this place, which may have these keys, has a fault
abbrev pub IsFaultOf : TablePlace → KeySet → Members → BadKey → Type 0
IsFaultOf place set ms bad = (bad.table ≡ place) × IsKeyFault 0 set ms bad.fault

-- the table at this place has a key that is none of these
abbrev pub HasUnknownKey : TablePlace → KeySet → Members → TableFault → Type 0
HasUnknownKey place set ms (faults.BadKey bad) =
    (has_only (keys_of_set set) ms ≡ false) × (bad.table ≡ place)
    × ((count : ℕ) → IsKeyFault count set ms bad.fault)
HasUnknownKey place set ms faults.NoMemory = ⊥

-- ---- arrays

abbrev pub passes_at : Bool → Allowed → Option Data → Bool
passes_at required allowed None = not required
passes_at required allowed (Some d) = allows allowed d

-- the rule is not broken, but for items of arrays
abbrev pub passes : KeyRule → Members → Bool
passes rule ms = passes_at rule.required rule.allowed (get_member rule.key ms)

-- the items of the array that a value is, none if it is no array
abbrev pub array_items : Option Data → Items
array_items (Some (array ds)) = ds
array_items _ = no_items

-- those at a key, if its rule is kept
abbrev pub array_by : KeyRule → Members → Option Items
array_by rule ms =
    if passes rule ms then Some (array_items (get_member rule.key ms)) else None

-- what is allowed are arrays
abbrev pub AllowsArrays : Allowed → Type 0
AllowsArrays TwoNumbers = Unit {0}
AllowsArrays Indices = Unit {0}
AllowsArrays Tables = Unit {0}
AllowsArrays EntryTables = Unit {0}
AllowsArrays ModuleTables = Unit {0}
AllowsArrays _ = ⊥

-- of so many items
abbrev pub allows_count : Allowed → ℕ → Bool
allows_count TwoNumbers n = nat_le 2 n && nat_le n 2
allows_count EntryTables n = nat_le 1 n && nat_le n max_entries
allows_count ModuleTables n = nat_le 0 n && nat_le n max_modules
allows_count _ n = true

-- one of these items is bad so
abbrev pub HasBadItem : (ℕ → Data → BadKey → Type 0) → Items → BadKey → Type 0
HasBadItem IsBad ds bad = (i : ℕ) × IsSomeAnd (get_item i ds) (λ d. IsBad i d bad)

-- this value stands at this place, and is no table
abbrev pub IsNoTable : TablePlace → Data → BadKey → Type 0
IsNoTable place d bad = (bad.table ≡ place) × ((set : KeySet) → IsItemFault set d bad.fault)

-- an item that must be a table of these keys, at a place by its index
abbrev pub IsBadTable : (ℕ → TablePlace) → KeySet → ℕ → Data → BadKey → Type 0
IsBadTable place_of set i d bad = (bad.table ≡ place_of i) × IsItemFault set d bad.fault

-- an item that is not allowed, of the array at a key of the description
abbrev pub IsItemFaultAt : List ℕ → Allowed → ℕ → Data → KeyFault → Type 0
IsItemFaultAt key allowed i d (BadItem at_key index value told) =
    (at_key.now ≡ key) × (told ≡ allowed) × (index ≡ i) × (view value.now ≡ d)
    × (allows allowed d ≡ false)
IsItemFaultAt key allowed i d _ = ⊥

abbrev pub IsBadItem : List ℕ → Allowed → ℕ → Data → BadKey → Type 0
IsBadItem key allowed i d bad =
    (bad.table ≡ Description) × IsItemFaultAt key allowed i d bad.fault

-- the number that the item of an index is
abbrev pub number_item : ℕ → Items → Option ℕ
number_item i ds = get_item i ds >>= toml_number

-- ---- files

-- the file of this index has the name of an earlier one
abbrev pub HasEarlierName : {A : Type 0} → List (FileRow A) → ℕ → Type 0
HasEarlierName files i =
    IfSome (slice_get files i)
    (λ f. has_file f.name (map file_view (take i files)) ≡ true)
    × (i < length files)
