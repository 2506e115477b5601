-- What the code keeps of reading the entries of a menu. Own.
use Rattle.std.specs.Prelude.{◌≡◌, ℕ, codes}
use Rattle.std.specs.Option.{IsSomeAnd}
use Rattle.toml.specs.Data.{Data, Members, get_member, get, at}
use Rattle.program_desc.specs.TomlValues.{◌>>=◌}
use Rattle.program_desc.specs.Entries.{toml_protocol}
use Rattle.program_desc.specs.KeyRules.{set_of_protocol}
use Rattle.program_desc.specs.BadKeys.{entry_set, IsItemFault, IsKeyFault}
use Rattle.program_desc.specs.declared.bad_key.BadKey.{BadKey}
use Rattle.program_desc.specs.declared.bad_key.KeyFault.{KeyFault}
use Rattle.program_desc.specs.declared.key_set.KeySet.{KeySet}
use Rattle.program_desc.specs.declared.key_set.KeySet.TheVariants as keys
use Rattle.program_desc.specs.declared.bad_key.TablePlace.{TablePlace}
use Rattle.program_desc.specs.declared.bad_key.TablePlace.TheVariants as places

-- the keys that an entry may have
abbrev pub entry_set_in : Members → KeySet
entry_set_in ms = set_of_protocol (get_member (codes "protocol") ms >>= toml_protocol)

-- an entry of this index with these keys has this fault, or a module of it
abbrev pub IsEntryFaultAt : KeySet → ℕ → Members → TablePlace → KeyFault → Type 0
IsEntryFaultAt set i ms (places.Entry k) fault = (k ≡ i) × IsKeyFault 0 set ms fault
IsEntryFaultAt set i ms (places.Module k j) fault =
    (k ≡ i)
    × IsSomeAnd (get_member (codes "module") ms >>= at j) (λ m. IsItemFault keys.Module m fault)
IsEntryFaultAt set i ms _ fault = ⊥

abbrev pub IsEntryBad : KeySet → ℕ → Members → BadKey → Type 0
IsEntryBad set i ms bad = IsEntryFaultAt set i ms bad.table bad.fault

-- the same of a value that stands for an entry
abbrev pub IsEntryItemFaultAt : ℕ → Data → TablePlace → KeyFault → Type 0
IsEntryItemFaultAt i d (places.Entry k) fault = (k ≡ i) × IsItemFault (entry_set d) d fault
IsEntryItemFaultAt i d (places.Module k j) fault =
    (k ≡ i)
    × IsSomeAnd (get (codes "module") d >>= at j) (λ m. IsItemFault keys.Module m fault)
IsEntryItemFaultAt i d _ fault = ⊥

abbrev pub IsEntryItemBad : ℕ → Data → BadKey → Type 0
IsEntryItemBad i d bad = IsEntryItemFaultAt i d bad.table bad.fault
