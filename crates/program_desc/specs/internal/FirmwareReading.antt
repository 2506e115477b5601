-- What the code keeps of reading what firmware tells. Own.
use Rattle.std.specs.Prelude.{codes}
use Rattle.std.specs.Option.{IsSomeAnd}
use Rattle.toml.specs.Data.{Members, get_member}
use Rattle.program_desc.specs.BadKeys.{IsItemFault, IsKeyFault}
use Rattle.program_desc.specs.declared.bad_key.BadKey.{BadKey}
use Rattle.program_desc.specs.declared.bad_key.KeyFault.{KeyFault}
use Rattle.program_desc.specs.declared.bad_key.TablePlace.{TablePlace}
use Rattle.program_desc.specs.declared.bad_key.TablePlace.TheVariants.{Firmware, Screen, Efi}
use Rattle.program_desc.specs.declared.bad_key.TablePlace.TheVariants.{Smbios}
use Rattle.program_desc.specs.declared.key_set.KeySet.TheVariants as keys

-- the table of what firmware tells has this fault, or one of the tables in it
abbrev pub IsFirmwareFaultAt : Members → TablePlace → KeyFault → Type 0
IsFirmwareFaultAt ms Firmware fault = IsKeyFault 0 keys.Firmware ms fault
IsFirmwareFaultAt ms Screen fault =
    IsSomeAnd (get_member (codes "screen") ms) (λ d. IsItemFault keys.Screen d fault)
IsFirmwareFaultAt ms Efi fault =
    IsSomeAnd (get_member (codes "efi") ms) (λ d. IsItemFault keys.Efi d fault)
IsFirmwareFaultAt ms Smbios fault =
    IsSomeAnd (get_member (codes "smbios") ms) (λ d. IsItemFault keys.Smbios d fault)
IsFirmwareFaultAt ms _ fault = ⊥

abbrev pub IsFirmwareBad : Members → BadKey → Type 0
IsFirmwareBad ms bad = IsFirmwareFaultAt ms bad.table bad.fault
