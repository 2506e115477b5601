-- What a menu offers, and what a boot of it hands over: an entry within its limits, whose texts are
-- bytes. Own.
use Rattle.std.specs.Prelude.{[], All, IfSome}
use Rattle.bl_mbi.specs.InfoToWriteFacts.{AreBytes}
use Rattle.bl_load.specs.EntryValue.{EntryValue, HasLimits, value_of, lines_of}
use Rattle.bl_load.specs.declared.entry.Entry.{Entry}

-- an entry's value is within its limits, and its lines and copies are bytes
pub record IsWellFormedValue (value : EntryValue) : Type 0 where
  pub limits : HasLimits value
  pub lines : All AreBytes (lines_of value)
  pub rsdp_old : IfSome value.rsdp_old AreBytes
  pub rsdp_new : IfSome value.rsdp_new AreBytes

-- an entry is, whatever its files hold
unfoldable pub IsWellFormedEntry : {A : Type 0} → Entry A → Type 0
IsWellFormedEntry entry = IsWellFormedValue (value_of [] entry)
