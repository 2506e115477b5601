-- When a blame of a description stands, and what is told with it. Own.
use Rattle.std.specs.Prelude.{◌≡◌, ◌≢◌, ◌≤◌, ℕ, true, false, List, length, take, Option, Some}
use Rattle.std.specs.Prelude.{None}
use Rattle.std.specs.Str.{is_utf8}
use Rattle.toml.specs.Data.{Members}
use Rattle.toml.specs.Parse.{parse_document}
use Rattle.bl_map.specs.FirmwareFaults.{HasFirstMachineFault}
use Rattle.bl_map.specs.declared.fault.MapFault.{MapFault}
use Rattle.bl_map.specs.declared.fault.MapFault.TheVariants.{NoMemory}
use Rattle.program_desc.specs.Described.{DescriptionFacts, described, described_in}
use Rattle.program_desc.specs.BadKeys.{IsBadKey}
use Rattle.program_desc.specs.declared.bad_key.BadKey.{BadKey}
use Rattle.program_say.specs.declared.subjects.blame.TextPlace.{TextPlace}
use Rattle.program_say.specs.declared.subjects.blame.Blame.{Blame}
use Rattle.program_say.specs.declared.subjects.blame.Blame.TheVariants as blames
use Rattle.program_boots.specs.explaining.TextPlaces.{text_place}

-- the text is not TOML, and the place is one of it, or behind it: toml's contract says of no place
-- that the mistake is there
pub record IsNotToml (desc : List ℕ) (place : TextPlace) : Type 0 where
  pub text : is_utf8 desc ≡ true
  pub refused : parse_document desc ≡ None
  pub at : ℕ
  pub within : at ≤ length desc
  pub told : place ≡ text_place (take at desc)

-- it is TOML, but this key of it is not as it must be
pub record HasBadKey (desc : List ℕ) (bad : BadKey) : Type 0 where
  pub text : is_utf8 desc ≡ true
  pub members : Members
  pub read : parse_document desc ≡ Some members
  pub refused : described_in members ≡ None
  pub stands : IsBadKey members bad

-- it describes a machine that breaks a rule; this fault is the first
pub record HasBadMachine (desc : List ℕ) (fault : MapFault) : Type 0 where
  pub description : DescriptionFacts
  pub is_described : described desc ≡ Some description
  pub named : fault ≢ NoMemory
  pub first :
      HasFirstMachineFault description.size description.regions description.pool
      description.firmware fault

abbrev pub HasBlame : List ℕ → Blame → Type 0
HasBlame desc blames.NotUtf8 = is_utf8 desc ≡ false
HasBlame desc (blames.NotToml place) = IsNotToml desc place
HasBlame desc (blames.BadKey bad) = HasBadKey desc bad
HasBlame desc (blames.BadMachine fault) = HasBadMachine desc fault

-- what is told for a person of bytes that are a bad description: a blame that stands, and what the
-- bytes describe, if anything. In which words, no definition says.
pub record TellsBlame (desc : List ℕ) (blame : Blame) (description : Option DescriptionFacts)
    : Type 0 where
  pub stands : HasBlame desc blame
  pub is_described : described desc ≡ description
