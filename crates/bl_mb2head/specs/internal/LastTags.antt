-- What the scan of the tags keeps: words for the clauses of src/last_tags.rt alone. What a
-- header says is defined without them.
use Rattle.std.specs.Prelude.{◌≤◌, ◌+◌, ℕ, List, IfSome}
use Rattle.bl_mb2head.specs.declared.tag.Tag.{Tag}
use Rattle.bl_mb2head.specs.declared.last_tags.LastTags.{LastTags}
use Rattle.bl_mb2head.specs.Tags.{last_of, address_type, entry_type, relocatable_type}

-- the last tags of the kinds that count
abbrev pub last_tags : List Tag → LastTags
last_tags ts = record {
  address = last_of address_type ts;
  entry = last_of entry_type ts;
  relocation = last_of relocatable_type ts;
}

-- their fields lie before the header's end
pub record LieBefore (end : ℕ) (last : LastTags) : Type 0 where
  pub address : IfSome last.address (λ t. t.place + 24 ≤ end)
  pub entry : IfSome last.entry (λ t. t.place + 12 ≤ end)
  pub relocation : IfSome last.relocation (λ t. t.place + 24 ≤ end)
