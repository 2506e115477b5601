-- What C is told of a refusal. Own.
use Rattle.std.specs.Prelude.{ℕ}
use Rattle.bl_load.specs.RefusalNumbers.{refusal_number}
use Rattle.bl_load.specs.declared.refusal.Refusal.{Refusal}
use Rattle.bl_load.specs.declared.refusal.Refusal.TheVariants as refusal
use Rattle.c_records.specs.declared.end_records.RefusalRecord.{RefusalRecord}

-- what it carries first: a file's place in its entry, the offset of a tag, a type, a segment's
-- index; 0 if nothing
abbrev pub first_carried : Refusal → ℕ
-- >>> tools/refusals: first carried cases of Refusal
first_carried (refusal.NoFile first) = first
first_carried (refusal.FileFault first) = first
first_carried (refusal.FileTooLong first) = first
first_carried refusal.NoHeader = 0
first_carried refusal.HeaderCut = 0
first_carried refusal.BadArchitecture = 0
first_carried (refusal.BadTag first) = first
first_carried (refusal.UnsupportedTag first) = first
first_carried (refusal.UnsupportedRequest first) = first
first_carried refusal.NoConsole = 0
first_carried refusal.NotElf = 0
first_carried refusal.BadElf = 0
first_carried (refusal.SegmentCut first) = first
first_carried (refusal.AddressTooHigh first) = first
first_carried (refusal.SegmentsOverlap first second) = first
first_carried refusal.NoEntry = 0
first_carried refusal.EntryOutside = 0
first_carried refusal.BadAlign = 0
first_carried refusal.NotUsable = 0
first_carried refusal.NoRoom = 0
first_carried refusal.NoPool = 0
first_carried refusal.NotBzImage = 0
first_carried refusal.OldProtocol = 0
first_carried refusal.NotHigh = 0
first_carried refusal.SetupCut = 0
first_carried refusal.BadPreferred = 0
first_carried refusal.LineTooLong = 0
first_carried refusal.LineHasNul = 0
first_carried refusal.MapTooLong = 0
first_carried refusal.No64Entry = 0

-- <<<

-- what it carries beside it: the other segment's index
abbrev pub second_carried : Refusal → ℕ
-- >>> tools/refusals: second carried cases of Refusal
second_carried (refusal.NoFile first) = 0
second_carried (refusal.FileFault first) = 0
second_carried (refusal.FileTooLong first) = 0
second_carried refusal.NoHeader = 0
second_carried refusal.HeaderCut = 0
second_carried refusal.BadArchitecture = 0
second_carried (refusal.BadTag first) = 0
second_carried (refusal.UnsupportedTag first) = 0
second_carried (refusal.UnsupportedRequest first) = 0
second_carried refusal.NoConsole = 0
second_carried refusal.NotElf = 0
second_carried refusal.BadElf = 0
second_carried (refusal.SegmentCut first) = 0
second_carried (refusal.AddressTooHigh first) = 0
second_carried (refusal.SegmentsOverlap first second) = second
second_carried refusal.NoEntry = 0
second_carried refusal.EntryOutside = 0
second_carried refusal.BadAlign = 0
second_carried refusal.NotUsable = 0
second_carried refusal.NoRoom = 0
second_carried refusal.NoPool = 0
second_carried refusal.NotBzImage = 0
second_carried refusal.OldProtocol = 0
second_carried refusal.NotHigh = 0
second_carried refusal.SetupCut = 0
second_carried refusal.BadPreferred = 0
second_carried refusal.LineTooLong = 0
second_carried refusal.LineHasNul = 0
second_carried refusal.MapTooLong = 0
second_carried refusal.No64Entry = 0

-- <<<

-- the refusal of the entry with this index
abbrev pub refusal_record : ℕ → Refusal → RefusalRecord
refusal_record entry refused = record {
  entry = entry;
  number = refusal_number refused;
  first = first_carried refused;
  second = second_carried refused;
  reserved = 0;
}
