-- The numbers of refusals. Own.
use Rattle.std.specs.Prelude.{ℕ}
use Rattle.bl_load.specs.declared.refusal.Refusal.{Refusal}
use Rattle.bl_load.specs.declared.refusal.Refusal.TheVariants as refusals
use Rattle.bl_load.specs.declared.refusal.PrepFault.{PrepFault}
use Rattle.bl_load.specs.declared.refusal.PrepFault.TheVariants.{Refused, NoMemory}

abbrev pub refusal_number : Refusal → ℕ
-- >>> tools/refusals: number cases of Refusal
refusal_number (refusals.NoFile file) = 1
refusal_number (refusals.FileFault file) = 2
refusal_number (refusals.FileTooLong file) = 3
refusal_number refusals.NoHeader = 4
refusal_number refusals.HeaderCut = 5
refusal_number refusals.BadArchitecture = 6
refusal_number (refusals.BadTag offset) = 7
refusal_number (refusals.UnsupportedTag type) = 8
refusal_number (refusals.UnsupportedRequest type) = 9
refusal_number refusals.NoConsole = 10
refusal_number refusals.NotElf = 11
refusal_number refusals.BadElf = 12
refusal_number (refusals.SegmentCut i) = 13
refusal_number (refusals.AddressTooHigh i) = 14
refusal_number (refusals.SegmentsOverlap i j) = 15
refusal_number refusals.NoEntry = 16
refusal_number refusals.EntryOutside = 17
refusal_number refusals.BadAlign = 18
refusal_number refusals.NotUsable = 19
refusal_number refusals.NoRoom = 20
refusal_number refusals.NoPool = 21
refusal_number refusals.NotBzImage = 22
refusal_number refusals.OldProtocol = 23
refusal_number refusals.NotHigh = 24
refusal_number refusals.SetupCut = 25
refusal_number refusals.BadPreferred = 26
refusal_number refusals.LineTooLong = 27
refusal_number refusals.LineHasNul = 28
refusal_number refusals.MapTooLong = 29
refusal_number refusals.No64Entry = 30

-- <<<

-- the number of why an entry is not prepared; want of memory has that of a boot's
abbrev pub prep_fault_number : PrepFault → ℕ
prep_fault_number (Refused refusal) = refusal_number refusal
prep_fault_number NoMemory = 41
