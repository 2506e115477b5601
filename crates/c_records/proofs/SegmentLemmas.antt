-- The segments of registers as they are told.
use Rattle.std.proofs.Common.{◌≡◌, List, [], ◌∷◌, refl}
use Rattle.bl_load.specs.SegmentRegisters.{segment_in}
use Rattle.bl_load.specs.declared.registers.Registers.{Registers}
use Rattle.bl_load.specs.declared.registers.Registers.TheVariants.{Bits32, Bits64}
use Rattle.bl_load.specs.declared.segment_registers.SegmentName.TheVariants.{Cs, Ds, Es, Fs, Gs, Ss}
use Rattle.c_records.specs.LoadTold.{registers_told}
use Rattle.c_records.specs.SegmentsTold.{segment_told, segments_told}
use Rattle.c_records.specs.declared.segment_records.SegmentRecord.{SegmentRecord}

abbrev pub segments_of : Registers → List SegmentRecord
segments_of r =
    segment_told (segment_in r Cs) ∷ segment_told (segment_in r Ds)
    ∷ segment_told (segment_in r Es) ∷ segment_told (segment_in r Fs)
    ∷ segment_told (segment_in r Gs) ∷ segment_told (segment_in r Ss) ∷ []

pub told_of : (r : Registers) → segments_told (registers_told r) ≡ segments_of r
told_of (Bits32 r) = refl
told_of (Bits64 r) = refl
