-- What C is told of the segment registers of registers that it was told. Own.
use Rattle.std.specs.Prelude.{ℕ, ◌==◌, Bool, if◌then◌else◌, List, [], ◌∷◌}
use Rattle.bl_load.specs.SegmentRegisters.{flat_code, flat_data, selector_of}
use Rattle.bl_load.specs.declared.segment_registers.SegmentRegister.{SegmentRegister}
use Rattle.c_records.specs.declared.end_records.RegistersRecord.{RegistersRecord}
use Rattle.c_records.specs.declared.segment_records.SegmentRecord.{SegmentRecord}

abbrev pub flag_told : Bool → ℕ
flag_told set = if set then 1 else 0

abbrev pub segment_told : SegmentRegister → SegmentRecord
segment_told segment = record {
  base = segment.base;
  limit = segment.limit;
  selector = segment.selector;
  segment_type = segment.segment_type;
  s = flag_told segment.s;
  dpl = segment.dpl;
  p = flag_told segment.p;
  avl = flag_told segment.avl;
  l = flag_told segment.l;
  db = flag_told segment.db;
  g = flag_told segment.g;
  reserved = 0;
}

-- CS, flat code, of 64 bits if the registers are; DS, ES, FS, GS and SS, flat data
abbrev pub segments_told : RegistersRecord → List SegmentRecord
segments_told r =
    segment_told (flat_code (r.bits == 64) (selector_of r.cs))
    ∷ segment_told (flat_data (selector_of r.ds))
    ∷ segment_told (flat_data (selector_of r.es))
    ∷ segment_told (flat_data (selector_of r.fs))
    ∷ segment_told (flat_data (selector_of r.gs))
    ∷ segment_told (flat_data (selector_of r.ss)) ∷ []
