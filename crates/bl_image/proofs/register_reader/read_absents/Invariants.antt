use Rattle.std.proofs.Common.{◌≡◌}
use Rattle.std.specs.Prelude.{replicate}
use Rattle.std.specs.List.{flat_map}
use Rattle.bl_mem.specs.LittleEndian.{u64_bytes}
use Rattle.bl_image.specs.Fields.{absent_field}
use Rattle.bl_image.specs.internal.SourceReading.{PassAll}
use Rattle.bl_image.proofs.register_reader.read_absents.Given as goal

-- the first zeros came
abbrev pub invariant-loop-i : goal.invariant-loop-i
invariant-loop-i g l = record {
  passed : PassAll (replicate l._i absent_field) (g.S.Source.input l.fn.source)
      (g.S.Source.input l.source) (flat_map u64_bytes (replicate l._i 0));
  sound : g.S.Source.faults l.source ≡ g.S.Source.faults l.fn.source;
}
