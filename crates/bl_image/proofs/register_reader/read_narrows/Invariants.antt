use Rattle.std.proofs.Common.{◌≡◌, ◌<◌, ◌^◌, take, All}
use Rattle.std.specs.Prelude.{replicate}
use Rattle.std.specs.List.{flat_map}
use Rattle.bl_mem.specs.LittleEndian.{u64_bytes}
use Rattle.bl_image.specs.Fields.{zero_extended_field}
use Rattle.bl_image.specs.internal.SourceReading.{PassAll}
use Rattle.bl_image.proofs.register_reader.read_narrows.Given as goal

-- the first registers came
abbrev pub invariant-loop-i : goal.invariant-loop-i
invariant-loop-i g l = record {
  passed : PassAll (replicate l.i zero_extended_field) (g.S.Source.input l.fn.source)
      (g.S.Source.input l.source) (flat_map u64_bytes (take l.i l.out));
  fit : All (λ n. n < 2 ^ 32) (take l.i l.out);
  sound : g.S.Source.faults l.source ≡ g.S.Source.faults l.fn.source;
}
