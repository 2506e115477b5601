use Rattle.std.proofs.Common.{◌≡◌, ◌<◌, ◌^◌, take, All}
use Rattle.std.specs.List.{flat_map}
use Rattle.bl_mem.specs.LittleEndian.{u32_bytes}
use Rattle.bl_image.specs.SourceFacts.{Comes}
use Rattle.bl_image.proofs.field_reader.read_u32s.Given as goal

-- the first numbers came
abbrev pub invariant-loop-i : goal.invariant-loop-i
invariant-loop-i g l = record {
  came : Comes (g.S.Source.input l.fn.source) (g.S.Source.input l.source)
      (flat_map u32_bytes (take l.i l.out));
  fit : All (λ n. n < 2 ^ 32) (take l.i l.out);
  sound : g.S.Source.faults l.source ≡ g.S.Source.faults l.fn.source;
}
