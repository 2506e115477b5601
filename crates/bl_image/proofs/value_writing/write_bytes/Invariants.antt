use Rattle.std.proofs.Common.{◌≡◌, drop}
use Rattle.bl_image.proofs.PartLemmas.{all_bytes}
use Rattle.bl_image.proofs.Ways.{IsOnWay}
use Rattle.bl_image.proofs.value_writing.write_bytes.Given as goal

-- the bytes of the parts from this one on are left
abbrev pub invariant-loop-part : goal.invariant-loop-part
invariant-loop-part g l = record {
  way : IsOnWay (g.S.Sink.contents l.fn.sink) (g.S.Sink.contents l.sink)
      (all_bytes (drop l.part-index l.parts)) (all_bytes l.parts);
  sound : g.S.Sink.faults l.sink ≡ g.S.Sink.faults l.fn.sink;
}
