use Rattle.std.proofs.Common.{◌≡◌, drop}
use Rattle.std.specs.List.{flat_map}
use Rattle.bl_image.proofs.Ways.{IsOnWay}
use Rattle.bl_image.specs.internal.PlaceRecords.{place_bytes}
use Rattle.bl_image.proofs.part_writer.write_parts.Given as goal

-- the bytes of the places from the i-th on are left
abbrev pub invariant-loop-i : goal.invariant-loop-i
invariant-loop-i g l = record {
  way : IsOnWay (g.S.Sink.contents l.fn.sink) (g.S.Sink.contents l.sink)
      (flat_map (place_bytes (g.M.PhysMem.bytes l.memory)) (drop l.i l.handoff.places))
      (flat_map (place_bytes (g.M.PhysMem.bytes l.memory)) l.handoff.places);
  sound : g.S.Sink.faults l.sink ≡ g.S.Sink.faults l.fn.sink;
}
