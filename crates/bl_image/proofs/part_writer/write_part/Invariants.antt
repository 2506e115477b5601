use Rattle.std.proofs.Common.{◌≡◌, ◌+◌, ◌-◌, ◌≤◌, slice_range}
use Rattle.bl_image.proofs.Ways.{IsOnWay}
use Rattle.bl_image.specs.internal.PlaceRecords.{place_bytes}
use Rattle.bl_image.proofs.part_writer.write_part.Given as goal

-- the bytes of the place from done on are left
abbrev pub invariant-loop-done : goal.invariant-loop-done
invariant-loop-done g l = record {
  within : l.done ≤ l.place.length;
  way : IsOnWay (g.S.Sink.contents l.fn.sink) (g.S.Sink.contents l.sink)
      (slice_range (g.M.PhysMem.bytes l.memory) (l.place.address + l.done)
      (l.place.address + l.place.length)) (place_bytes (g.M.PhysMem.bytes l.memory) l.place);
  sound : g.S.Sink.faults l.sink ≡ g.S.Sink.faults l.fn.sink;
}

abbrev pub decreases-loop-done : goal.decreases-loop-done
decreases-loop-done g l = l.place.length - l.done
