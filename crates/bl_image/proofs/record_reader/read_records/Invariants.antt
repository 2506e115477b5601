use Rattle.std.proofs.Common.{◌≡◌, ◌-◌, ℕ, List, ◌++◌, length, All}
use Rattle.std.specs.List.{flat_map}
use Rattle.bl_plan.specs.declared.part.Place.{Place}
use Rattle.bl_load.specs.HandoffFacts.{IsRoleAllowed}
use Rattle.bl_image.specs.Layouts.{max_role}
use Rattle.bl_image.specs.internal.PlaceRecords.{place_record, AreSound, total_length}
use Rattle.bl_image.specs.ImageFaults.{FaultBehind, records_fault, no_records}
use Rattle.bl_image.specs.SourceFacts.{Comes}
use Rattle.bl_image.proofs.record_reader.read_records.Given as goal

-- the first records came, and leave the others to be judged
abbrev pub invariant-loop-part : goal.invariant-loop-part
invariant-loop-part g l = record {
  came : Comes (g.S.Source.input l.fn.source) (g.S.Source.input l.source)
      (flat_map place_record l.places.items);
  size : length l.places.items ≡ l.part;
  sound : AreSound l.places.items l.before;
  may : All (λ (place : Place). IsRoleAllowed l.wide place.role) l.places.items;
  judged : (behind : FaultBehind) (bytes : List ℕ)
      → records_fault behind (max_role l.wide) l.count no_records
      (flat_map place_record l.places.items ++ bytes)
      ≡ records_fault behind (max_role l.wide) (l.count - l.part)
      (record { count = l.part; end = l.before; bytes = total_length l.places.items }) bytes;
  faults : g.S.Source.faults l.source ≡ g.S.Source.faults l.fn.source;
}
