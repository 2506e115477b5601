use Rattle.std.proofs.Common.{◌∙◌, ap, arith, length}
use Rattle.std.proofs.lemmas.List.{length-map}
use Rattle.bl_load.specs.PlannedPlaces.{planned_place}
use Rattle.c_records.specs.LoadTold.{places_told}
use Rattle.c_records.proofs.handoff_telling.tell_places.Goals as goal

pub tell_parts-requires : goal.tell_parts-requires
tell_parts-requires g c =
    omega (
      arith,
      c.requires,
      ap length c.parts.ensures,
      length-map c.parts.result.now planned_place,
    )

pub returns : goal.returns
returns g c =
    c.tell_parts.ensures ∙ ap (λ places. places_told places c.args.places.now) c.parts.ensures
