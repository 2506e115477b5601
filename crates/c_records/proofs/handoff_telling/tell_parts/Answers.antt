use Rattle.std.proofs.Common.{arith, ◌∙◌, ◌≡◌, length}
use Rattle.bl_load.specs.PlannedPlaces.{planned_place}
use Rattle.c_records.specs.LoadTold.{place_told}
use Rattle.c_records.proofs.TellLemmas.{tell_one, told_under}
use Rattle.c_records.proofs.handoff_telling.tell_parts.Goals as goal

pub loop-index-preserved : goal.loop-index-preserved
loop-index-preserved g c =
    tell_one (λ part. place_told part.place) c.args.parts.now c.args.places.now c.loop-index.places
    c.loop-index.index _ c.place_told.result c.loop-index.invariant (omega arith) (omega arith)
    c.place_told.ensures

pub returns : goal.returns
returns g c =
    let end = c.loop-index.auto.index-end in
    let all : c.loop-index.index ≡ length c.args.parts.now =
    omega (arith, end, c.loop-index-test.false) in
    c.loop-index.invariant
    ∙ told_under planned_place place_told c.args.parts.now c.args.places.now c.loop-index.index all
