use Rattle.std.proofs.Common.{◌+◌, ◌<◌, ◌^◌, ℕ, List, [], ◌∷◌, ◌++◌, map, take, get_or, arith, ap}
use Rattle.std.proofs.Common.{sym, ◌∙◌}
use Rattle.std.specs.declared.ops.Range.{Range}
use Rattle.std.proofs.lemmas.List.{map-append, take_all, take_more}
use Rattle.bl_plan.specs.Placed.{place_range}
use Rattle.std.proofs.lemmas.Result.{err_from_is_err_and}
use Rattle.bl_plan.specs.declared.part.Place.{Place}
use Rattle.bl_load.specs.declared.plan.PlannedPart.{PlannedPart}
use Rattle.bl_load.specs.PlannedPlaces.{planned_place}
use Rattle.bl_load.proofs.HeldLemmas.{all_under}
use Rattle.bl_load.proofs.placing.ranges_of.Goals as goal

pub overflow_add-part : goal.overflow_add-part
overflow_add-part g c =
    let x = c.part-item.result in
    let is = c.part-item.is in
    let small =
    all_under (λ (place : Place). place.address + place.length < 2 ^ 64) planned_place
    c.args.parts.now c.requires c.loop-part.part-index x c.loop-part-test.true in
    omega (
      arith,
      small,
      ap (λ (p : PlannedPart g.row.A.Denot). p.place.address) is,
      ap (λ (p : PlannedPart g.row.A.Denot). p.place.length) is,
    )

pub returns-in_err-ranges : goal.returns-in_err-ranges
returns-in_err-ranges g c =
    let p = err_from_is_err_and c.from_residual.result c.from_residual.ensures.1 in
    rw p.1 tt

pub returns-in_err-push : goal.returns-in_err-push
returns-in_err-push g c =
    let p =
    err_from_is_err_and c.from_residual-in_err-push.result c.from_residual-in_err-push.ensures.1 in
    rw p.1 tt

pub loop-part-preserved : goal.loop-part-preserved
loop-part-preserved g c =
    let k = c.loop-part.part-index in
    let all = c.args.parts.now in
    let x = c.part-item.result in
    let one : PlannedPart g.row.A.Denot → Range ℕ = λ part. place_range (planned_place part) in
    let to : List (PlannedPart g.row.A.Denot) → List (Range ℕ) =
    λ parts. map place_range (map planned_place parts) in
    c.in_ok-push.ensures.items
    ∙ ap (λ (ranges : List (Range ℕ)). ranges ++ one x ∷ []) c.loop-part.invariant
    ∙ ap (λ (part : PlannedPart g.row.A.Denot). to (take k all) ++ one part ∷ []) c.part-item.is
    ∙ sym (map-append place_range (map planned_place (take k all))
    (planned_place (get_or all k x) ∷ []))
    ∙ ap (map place_range) (sym (map-append planned_place (take k all) (get_or all k x ∷ [])))
    ∙ ap to (sym (take_more all k x c.loop-part-test.true))

pub returns : goal.returns
returns g c =
    let to : List (PlannedPart g.row.A.Denot) → List (Range ℕ) =
    λ parts. map place_range (map planned_place parts) in
    c.loop-part.invariant
    ∙ ap to (take_all c.loop-part.part-index c.args.parts.now c.loop-part-test.false)
