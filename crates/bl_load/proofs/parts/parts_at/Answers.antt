use Rattle.std.proofs.Common.{ℕ, List, [], ◌∷◌, ◌++◌, map, take, get_or, sym, ap, ap₂, ◌∙◌}
use Rattle.std.proofs.lemmas.List.{map-append, take_all, take_more}
use Rattle.std.proofs.lemmas.List.Elements.{All-push}
use Rattle.std.proofs.lemmas.Result.{err_from_is_err_and}
use Rattle.bl_plan.specs.declared.part.Place.{Place}
use Rattle.bl_plan.specs.declared.part.Role.TheVariants.{Kernel}
use Rattle.bl_load.specs.declared.plan.PlannedPart.{PlannedPart}
use Rattle.bl_load.specs.Handover.{Part, placed_part, zero_padded}
use Rattle.bl_load.specs.Origins.{Origin, PartOrigin, planned_origin, origin_at}
use Rattle.bl_load.specs.Parts.{part_from}
use Rattle.bl_load.specs.PlannedPlaces.{planned_place}
use Rattle.bl_load.specs.PlanContents.{part_by}
use Rattle.bl_load.specs.Loadable.{lengths_of, IsBacked}
use Rattle.bl_load.specs.LeanPlans.{IsLeanContent}
use Rattle.bl_load.specs.internal.CheckedEntries.{texts_in, value_of_files}
use Rattle.bl_load.proofs.parts.parts_at.Goals as goal

pub content-requires : goal.content-requires
content-requires g c = c.requires c.loop-place.place-index _ c.loop-place-test.true

pub loop-place-preserved : goal.loop-place-preserved
loop-place-preserved g c =
    let entry = c.args.entry.now in
    let texts = texts_in entry in
    let from : Place → Part =
    part_from entry.machine.now (value_of_files entry) (g.K.LoadableKernel.reading c.args.kernel.now)
    c.args.places.now in
    let by : PlannedPart g.row.A.Denot → Part = part_by texts in
    let origin_from_place : Place → PartOrigin =
    origin_at entry.machine.now (value_of_files entry) (g.K.LoadableKernel.reading c.args.kernel.now)
    c.args.places.now in
    let origin_in : PlannedPart g.row.A.Denot → PartOrigin = planned_origin in
    let stays : PlannedPart g.row.A.Denot → Type 0 =
    λ part. IsLeanContent part.place.role part.content in
    let place_in : PlannedPart g.row.A.Denot → Place = planned_place in
    let k = c.loop-place.place-index in
    let all = c.args.sorted.now in
    let none : Place = record { role = Kernel; index = 0; address = 0; length = 0 } in
    let place = get_or all k none in
    let new : PlannedPart g.row.A.Denot =
    record { place = place; content = c.in_ok-content.content } in
    let from_there : Origin → PartOrigin = λ o. record { place = place; origin = o } in
    let more = take_more all k none c.loop-place-test.true in
    let i = c.loop-place.invariant in
    let items = c.in_ok-push.ensures.items in
    record {
      parts = ap (map by) items ∙ map-append by c.loop-place.parts.items (new ∷ [])
          ∙ ap₂ (λ (xs : List Part) (x : Part). xs ++ x ∷ []) i.parts
          (ap (λ (bytes : List ℕ). placed_part place (zero_padded place.length bytes))
          c.in_ok-content.ensures.is)
          ∙ sym (map-append from (take k all) (place ∷ [])) ∙ ap (map from) (sym more);
      backed =
          rw items
          (All-push (IsBacked (lengths_of texts)) c.loop-place.parts.items new i.backed
          record {
            there = c.in_ok-content.ensures.there;
            short = c.in_ok-content.ensures.short;
          });
      lean =
          rw items
          (All-push stays c.loop-place.parts.items new i.lean c.in_ok-content.ensures.lean);
      places =
          ap (map place_in) items ∙ map-append place_in c.loop-place.parts.items (new ∷ [])
          ∙ ap (λ (xs : List Place). xs ++ place ∷ []) i.places ∙ sym more;
      origins =
          ap (map origin_in) items ∙ map-append origin_in c.loop-place.parts.items (new ∷ [])
          ∙ ap₂ (λ (xs : List PartOrigin) (x : PartOrigin). xs ++ x ∷ []) i.origins
          (ap from_there c.in_ok-content.ensures.comes)
          ∙ sym (map-append origin_from_place (take k all) (place ∷ []))
          ∙ ap (map origin_from_place) (sym more);
    }

pub returns-in_err-parts : goal.returns-in_err-parts
returns-in_err-parts g c =
    let p = err_from_is_err_and c.from_residual.result c.from_residual.ensures.1 in
    rw p.1 tt

pub returns-in_err-content : goal.returns-in_err-content
returns-in_err-content g c =
    let p =
    err_from_is_err_and c.from_residual-in_err-content.result
    c.from_residual-in_err-content.ensures.1 in
    rw p.1 tt

pub returns-in_err-push : goal.returns-in_err-push
returns-in_err-push g c =
    let p =
    err_from_is_err_and c.from_residual-in_err-push.result c.from_residual-in_err-push.ensures.1 in
    rw p.1 tt

pub returns : goal.returns
returns g c =
    let entry = c.args.entry.now in
    let from : Place → Part =
    part_from entry.machine.now (value_of_files entry) (g.K.LoadableKernel.reading c.args.kernel.now)
    c.args.places.now in
    let origin_from_place : Place → PartOrigin =
    origin_at entry.machine.now (value_of_files entry) (g.K.LoadableKernel.reading c.args.kernel.now)
    c.args.places.now in
    let all = take_all c.loop-place.place-index c.args.sorted.now c.loop-place-test.false in
    record {
      parts = c.loop-place.invariant.parts ∙ ap (map from) all;
      backed = c.loop-place.invariant.backed;
      lean = c.loop-place.invariant.lean;
      places = c.loop-place.invariant.places ∙ all;
      origins = c.loop-place.invariant.origins ∙ ap (map origin_from_place) all;
    }
