use Rattle.std.proofs.Common.{◌≤◌, ℕ, List, length, map, slice_index, arith, refl}
use Rattle.std.proofs.Common.{ap, ap₂, subst, sym, ◌∙◌}
use Rattle.std.proofs.lemmas.Result.{err_from_is_err_and}
use Rattle.std.specs.declared.ops.Range.{Range}
use Rattle.std.proofs.lemmas.List.Elements.{All-map}
use Rattle.bl_plan.specs.Placed.{place_range}
use Rattle.bl_load.specs.Handover.{Handover, overwrite_parts}
use Rattle.bl_load.specs.Parts.{IsHandover}
use Rattle.bl_load.specs.PlanContents.{places_of}
use Rattle.bl_load.specs.EntryValue.{value_of}
use Rattle.bl_load.proofs.MemoryLemmas.{keeps_all, keeps_on}
use Rattle.bl_load.proofs.entry_loading.load_entry.Goals as goal

pub reserve-requires-clause-forward : goal.reserve-requires-clause-forward
reserve-requires-clause-forward g c = rw c.ranges-2.ensures
    (All-map (λ (r : Range ℕ). r.start ≤ r.end) place_range (places_of c.in_ok-plan.plan)
    (λ k d h. omega arith))

pub reserve-requires-clause-inside : goal.reserve-requires-clause-inside
reserve-requires-clause-inside g c = rw c.ranges-2.ensures
    (All-map (λ (r : Range ℕ). r.end ≤ length (g.M.PhysMem.bytes c.args.memory.now))
    place_range (places_of c.in_ok-plan.plan)
    (λ k d h. let i = c.in_ok-plan.ensures.loadable.inside k d h in
    omega (arith, i, c.requires.size)))

pub load-requires-clause-room : goal.load-requires-clause-room
load-requires-clause-room g c = rw (← c.ranges-2.ensures) c.in_ok-reserve.ensures.made

pub returns-clause-kept : goal.returns-clause-kept
returns-clause-kept g c = keeps_on c.reserve.ensures.kept c.load.ensures.kept

pub prepare-requires-clause-files : goal.prepare-requires-clause-files
prepare-requires-clause-files g c = c.requires.files

pub prepare-requires-clause-limits : goal.prepare-requires-clause-limits
prepare-requires-clause-limits g c = c.requires.limits

pub returns-in_err-plan-clause-handover : goal.returns-in_err-plan-clause-handover
returns-in_err-plan-clause-handover g c =
    let p = err_from_is_err_and c.from_residual.result c.from_residual.ensures.1 in
    rw p.1 tt

pub returns-in_err-plan-clause-after : goal.returns-in_err-plan-clause-after
returns-in_err-plan-clause-after g c =
    let p = err_from_is_err_and c.from_residual.result c.from_residual.ensures.1 in
    rw p.1 tt

pub returns-in_err-plan-clause-elsewhere : goal.returns-in_err-plan-clause-elsewhere
returns-in_err-plan-clause-elsewhere g c =
    let p = err_from_is_err_and c.from_residual.result c.from_residual.ensures.1 in
    rw p.1 tt

pub returns-in_err-plan-clause-inside : goal.returns-in_err-plan-clause-inside
returns-in_err-plan-clause-inside g c =
    let p = err_from_is_err_and c.from_residual.result c.from_residual.ensures.1 in
    rw p.1 tt

pub returns-in_err-plan-clause-fault : goal.returns-in_err-plan-clause-fault
returns-in_err-plan-clause-fault g c =
    let p = err_from_is_err_and c.from_residual.result c.from_residual.ensures.1 in
    rw (p.1, p.2) c.in_err-plan.ensures.fault

pub returns-in_err-plan-clause-unchanged : goal.returns-in_err-plan-clause-unchanged
returns-in_err-plan-clause-unchanged g c =
    let p = err_from_is_err_and c.from_residual.result c.from_residual.ensures.1 in
    rw p.1 refl

pub returns-in_err-plan-clause-kept : goal.returns-in_err-plan-clause-kept
returns-in_err-plan-clause-kept g c = keeps_all

pub returns-in_err-reserve-clause-handover : goal.returns-in_err-reserve-clause-handover
returns-in_err-reserve-clause-handover g c =
    let p =
    err_from_is_err_and c.from_residual-in_err-reserve.result
    c.from_residual-in_err-reserve.ensures.1 in
    rw p.1 tt

pub returns-in_err-reserve-clause-after : goal.returns-in_err-reserve-clause-after
returns-in_err-reserve-clause-after g c =
    let p =
    err_from_is_err_and c.from_residual-in_err-reserve.result
    c.from_residual-in_err-reserve.ensures.1 in
    rw p.1 tt

pub returns-in_err-reserve-clause-elsewhere : goal.returns-in_err-reserve-clause-elsewhere
returns-in_err-reserve-clause-elsewhere g c =
    let p =
    err_from_is_err_and c.from_residual-in_err-reserve.result
    c.from_residual-in_err-reserve.ensures.1 in
    rw p.1 tt

pub returns-in_err-reserve-clause-inside : goal.returns-in_err-reserve-clause-inside
returns-in_err-reserve-clause-inside g c =
    let p =
    err_from_is_err_and c.from_residual-in_err-reserve.result
    c.from_residual-in_err-reserve.ensures.1 in
    rw p.1 tt

pub returns-in_err-reserve-clause-fault : goal.returns-in_err-reserve-clause-fault
returns-in_err-reserve-clause-fault g c =
    let p =
    err_from_is_err_and c.from_residual-in_err-reserve.result
    c.from_residual-in_err-reserve.ensures.1 in
    rw (p.1, p.2) tt

pub returns-in_err-reserve-clause-unchanged : goal.returns-in_err-reserve-clause-unchanged
returns-in_err-reserve-clause-unchanged g c =
    let p =
    err_from_is_err_and c.from_residual-in_err-reserve.result
    c.from_residual-in_err-reserve.ensures.1 in
    rw p.1 c.reserve.ensures.same

pub returns-in_err-reserve-clause-kept : goal.returns-in_err-reserve-clause-kept
returns-in_err-reserve-clause-kept g c = c.reserve.ensures.kept

pub returns-clause-fault : goal.returns-clause-fault
returns-clause-fault g c = tt

pub returns-clause-unchanged : goal.returns-clause-unchanged
returns-clause-unchanged g c = tt

pub returns-clause-handover : goal.returns-clause-handover
returns-clause-handover g c =
    subst
    (IsHandover c.args.machine.now
    (value_of (map g.V.ByteView.bytes c.args.files.now) c.args.entry.now))
    (sym c.load.ensures.handed) c.in_ok-plan.ensures.handover

pub returns-clause-after : goal.returns-clause-after
returns-clause-after g c =
    c.load.ensures.after
    ∙ ap₂ (λ (handover : Handover) (bytes : List ℕ). overwrite_parts handover.parts bytes)
    (sym c.load.ensures.handed) c.reserve.ensures.same

pub returns-clause-elsewhere : goal.returns-clause-elsewhere
returns-clause-elsewhere g c =
    λ a out. let beside = rw c.load.ensures.places at out in
    c.load.ensures.elsewhere a beside
    ∙ ap (λ (bytes : List ℕ). slice_index bytes a) c.reserve.ensures.same

pub returns-clause-inside : goal.returns-clause-inside
returns-clause-inside g c = rw c.load.ensures.places c.in_ok-plan.ensures.loadable.inside

pub load-requires-clause-loadable : goal.load-requires-clause-loadable
load-requires-clause-loadable g c = record {
  backed = c.in_ok-plan.ensures.loadable.backed;
  inside =
      λ k d h. let i = c.in_ok-plan.ensures.loadable.inside k d h in
      omega (arith, i, c.requires.size, c.reserve.ensures.kept.size);
  kept = c.in_ok-plan.ensures.loadable.kept;
}
