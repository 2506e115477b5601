use Rattle.std.proofs.Common.{◌≤◌, All, map, ap, subst, sym, refl, ◌∙◌}
use Rattle.std.proofs.lemmas.Bool.{MatchBool-at_true, MatchBool-at_false}
use Rattle.bl_mem.specs.Memory.{memory_from}
use Rattle.bl_mem.specs.declared.byte_view.SliceView.{SliceView}
use Rattle.bl_load.specs.EntryValue.{value_of}
use Rattle.bl_load.specs.Handover.{Handover, overwrite_parts}
use Rattle.bl_load.specs.Loadable.{lengths_of}
use Rattle.bl_load.specs.Parts.{IsHandover}
use Rattle.bl_load.specs.PlanContents.{handover_by}
use Rattle.bl_load.specs.PlannedPlaces.{planned_place}
use Rattle.c_abi.specs.internal.LoadEnds.{IsValueFault}
use Rattle.c_abi.proofs.LoadLemmas.{fits_larger, places_above, value_not_prepared}
use Rattle.c_abi.proofs.loading.load_typed.Goals as goal

pub returns-in-Err : goal.returns-in-Err
returns-in-Err g c =
    let value =
    value_of (map (λ (f : SliceView). f.bytes.now) c.args.files.now) c.args.entry.now in
    record {
      handover = tt;
      after = tt;
      inside = tt;
      above = tt;
      fault =
          subst (IsValueFault c.args.machine.now value c.args.base) (sym c.load_fault_of_prep.ensures)
          (value_not_prepared c.args.machine.now value c.args.base c.in-Err.fault
          c.in-Err.ensures.fault);
      unchanged = refl;
    }

pub begin_below-requires : goal.begin_below-requires
begin_below-requires g c = rw c.as_slice.ensures.value c.in-Ok.ensures.loadable.kept.ascending

pub returns-then-begin_below : goal.returns-then-begin_below
returns-then-begin_below g c =
    let texts = map (λ (f : SliceView). f.bytes.now) c.args.files.now in
    let plan = c.in-Ok.plan in
    let low : ¬ All (λ place. c.args.base ≤ place.address)
    (map planned_place c.as_slice.result.now) =
    MatchBool-at_true _ _ c.if-begin_below.true c.begin_below.ensures in
    let below : ¬ All (λ place. c.args.base ≤ place.address)
    (map planned_place plan.parts.items) = rw c.as_slice.ensures.value at low in
    record {
      handover = tt;
      after = tt;
      inside = tt;
      above = tt;
      fault = record {
        handover = handover_by texts plan;
        handed = c.in-Ok.ensures.handover;
        below = λ above. below (places_above texts c.args.base plan.parts.items above);
      };
      unchanged = refl;
    }

pub load_plan-requires-clause-loadable : goal.load_plan-requires-clause-loadable
load_plan-requires-clause-loadable g c =
    fits_larger (lengths_of (map (λ (f : SliceView). f.bytes.now) c.args.files.now))
    c.args.machine.now.size _ c.in-Ok.plan c.requires.size c.in-Ok.ensures.loadable

pub load_plan-requires-clause-above : goal.load_plan-requires-clause-above
load_plan-requires-clause-above g c =
    let above : All (λ place. c.args.base ≤ place.address)
    (map planned_place c.as_slice.result.now) =
    MatchBool-at_false _ _ c.if-begin_below.false c.begin_below.ensures in
    rw c.as_slice.ensures.value at above

pub returns : goal.returns
returns g c =
    let texts = map (λ (f : SliceView). f.bytes.now) c.args.files.now in
    let value = value_of texts c.args.entry.now in
    let put = c.load_plan.ensures.put in
    let first : All (λ place. c.args.base ≤ place.address)
    (map planned_place c.as_slice.result.now) =
    MatchBool-at_false _ _ c.if-begin_below.false c.begin_below.ensures in
    let above : All (λ place. c.args.base ≤ place.address)
    (map planned_place c.in-Ok.plan.parts.items) = rw c.as_slice.ensures.value at first in
    record {
      handover =
          subst (IsHandover c.args.machine.now value) (sym put.handed) c.in-Ok.ensures.handover;
      after =
          put.after
          ∙ ap
          (λ (h : Handover).
          overwrite_parts h.parts (memory_from c.args.base c.args.memory.now))
          (sym put.handed);
      inside = rw c.load_plan.ensures.places c.in-Ok.ensures.loadable.inside;
      above = rw c.load_plan.ensures.places above;
      fault = tt;
      unchanged = tt;
    }
