use Rattle.std.proofs.Common.{◌≡◌, ℕ, List, Result, Ok, Err, IfOk, map}
use Rattle.std.proofs.lemmas.Result.{err_from_is_err_and}
use Rattle.bl_map.specs.MachineFacts.{MachineFacts}
use Rattle.bl_load.specs.EntryValue.{EntryValue, value_of}
use Rattle.bl_load.specs.Loadable.{lengths_of, IsLoadable}
use Rattle.bl_load.specs.Origins.{planned_origin, AreOrigins}
use Rattle.bl_load.specs.Parts.{IsHandover}
use Rattle.bl_load.specs.PlanContents.{handover_by}
use Rattle.bl_load.specs.declared.plan.Plan.{Plan}
use Rattle.bl_load.specs.declared.refusal.PrepFault.{PrepFault}
use Rattle.program_desc.specs.Views.{entry_view}
use Rattle.program_boots.specs.explaining.Details.{value_sought}
use Rattle.program_boots.specs.internal.FoundEntries.{IsFoundPlan}
use Rattle.program_boots.proofs.explaining.found_entry.plan_found.Goals as goal

-- a plan for a value is one for an equal value
plan_of : {A : Type 0} (facts : MachineFacts) (given value : EntryValue) (texts : List (List ℕ))
    (result : Result (Plan A) PrepFault) → given ≡ value
    → IfOk result (λ plan. IsHandover facts given (handover_by texts plan))
    → IfOk result (λ plan. IsLoadable (lengths_of texts) facts.size plan)
    → IfOk result (λ plan. AreOrigins facts given (map planned_origin plan.parts.items))
    → IfOk result (IsFoundPlan facts value)
plan_of facts given value texts (Ok plan) same handover loadable origins = record {
  texts = texts;
  handover = rw same at handover;
  loadable = loadable;
  origins = rw same at origins;
}
plan_of facts given value texts (Err fault) same handover loadable origins = tt

pub prepare-requires-clause-files : goal.prepare-requires-clause-files
prepare-requires-clause-files g c = rw c.deref.ensures.value c.in_ok-found.ensures.files

pub prepare-requires-clause-limits : goal.prepare-requires-clause-limits
prepare-requires-clause-limits g c = c.in_ok-found.ensures.limits

pub returns-in_err-found-clause-fault : goal.returns-in_err-found-clause-fault
returns-in_err-found-clause-fault g c =
    let p =
    err_from_is_err_and c.from_residual.result
    c.from_residual.ensures.1 in
    rw (p.1, p.2) tt

pub returns-clause-planned : goal.returns-clause-planned
returns-clause-planned g c =
    let value = value_sought c.args.sought.now (entry_view c.args.row.now) in
    let texts = map (λ f. f.bytes.now) c.deref.result.now in
    let same : value_of texts c.in_ok-found.found.entry ≡ value =
    rw c.deref.ensures.value c.in_ok-found.ensures.value in
    plan_of c.args.machine.now (value_of texts c.in_ok-found.found.entry) value texts
    c.prepare.result same c.prepare.ensures.handover c.prepare.ensures.loadable
    c.prepare.ensures.origins

pub returns-clause-fault : goal.returns-clause-fault
returns-clause-fault g c =
    let value = value_sought c.args.sought.now (entry_view c.args.row.now) in
    let texts = map (λ f. f.bytes.now) c.deref.result.now in
    let same : value_of texts c.in_ok-found.found.entry ≡ value =
    rw c.deref.ensures.value c.in_ok-found.ensures.value in
    rw same at c.prepare.ensures.fault
