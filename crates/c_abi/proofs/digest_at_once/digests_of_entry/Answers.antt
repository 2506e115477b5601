use Rattle.std.proofs.Common.{◌≡◌, ◌∙◌, ℕ, List, ap, map, subst, sym}
use Rattle.bl_mem.specs.declared.byte_view.SliceView.{SliceView}
use Rattle.bl_digest.specs.Digests.{digests_of}
use Rattle.bl_load.specs.EntryValue.{EntryValue}
use Rattle.bl_load.specs.Parts.{IsHandover}
use Rattle.bl_load.specs.PlanContents.{handover_by}
use Rattle.c_records.specs.Given.{texts_given}
use Rattle.c_abi.specs.Load.{IsEntryFault}
use Rattle.c_abi.proofs.LoadLemmas.{given_value, of_prepared_is}
use Rattle.c_abi.proofs.digest_at_once.digests_of_entry.Goals as goal

pub returns-in-Err-clause-fault : goal.returns-in-Err-clause-fault
returns-in-Err-clause-fault g c =
    let facts = c.args.machine.now in
    let row = c.args.row.now in
    let texts = map (λ (v : SliceView). v.bytes.now) c.deref.result.now in
    let files =
    ap (map (λ (v : SliceView). v.bytes.now)) c.deref.ensures.value ∙ c.in-Ok.ensures in
    subst (IsEntryFault facts row (texts_given row) 0) (sym c.load_fault_of_prep.ensures)
    (of_prepared_is facts row (texts_given row) 0 _ c.in-Err.fault
    c.requires.sound
    (given_value row c.args.entry.now texts (texts_given row) c.requires.value files)
    c.in-Err.ensures.fault)

pub returns-in-Ok-digest_plan-clause-digests : goal.returns-in-Ok-digest_plan-clause-digests
returns-in-Ok-digest_plan-clause-digests g c =
    let row = c.args.row.now in
    let plan = c.in-Ok-prepare.plan in
    let bytes = map (λ (v : SliceView). v.bytes.now) in
    let texts = bytes c.deref.result.now in
    let files = ap bytes c.deref.ensures.value ∙ c.in-Ok.ensures in
    let same : bytes c.deref-2.result.now ≡ texts =
    ap bytes (c.deref-2.ensures.value ∙ sym c.deref.ensures.value) in record {
      handover = handover_by texts plan;
      handed =
          subst (λ (v : EntryValue). IsHandover c.args.machine.now v (handover_by texts plan))
          (given_value row c.args.entry.now texts (texts_given row) c.requires.value files)
          c.in-Ok-prepare.ensures.handover;
      digests_are =
          c.in-Ok-digest_plan.ensures
          ∙ ap (λ (ts : List (List ℕ)). digests_of (handover_by ts plan)) same;
    }
