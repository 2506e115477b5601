use Rattle.std.proofs.Common.{List, ℕ, length, ap, sym, ◌∙◌}
use Rattle.std.proofs.lemmas.List.{length-map}
use Rattle.std.proofs.lemmas.List.FromFn.{length-map-range_with_len}
use Rattle.bl_stage.specs.Staged.{staged, staged_file}
use Rattle.bl_session.proofs.attempt_lemmas.EarlyReturnLemmas.{no_value}
use Rattle.bl_session.proofs.attempt_lemmas.FinishLemmas.{plan_for}
use Rattle.bl_session.proofs.attempt.handing_over.prepare_staged.Goals as goal

pub views_of-requires : goal.views_of-requires
views_of-requires g c = c.requires.whole

pub returns-in_err-views-clause-ok : goal.returns-in_err-views-clause-ok
returns-in_err-views-clause-ok g c = no_value _ _ c.from_residual.result c.from_residual.ensures.1

pub prepare-requires-clause-limits : goal.prepare-requires-clause-limits
prepare-requires-clause-limits g c = c.requires.entry.limits

pub returns-clause-ok : goal.returns-clause-ok
returns-clause-ok g c =
    rw (← c.in_ok-views.ensures, ← c.deref.ensures.value)
    (plan_for c.args.machine.now c.args.entry.now _ c.prepare.result c.prepare.ensures.handover
    c.prepare.ensures.loadable)

pub prepare-requires-clause-files : goal.prepare-requires-clause-files
prepare-requires-clause-files g c =
    let bytes = g.M.PhysMem.bytes in
    let stage = c.args.stage.now in
    ap length c.deref.ensures.value
    ∙ sym
    (length-map c.in_ok-views.views.items
    (λ view. staged (bytes view.memory.now) view.frames.now view.size))
    ∙ ap (λ (texts : List (List ℕ)). length texts) c.in_ok-views.ensures
    ∙ length-map-range_with_len (λ file. staged_file (bytes c.args.memory.now) stage file) 0
    (length stage.sizes)
    ∙ c.requires.entry.files

pub returns-clause-fault : goal.returns-clause-fault
returns-clause-fault g c =
    rw (← c.in_ok-views.ensures, ← c.deref.ensures.value) c.prepare.ensures.fault
