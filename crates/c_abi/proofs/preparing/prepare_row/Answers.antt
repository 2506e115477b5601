use Rattle.std.proofs.Common.{◌∙◌, length, ap, arith}
use Rattle.std.proofs.lemmas.Result.{IfOk-weaker, IfErr-weaker}
use Rattle.c_abi.proofs.PlanLemmas.{count_beside, same_files}
use Rattle.c_abi.proofs.preparing.prepare_row.Goals as goal

pub prepare_by_lengths-requires-clause-files : goal.prepare_by_lengths-requires-clause-files
prepare_by_lengths-requires-clause-files g c =
    let told = ap length (c.deref.ensures.value ∙ c.in_ok-lengths.ensures) in
    omega (arith, told, count_beside c.args.row.now, c.requires.count)

pub returns-clause-handover : goal.returns-clause-handover
returns-clause-handover g c =
    IfOk-weaker c.prepare_by_lengths.result _ _
    (λ plan is texts files.
    is texts
    (same_files c.args.row.now _ _ texts c.new-kernel.ensures
    (c.deref.ensures.value ∙ c.in_ok-lengths.ensures) files))
    c.prepare_by_lengths.ensures.handover

pub returns-clause-loadable : goal.returns-clause-loadable
returns-clause-loadable g c =
    IfOk-weaker c.prepare_by_lengths.result _ _
    (λ plan is texts files.
    is texts
    (same_files c.args.row.now _ _ texts c.new-kernel.ensures
    (c.deref.ensures.value ∙ c.in_ok-lengths.ensures) files))
    c.prepare_by_lengths.ensures.loadable

pub returns-clause-origins : goal.returns-clause-origins
returns-clause-origins g c =
    IfOk-weaker c.prepare_by_lengths.result _ _
    (λ plan is texts files.
    is texts
    (same_files c.args.row.now _ _ texts c.new-kernel.ensures
    (c.deref.ensures.value ∙ c.in_ok-lengths.ensures) files))
    c.prepare_by_lengths.ensures.origins

pub returns-clause-fault : goal.returns-clause-fault
returns-clause-fault g c =
    IfErr-weaker c.prepare_by_lengths.result _ _
    (λ fault is texts files.
    is texts
    (same_files c.args.row.now _ _ texts c.new-kernel.ensures
    (c.deref.ensures.value ∙ c.in_ok-lengths.ensures) files))
    c.prepare_by_lengths.ensures.fault
