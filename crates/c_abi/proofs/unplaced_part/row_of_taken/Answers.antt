use Rattle.std.proofs.Common.{◌∙◌, length, ap, arith}
use Rattle.std.proofs.lemmas.Result.{IfOk-weaker, IfErr-weaker}
use Rattle.c_abi.proofs.PlanLemmas.{count_beside, same_files}
use Rattle.c_abi.proofs.unplaced_part.row_of_taken.Goals as goal

pub unplaced_by_lengths-requires-clause-files : goal.unplaced_by_lengths-requires-clause-files
unplaced_by_lengths-requires-clause-files g c =
    let told = ap length (c.deref.ensures.value ∙ c.in_ok-lengths.ensures) in
    omega (arith, told, count_beside c.args.given.now, c.requires.count)

pub returns-clause-which : goal.returns-clause-which
returns-clause-which g c =
    IfOk-weaker c.unplaced_by_lengths.result _ _
    (λ which is texts files.
    is texts
    (same_files c.args.given.now _ _ texts c.new-kernel.ensures
    (c.deref.ensures.value ∙ c.in_ok-lengths.ensures) files))
    c.unplaced_by_lengths.ensures.which

pub returns-clause-fault : goal.returns-clause-fault
returns-clause-fault g c =
    IfErr-weaker c.unplaced_by_lengths.result _ _
    (λ fault is texts files.
    is texts
    (same_files c.args.given.now _ _ texts c.new-kernel.ensures
    (c.deref.ensures.value ∙ c.in_ok-lengths.ensures) files))
    c.unplaced_by_lengths.ensures.fault
