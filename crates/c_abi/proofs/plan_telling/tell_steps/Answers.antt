use Rattle.std.proofs.Common.{arith, ◌∙◌, ◌≡◌, length}
use Rattle.c_abi.specs.PlanTold.{step_told}
use Rattle.c_records.proofs.TellLemmas.{tell_one, told_whole}
use Rattle.c_abi.proofs.plan_telling.tell_steps.Goals as goal

pub loop-index-preserved : goal.loop-index-preserved
loop-index-preserved c =
    tell_one step_told c.args.steps.now c.args.records.now c.loop-index.records
    c.loop-index.index _ c.step_told.result c.loop-index.invariant (omega arith) (omega arith)
    c.step_told.ensures

pub returns : goal.returns
returns c =
    let end = c.loop-index.auto.index-end in
    let all : c.loop-index.index ≡ length c.args.steps.now =
    omega (arith, end, c.loop-index-test.false) in
    c.loop-index.invariant
    ∙ told_whole step_told c.args.steps.now c.args.records.now c.loop-index.index all
