use Rattle.std.proofs.Common.{arith, ◌∙◌}
use Rattle.c_abi.specs.BootTold.{refused_told}
use Rattle.c_records.proofs.TellLemmas.{tell_one, told_all}
use Rattle.c_abi.proofs.boot_telling.tell_refusals.Goals as goal

pub loop-index-preserved : goal.loop-index-preserved
loop-index-preserved c =
    let least = c.min-index-end.ensures in
    tell_one refused_told c.args.refused.now c.args.refusals.now c.loop-index.refusals
    c.loop-index.index _ c.refusal_record.result c.loop-index.invariant
    (omega (arith, least, c.loop-index-test.true)) (omega (arith, least, c.loop-index-test.true))
    c.refusal_record.ensures

pub returns : goal.returns
returns c =
    let least = c.min-index-end.ensures in
    let end = c.loop-index.auto.index-end in
    c.loop-index.invariant
    ∙ told_all refused_told c.args.refused.now c.args.refusals.now c.loop-index.index
    (omega (arith, least, end, c.loop-index-test.false))
