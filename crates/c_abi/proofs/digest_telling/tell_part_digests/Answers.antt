use Rattle.std.proofs.Common.{arith, ◌∙◌}
use Rattle.c_abi.specs.DigestTold.{part_digest_told}
use Rattle.c_records.proofs.TellLemmas.{tell_one, told_all}
use Rattle.c_abi.proofs.digest_telling.tell_part_digests.Goals as goal

pub loop-index-preserved : goal.loop-index-preserved
loop-index-preserved c =
    let least = c.min-index-end.ensures in
    tell_one part_digest_told c.args.digests.now c.args.parts.now c.loop-index.parts
    c.loop-index.index _ c.part_digest_told.result c.loop-index.invariant
    (omega (arith, least, c.loop-index-test.true)) (omega (arith, least, c.loop-index-test.true))
    c.part_digest_told.ensures

pub returns : goal.returns
returns c =
    let least = c.min-index-end.ensures in
    let end = c.loop-index.auto.index-end in
    c.loop-index.invariant
    ∙ told_all part_digest_told c.args.digests.now c.args.parts.now c.loop-index.index
    (omega (arith, least, end, c.loop-index-test.false))
