use Rattle.program_say.specs.DigestLines.{part_digest_line}
use Rattle.program_say.proofs.SaidLemmas.{one_more_said_at, all_said}
use Rattle.program_say.proofs.lines.digests.say_part_digests.Goals as goal

pub loop-part-preserved : goal.loop-part-preserved
loop-part-preserved g c =
    one_more_said_at part_digest_line c.args.parts.now c.loop-part.part-index _
    c.args.out.now.items c.loop-part.out.items c.say_part_digest.new.out.items
    c.loop-part-test.true c.loop-part.invariant c.in_ok-say_part_digest.ensures

pub returns : goal.returns
returns g c =
    all_said part_digest_line c.args.parts.now c.loop-part.part-index c.args.out.now.items
    c.loop-part.out.items c.loop-part-test.false c.loop-part.invariant
