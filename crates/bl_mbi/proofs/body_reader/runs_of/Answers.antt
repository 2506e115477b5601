use Rattle.std.proofs.Common.{◌*◌, ap, ◌∙◌, Option, List}
use Rattle.std.proofs.lemmas.List.{take_rest}
use Rattle.bl_map.specs.declared.region.Region.{Region}
use Rattle.bl_mbi.specs.ReadingSteps.{or_bad}
use Rattle.bl_mbi.specs.Bodies.{run_of}
use Rattle.bl_mbi.proofs.RunLemmas.{reads_on, stops}
use Rattle.bl_mbi.proofs.body_reader.runs_of.Goals as goal

pub returns-in_default : goal.returns-in_default
returns-in_default g c =
    ap (λ (read : Option (List Region)). or_bad c.args.at read)
    (stops c.args.bytes.now c.loop-i.runs.items _ _ c.loop-i.i c.loop-i-test.true
    (c.in_default.ensures ∙ ap run_of (take_rest c.args.bytes.now (24 * c.loop-i.i)))
    c.loop-i.invariant)

pub loop-i-preserved : goal.loop-i-preserved
loop-i-preserved g c =
    rw c.in_ok-push.ensures.items
    (reads_on c.args.bytes.now c.loop-i.runs.items _ c.in-Some.run' _ c.loop-i.i
    c.loop-i-test.true
    (c.in-Some.ensures ∙ ap run_of (take_rest c.args.bytes.now (24 * c.loop-i.i)))
    c.loop-i.invariant)
