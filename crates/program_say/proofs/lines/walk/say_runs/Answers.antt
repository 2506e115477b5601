use Rattle.program_say.specs.WalkLines.{seen_run_line}
use Rattle.program_say.proofs.SaidLemmas.{one_more_said_at, all_said}
use Rattle.program_say.proofs.lines.walk.say_runs.Goals as goal

pub loop-run-preserved : goal.loop-run-preserved
loop-run-preserved g c =
    one_more_said_at seen_run_line c.args.runs.now c.loop-run.run-index _ c.args.out.now.items
    c.loop-run.out.items c.say_run.new.out.items c.loop-run-test.true
    c.loop-run.invariant c.in_ok-say_run.ensures

pub returns : goal.returns
returns g c =
    all_said seen_run_line c.args.runs.now c.loop-run.run-index c.args.out.now.items
    c.loop-run.out.items c.loop-run-test.false c.loop-run.invariant
