use Rattle.c_records.proofs.CheckLemmas.{sound_left}
use Rattle.c_records.proofs.given_checks.check_entries.Goals as goal

pub loop-entry-preserved : goal.loop-entry-preserved
loop-entry-preserved c =
    sound_left c.args.entries.now c.loop-entry.entry-index _ _
    c.loop-entry-test.true c.in_ok-check_entry.ensures c.loop-entry.invariant
