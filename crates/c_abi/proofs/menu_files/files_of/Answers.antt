use Rattle.std.proofs.lemmas.List.{take_all}
use Rattle.c_abi.proofs.MenuLemmas.{more_files}
use Rattle.c_abi.proofs.menu_files.files_of.Goals as goal

pub loop-entry-preserved : goal.loop-entry-preserved
loop-entry-preserved g c =
    more_files c.args.entries.now c.loop-entry.files.items c.add_files.new.files.items
    c.loop-entry.entry-index _ c.loop-entry-test.true c.in_ok-add_files.ensures
    c.loop-entry.invariant

pub returns : goal.returns
returns g c =
    rw (take_all c.loop-entry.entry-index c.args.entries.now c.loop-entry-test.false)
    at c.loop-entry.invariant
