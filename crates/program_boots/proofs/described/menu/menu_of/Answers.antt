use Rattle.program_boots.proofs.described_lemmas.MenuLemmas.{only_memory}
use Rattle.program_boots.proofs.described.menu.menu_of.Goals as goal

pub no_memory-requires : goal.no_memory-requires
no_memory-requires g c =
    let menu = c.requires.menu in
    let count = c.in_ok-entries.ensures.count in
    only_memory c.in_ok-entries.entries.items c.args.description.now.default c.deref-2.result.now
    c.in-Err.fault
    (rw (count, c.deref.ensures.value) menu.1, c.in_ok-entries.ensures.few) (
      rw (count, c.deref.ensures.value) menu.2,
      rw (count, c.deref.ensures.value, c.deref-2.ensures.value) menu.3,
    )
    c.in-Err.ensures.first_fault
