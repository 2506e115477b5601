use Rattle.std.proofs.Common.{◌≡◌, All, length, map, take}
use Rattle.bl_load.specs.EntryValue.{IsWithinLimits}
use Rattle.bl_session.specs.menu.Menu.{facts_of}
use Rattle.program_desc.specs.Views.{entry_view}
use Rattle.program_boots.specs.described.DescribedMenu.{entry_facts}
use Rattle.program_boots.proofs.described.menu.entries_of.Given as goal

abbrev pub invariant-loop-row : goal.invariant-loop-row
invariant-loop-row g l =
    (map facts_of l.entries.items
    ≡ map (entry_facts (map (λ n. n.now) l.names)) (map entry_view (take l.row-index l.rows)))
    × (length l.entries.items ≡ l.row-index)
    × All IsWithinLimits l.entries.items
