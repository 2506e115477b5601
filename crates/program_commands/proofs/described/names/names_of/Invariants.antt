use Rattle.std.proofs.Common.{◌≡◌, drop, map}
use Rattle.std.specs.List.{flat_map}
use Rattle.program_desc.specs.Views.{view}
use Rattle.program_boots.specs.described.DescribedMenu.{described_entry, names_of_entries}
use Rattle.program_boots.specs.described.DistinctNames.{with_new_names}
use Rattle.program_desc.specs.EntryNames.{file_names}
use Rattle.program_commands.proofs.described.names.names_of.Given as goal

-- what was added so far, and what is left, give all
abbrev pub invariant-loop-index : goal.invariant-loop-index
invariant-loop-index g l =
    with_new_names (map (λ n. n.now) l.names.items)
    (flat_map (λ index. file_names (described_entry (view l.description) index))
    (drop l.index-index l.indices))
    ≡ names_of_entries (view l.description) l.indices
