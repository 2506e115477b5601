use Rattle.std.proofs.Common.{◌≡◌, length, map, take}
use Rattle.program_desc.specs.Views.{module_view}
use Rattle.program_desc.specs.EntryNames.{file_index}
use Rattle.program_boots.proofs.described.menu.modules_of.Given as goal

abbrev pub invariant-loop-row : goal.invariant-loop-row
invariant-loop-row g l =
    (map (λ m. m.file) l.modules.items
    ≡ map (file_index (map (λ n. n.now) l.names))
    (map (λ m. m.file) (map module_view (take l.row-index l.rows))))
    × (map (λ m. m.line) l.modules.items
    ≡ map (λ m. m.line) (map module_view (take l.row-index l.rows)))
    × (length l.modules.items ≡ l.row-index)
