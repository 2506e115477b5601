use Rattle.std.proofs.Common.{◌≡◌, ◌+◌, map, take}
use Rattle.c_records.specs.MenuGiven.{numbered}
use Rattle.c_records.proofs.entries.modules_of.Given as goal

-- the modules so far, and the number of the next one's file
abbrev pub invariant-loop-row : goal.invariant-loop-row
invariant-loop-row g l =
    (l.file ≡ l.first + l.row-index)
    × (map (λ m. m.file) l.modules.items ≡ numbered l.first (take l.row-index l.rows))
    × (map (λ m. m.line) l.modules.items ≡ map (λ m. m.line.now) (take l.row-index l.rows))
