use Rattle.std.proofs.Common.{◌≡◌, ◌++◌, ℕ, List, map, drop}
use Rattle.program_desc.specs.Views.{module_view}
use Rattle.program_boots.specs.described.DistinctNames.{with_new_names}
use Rattle.program_commands.proofs.described.names.add_modules.Given as goal

-- what was added so far, and what is left, give all
abbrev pub invariant-loop-module : goal.invariant-loop-module
invariant-loop-module g l = (rest : List (List ℕ))
    → with_new_names (map (λ n. n.now) l.names.items)
    (map (λ m. m.file) (map module_view (drop l.module-index l.modules)) ++ rest)
    ≡ with_new_names (map (λ n. n.now) l.initial.names.items)
    (map (λ m. m.file) (map module_view l.modules) ++ rest)
