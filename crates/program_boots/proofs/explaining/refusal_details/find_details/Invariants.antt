use Rattle.std.proofs.Common.{◌≡◌, All, map, take}
use Rattle.program_desc.specs.Views.{view}
use Rattle.program_boots.specs.explaining.Details.{HasDetail}
use Rattle.program_boots.proofs.explaining.refusal_details.find_details.Given as goal

abbrev pub invariant-loop-attempt : goal.invariant-loop-attempt
invariant-loop-attempt g l =
    (map (λ t. t.refused) l.told.items ≡ take l.attempt-index l.refused)
    × All (HasDetail l.boot.machine.now (view l.boot.description.now).entries l.sought) l.told.items
