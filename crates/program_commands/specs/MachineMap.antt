-- What the map of a description's machine says. Own.
use Rattle.std.specs.Prelude.{◌≡◌, ℕ, List, ◌++◌, Some}
use Rattle.bl_map.specs.MachineFacts.{MachineFacts}
use Rattle.bl_map.specs.NormalMap.{low_kib, high_kib}
use Rattle.program_desc.specs.Described.{DescriptionFacts, described}
use Rattle.program_boots.specs.described.DescribedMachine.{IsMachineOf}
use Rattle.program_say.specs.BootAndMapLines.{map_lines}

-- what is said grew by the map of the machine that the bytes describe
pub record SaysMachineMap (desc before after : List ℕ) : Type 0 where
  pub description : DescriptionFacts
  pub facts : MachineFacts
  pub is_described : described desc ≡ Some description
  pub machine : IsMachineOf description facts
  pub said : after
      ≡ before ++ map_lines facts.runs (low_kib facts.runs) (high_kib facts.runs) facts.pool
