use Rattle.std.proofs.Common.{◌≤◌, List, sym, ap, subst, ◌∙◌, All}
use Rattle.bl_map.specs.declared.region.Region.{Region}
use Rattle.bl_map.specs.NormalMap.{region_end}
use Rattle.bl_map.specs.Limits.{max_region_end}
use Rattle.bl_walk.specs.SeenFacts.{SeenFacts}
use Rattle.program_say.proofs.lines.walk.say_told.Goals as goal

pub say_runs-requires : goal.say_runs-requires
say_runs-requires g c =
    subst (λ (runs : List Region). All (λ run. region_end run ≤ max_region_end) runs)
    (ap (λ (seen : SeenFacts). seen.map) (sym c.seen.view_is) ∙ sym c.as_slice-2.ensures.value)
    c.requires
