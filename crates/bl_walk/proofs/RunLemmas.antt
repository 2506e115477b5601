-- Each run of a memory map that is seen ends at most at 2^52.
use Rattle.std.proofs.Common.{◌≤◌, List, Result, Ok, Err, sym, subst, All, ⊎_elim}
use Rattle.std.specs.Prelude.{IfOk}
use Rattle.bl_map.specs.declared.region.Region.{Region}
use Rattle.bl_map.specs.NormalMap.{region_end}
use Rattle.bl_map.specs.Limits.{max_region_end}
use Rattle.bl_params.proofs.RunLemmas as params
use Rattle.bl_load.specs.Handover.{Handover}
use Rattle.bl_walk.specs.Seen.{InformationShows, ParametersShow, IsSeen}
use Rattle.bl_walk.specs.SeenFacts.{SeenFacts}
use Rattle.bl_walk.specs.EntryShown.{RunsEndLow}

abbrev AllEndLow : List Region → Type 0
AllEndLow runs = All (λ run. region_end run ≤ max_region_end) runs

by_information : (h : Handover) (seen : SeenFacts) → InformationShows h seen → RunsEndLow seen
by_information h seen shown = subst AllEndLow (sym shown.runs) shown.says.spelling.facts.runs

by_parameters : (h : Handover) (seen : SeenFacts) → ParametersShow h seen → RunsEndLow seen
by_parameters h seen shown =
    subst AllEndLow (sym shown.runs)
    (params.runs_end_low shown.say.bytes shown.params shown.say.told)

pub seen_runs_end_low : (h : Handover) (seen : SeenFacts) → IsSeen h seen → RunsEndLow seen
seen_runs_end_low h seen is = ⊎_elim (by_information h seen) (by_parameters h seen) is.shown

-- the same of an answer
pub low_by : {E : Type 0} (h : Handover) (answer : Result SeenFacts E) → IfOk answer (IsSeen h)
    → IfOk answer RunsEndLow
low_by h (Ok seen) is = seen_runs_end_low h seen is
low_by h (Err fault) is = tt
