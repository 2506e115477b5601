-- What a menu comes to, by the plan of the entry that is handed over. Own.
use Rattle.std.specs.Prelude.{◌<◌, List, length}
use Rattle.bl_load.specs.Loadable.{lengths_of, IsLoadable}
use Rattle.bl_load.specs.PlanContents.{handover_by}
use Rattle.bl_stage.specs.Files.{File}
use Rattle.bl_session.specs.menu.EntryContents.{texts_of}
use Rattle.bl_session.specs.session.BootSteps.{BootFacts, State, handed_over, none_left}
use Rattle.program_commands.specs.declared.digesting.planned_menu.MenuPlan.{MenuPlan}
use Rattle.program_commands.specs.declared.digesting.planned_menu.MenuPlan.TheVariants.{HandsOver}
use Rattle.program_commands.specs.declared.digesting.planned_menu.MenuPlan.TheVariants.{NoneLeft}

-- the state in which a boot with these files has ended then
abbrev pub state_by : {A : Type 0} → BootFacts → List File → MenuPlan A → State
state_by facts files (HandsOver planned) =
    handed_over planned.entry planned.refused.items
    (handover_by (texts_of facts files planned.entry) planned.plan)
state_by facts files (NoneLeft refused) = none_left refused.items

-- the entry is one of the menu, and its plan can be loaded out of its files
abbrev pub CanBeLoadedBy : {A : Type 0} → BootFacts → List File → MenuPlan A → Type 0
CanBeLoadedBy facts files (HandsOver planned) =
    (planned.entry < length facts.menu.entries)
    × IsLoadable (lengths_of (texts_of facts files planned.entry)) facts.machine.size planned.plan
CanBeLoadedBy facts files (NoneLeft refused) = Unit {0}
