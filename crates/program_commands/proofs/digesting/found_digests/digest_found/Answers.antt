use Rattle.std.proofs.Common.{List, ℕ, map, subst}
use Rattle.bl_load.specs.Loadable.{lengths_of, IsLoadable}
use Rattle.bl_load.specs.PlanContents.{handover_by}
use Rattle.bl_stage.specs.Files.{size_of, stored_files}
use Rattle.bl_session.specs.menu.Menu.{files_of}
use Rattle.bl_session.specs.session.BootSteps.{handed_over}
use Rattle.bl_session.specs.session.Outcome.{IsOutcome}
use Rattle.bl_session.specs.session.Phases.{boot_facts}
use Rattle.bl_session.specs.session.Schedules.{no_fault}
use Rattle.program_boots.specs.EntryPlans.{file_texts}
use Rattle.program_boots.proofs.digesting_lemmas.MenuPlanLemmas.{same_texts}
use Rattle.program_commands.proofs.digesting.found_digests.digest_found.Goals as goal

pub digest_entry-requires : goal.digest_entry-requires
digest_entry-requires g c =
    let machine = c.args.boot.now.machine.now in
    let files = stored_files c.args.files.now in
    let plan = c.in-HandsOver.planned.plan in
    let loadable = rw c.in-HandsOver.is at c.in_ok-planned.ensures.loadable in
    let texts =
    same_texts machine c.args.boot.now.menu.now files c.in-HandsOver.planned.entry
    c.entry-entry.result.now c.entry-entry.ensures.entry in (
      machine.size,
      subst (λ (t : List (List ℕ)). IsLoadable (lengths_of t) machine.size plan) texts loadable.1,
    )

pub returns-in_ok-say_digested-in-HandsOver : goal.returns-in_ok-say_digested-in-HandsOver
returns-in_ok-say_digested-in-HandsOver g c =
    let machine = c.args.boot.now.machine.now in
    let menu = c.args.boot.now.menu.now in
    let files = stored_files c.args.files.now in
    let planned = c.in-HandsOver.planned in
    let entry = c.entry-entry.result.now in
    let outcome = rw c.in-HandsOver.is at c.in_ok-planned.ensures.outcome in
    let texts =
    same_texts machine menu files planned.entry entry c.entry-entry.ensures.entry in (
      planned.entry,
      planned.refused.items,
      handover_by (file_texts files (files_of entry)) planned.plan,
      subst (λ (t : List (List ℕ)). IsOutcome (boot_facts machine menu (map size_of files)) files
          no_fault (handed_over planned.entry planned.refused.items (handover_by t planned.plan)))
          texts outcome,
      rw (c.deref.ensures.value, c.title_of-title.ensures, c.in_ok-digests-in-HandsOver.ensures)
          at c.in_ok-say_digested-in-HandsOver.ensures.ok,
    )

pub returns-in_ok-say_none_left-in-NoneLeft : goal.returns-in_ok-say_none_left-in-NoneLeft
returns-in_ok-say_none_left-in-NoneLeft g c = (
  c.in-NoneLeft.refused.items,
  rw c.in-NoneLeft.is at c.in_ok-planned.ensures.outcome,
  rw c.deref-in-NoneLeft.ensures.value at c.in_ok-say_none_left-in-NoneLeft.ensures.ok,
)
