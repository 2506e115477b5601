use Rattle.std.proofs.Common.{◌≡◌, ◌∙◌}
use Rattle.bl_session.specs.session.BootSteps.{none_left}
use Rattle.bl_session.specs.session.Phases.{handover_held}
use Rattle.bl_session.specs.session.BootSteps.{handed_over}
use Rattle.program_desc.specs.Views.{view}
use Rattle.program_boots.specs.explaining.ToldBoots.{sought_in}
use Rattle.program_boots.proofs.explaining_lemmas.RefusedLemmas.{place_refusals_for}
use Rattle.program_boots.proofs.explaining_lemmas.StepLemmas.{handed_entry_for}
use Rattle.program_boots.proofs.explaining_lemmas.ToldLemmas.{booted_for, none_left_for}
use Rattle.program_commands.proofs.explaining.explained_boot.explain_found.Goals as goal

pub find_details-requires : goal.find_details-requires
find_details-requires g c =
    let d = view c.args.boot.now.description.now in
    let outcome = c.in-Ok.outcome in
    let bytes = g.M.PhysMem.bytes c.run-ended.new.memory in
    let came =
    c.in-Ok.ensures.faithful c.requires.store
    (rw c.in-Ok.ensures.files at c.faithful.ensures) tt in
    let found : c.new-sought.result ≡ sought_in d c.args.store.now.files =
    rw (c.requires.names, c.fetched.ensures, c.in-Ok.ensures.files) at c.new-sought.ensures in
    place_refusals_for d c.args.boot.now.machine.now c.args.store.now.files
    c.args.boot.now.menu.now
    (handed_over outcome.entry outcome.refused.items (handover_held bytes outcome.handoff))
    c.new-sought.result c.deref.result.now found c.deref.ensures.value c.requires.menu came

pub find_details-requires-in-Err-NoEntryLeft : goal.find_details-requires-in-Err-NoEntryLeft
find_details-requires-in-Err-NoEntryLeft g c =
    let d = view c.args.boot.now.description.now in
    let came =
    rw c.in-Err-NoEntryLeft.field-0-is at
    (c.in-Err-NoEntryLeft.ensures.faithful c.requires.store
    (rw c.in-Err-NoEntryLeft.ensures.files at c.faithful.ensures)) in
    let found : c.new-sought.result ≡ sought_in d c.args.store.now.files =
    rw (c.requires.names, c.fetched.ensures, c.in-Err-NoEntryLeft.ensures.files)
    at c.new-sought.ensures in
    place_refusals_for d c.args.boot.now.machine.now c.args.store.now.files
    c.args.boot.now.menu.now (none_left c.in-Err-NoEntryLeft.refused.items)
    c.new-sought.result c.deref-in-Err-NoEntryLeft.result.now found
    c.deref-in-Err-NoEntryLeft.ensures.value c.requires.menu (came tt)

pub find_steps-requires : goal.find_steps-requires
find_steps-requires g c =
    let d = view c.args.boot.now.description.now in
    let outcome = c.in-Ok.outcome in
    let bytes = g.M.PhysMem.bytes c.run-ended.new.memory in
    let came =
    c.in-Ok.ensures.faithful c.requires.store
    (rw c.in-Ok.ensures.files at c.faithful.ensures) tt in
    let found : c.new-sought.result ≡ sought_in d c.args.store.now.files =
    rw (c.requires.names, c.fetched.ensures, c.in-Ok.ensures.files) at c.new-sought.ensures in
    handed_entry_for d c.args.boot.now.machine.now c.args.store.now.files
    c.args.boot.now.menu.now outcome.entry outcome.refused.items
    (handover_held bytes outcome.handoff) c.new-sought.result found c.requires.menu came

pub tell_booted-requires-clause-facts : goal.tell_booted-requires-clause-facts
tell_booted-requires-clause-facts g c =
    let d = view c.args.boot.now.description.now in
    let outcome = c.in-Ok.outcome in
    let bytes = g.M.PhysMem.bytes c.run-ended.new.memory in
    let came =
    c.in-Ok.ensures.faithful c.requires.store
    (rw c.in-Ok.ensures.files at c.faithful.ensures) tt in
    let found : c.new-sought.result ≡ sought_in d c.args.store.now.files =
    rw (c.requires.names, c.fetched.ensures, c.in-Ok.ensures.files) at c.new-sought.ensures in
    rw (c.deref-in-Ok.ensures.value, c.deref-in-Ok-2.ensures.value)
    (booted_for _ d c.args.boot.now.machine.now c.args.store.now.files c.args.boot.now.menu.now
    outcome.entry outcome.refused.items bytes outcome.handoff c.new-sought.result _ _ found
    (c.in-Ok.ensures.kept.size ∙ c.requires.size) c.in-Ok.ensures.inside came
    (rw c.deref.ensures.value at c.in_ok-told-in-Ok.ensures) c.in_ok-steps-in-Ok.ensures)

pub tell_none_left-requires-clause-facts : goal.tell_none_left-requires-clause-facts
tell_none_left-requires-clause-facts g c =
    let d = view c.args.boot.now.description.now in
    let came =
    rw c.in-Err-NoEntryLeft.field-0-is at
    (c.in-Err-NoEntryLeft.ensures.faithful c.requires.store
    (rw c.in-Err-NoEntryLeft.ensures.files at c.faithful.ensures)) in
    let found : c.new-sought.result ≡ sought_in d c.args.store.now.files =
    rw (c.requires.names, c.fetched.ensures, c.in-Err-NoEntryLeft.ensures.files)
    at c.new-sought.ensures in
    rw (c.deref-in-Err-NoEntryLeft-2.ensures.value, c.deref-in-Err-NoEntryLeft-3.ensures.value)
    (none_left_for d c.args.boot.now.machine.now c.args.store.now.files c.args.boot.now.menu.now
    c.in-Err-NoEntryLeft.refused.items c.new-sought.result _ found (came tt)
    (rw c.deref-in-Err-NoEntryLeft.ensures.value at c.in_ok-told-in-Err-NoEntryLeft.ensures))

pub returns-in_ok-tell_booted-in-Ok : goal.returns-in_ok-tell_booted-in-Ok
returns-in_ok-tell_booted-in-Ok g c =
    let outcome = c.in-Ok.outcome in
    let bytes = g.M.PhysMem.bytes c.run-ended.new.memory in (
      outcome.entry,
      outcome.refused.items,
      handover_held bytes outcome.handoff,
      c.in-Ok.ensures.faithful c.requires.store
          (rw c.in-Ok.ensures.files at c.faithful.ensures) tt,
      c.in_ok-told-in-Ok.told.items,
      rw (
        c.deref.ensures.value,
        c.new-sought.ensures,
        c.fetched.ensures,
        c.in-Ok.ensures.files,
      ) at c.in_ok-told-in-Ok.ensures,
      c.in_ok-steps-in-Ok.steps.items,
      rw (c.new-sought.ensures, c.fetched.ensures, c.in-Ok.ensures.files)
          at c.in_ok-steps-in-Ok.ensures,
      c.in_ok-tell_booted-in-Ok.ensures.ok,
    )
