use Rattle.std.proofs.Common.{◌≡◌, ◌∙◌, length}
use Rattle.bl_session.specs.session.Phases.{handover_held}
use Rattle.program_commands.proofs.booting.found_boot.boot_found.Goals as goal

pub write_handover-requires-clause-inside : goal.write_handover-requires-clause-inside
write_handover-requires-clause-inside g c =
    let bytes = g.M.PhysMem.bytes c.run-ended.new.memory in
    let whole : length bytes ≡ c.args.boot.now.machine.now.size =
    c.in-Ok.ensures.kept.size ∙ c.requires.size in
    rw whole c.in-Ok.ensures.inside

pub write_handover-requires-clause-faults : goal.write_handover-requires-clause-faults
write_handover-requires-clause-faults g c = c.requires.sink

pub returns-in_ok-write_handover-in-Ok-clause-ends : goal.returns-in_ok-write_handover-in-Ok-clause-ends
returns-in_ok-write_handover-in-Ok-clause-ends g c =
    let outcome = c.in-Ok.outcome in
    let handed = c.in_ok-write_handover-in-Ok.ensures in (
      outcome.entry,
      outcome.refused.items,
      handover_held (g.M.PhysMem.bytes c.run-ended.new.memory) outcome.handoff,
      c.in-Ok.ensures.faithful c.requires.store
          (rw c.in-Ok.ensures.files at c.faithful.ensures) tt,
      handed.taken.kept,
      handed.taken.image,
      rw c.title_of-title.ensures at handed.said,
    )

pub returns-in_ok-write_handover-in-Ok-clause-faults : goal.returns-in_ok-write_handover-in-Ok-clause-faults
returns-in_ok-write_handover-in-Ok-clause-faults g c = c.in_ok-write_handover-in-Ok.ensures.sound
