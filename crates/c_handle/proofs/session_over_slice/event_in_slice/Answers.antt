use Rattle.std.proofs.Common.{◌≡◌, MatchBool, false, rules}
use Rattle.bl_session.specs.session.BootSteps.{StepsToOrFails, attempt_number, is_taken}
use Rattle.bl_session.specs.session.BootSteps as boot
use Rattle.bl_session.specs.session.BootMemory.{IsMemoryAt}
use Rattle.bl_session.specs.session.Phases.{state_at}
use Rattle.bl_store.specs.Events.{event_facts}
use Rattle.c_handle.proofs.SliceSteps.{over_slice, slice_size}
use Rattle.c_handle.proofs.session_over_slice.event_in_slice.Goals as goal

pub event-requires-clause-size : goal.event-requires-clause-size
event-requires-clause-size g c =
    slice_size c.args.base c.args.bytes.now c.from_base-memory.result _ c.from_base-memory.ensures.base
    c.from_base-memory.ensures.bytes (search rules)

pub returns-clause-step : goal.returns-clause-step
returns-clause-step g c =
    search (
      rules,
      over_slice (λ before after. StepsToOrFails c.args.session.now.boot
          (state_at before c.args.session.now.phase) (event_facts c.args.event)
          (state_at after c.event.new.self.phase))
          c.args.base c.args.bytes.now c.from_base-memory.result c.event.new.memory
          c.from_base-memory.ensures.base c.from_base-memory.ensures.bytes
          c.event.ensures.kept.size c.event.ensures.step,
    )

pub returns-clause-progress : goal.returns-clause-progress
returns-clause-progress g c =
    search (
      rules,
      over_slice (λ before after. c.event.result ≡ boot.progress
          (attempt_number (state_at before c.args.session.now.phase))
          (state_at after c.event.new.self.phase))
          c.args.base c.args.bytes.now c.from_base-memory.result c.event.new.memory
          c.from_base-memory.ensures.base c.from_base-memory.ensures.bytes
          c.event.ensures.kept.size c.event.ensures.progress,
    )

pub returns-clause-memory : goal.returns-clause-memory
returns-clause-memory g c =
    search (
      rules,
      over_slice (λ before after. MatchBool
          (is_taken (state_at before c.args.session.now.phase) (event_facts c.args.event))
          (IsMemoryAt c.args.session.now.boot.machine.pool (state_at after c.event.new.self.phase)
          before after)
          (after ≡ before))
          c.args.base c.args.bytes.now c.from_base-memory.result c.event.new.memory
          c.from_base-memory.ensures.base c.from_base-memory.ensures.bytes
          c.event.ensures.kept.size c.event.ensures.memory,
    )

pub returns-clause-same : goal.returns-clause-same
returns-clause-same g c =
    search (
      rules,
      over_slice (λ before after. is_taken (state_at before c.args.session.now.phase)
          (event_facts c.args.event) ≡ false → c.event.new.self ≡ c.args.session.now)
          c.args.base c.args.bytes.now c.from_base-memory.result c.event.new.memory
          c.from_base-memory.ensures.base c.from_base-memory.ensures.bytes
          c.event.ensures.kept.size c.event.ensures.unchanged,
    )
