use Rattle.std.proofs.Common.{◌≡◌, rules}
use Rattle.bl_session.specs.session.BootSteps.{StartsOrFails, attempt_number}
use Rattle.bl_session.specs.session.BootSteps as boot
use Rattle.bl_session.specs.session.BootMemory.{IsMemoryAt}
use Rattle.bl_session.specs.session.Phases.{not_started, state_at}
use Rattle.c_handle.proofs.SliceSteps.{over_slice, slice_size}
use Rattle.c_handle.proofs.session_over_slice.start_in_slice.Goals as goal

pub start-requires : goal.start-requires
start-requires g c = record {
  size = slice_size c.args.base c.args.bytes.now c.from_base-memory.result _ c.from_base-memory.ensures.base
      c.from_base-memory.ensures.bytes (search rules);
}

pub returns-clause-step : goal.returns-clause-step
returns-clause-step g c =
    search (
      rules,
      over_slice (λ before after. StartsOrFails c.args.session.now.boot
          (state_at before c.args.session.now.phase) (state_at after c.start.new.self.phase))
          c.args.base c.args.bytes.now c.from_base-memory.result c.start.new.memory
          c.from_base-memory.ensures.base c.from_base-memory.ensures.bytes
          c.start.ensures.kept.size c.start.ensures.step,
    )

pub returns-clause-progress : goal.returns-clause-progress
returns-clause-progress g c =
    search (
      rules,
      over_slice (λ before after. c.start.result ≡ boot.progress
          (attempt_number (state_at before c.args.session.now.phase))
          (state_at after c.start.new.self.phase))
          c.args.base c.args.bytes.now c.from_base-memory.result c.start.new.memory
          c.from_base-memory.ensures.base c.from_base-memory.ensures.bytes
          c.start.ensures.kept.size c.start.ensures.progress,
    )

pub returns-clause-memory : goal.returns-clause-memory
returns-clause-memory g c =
    search (
      rules,
      over_slice (λ before after. c.args.session.now.phase ≡ not_started
          → IsMemoryAt c.args.session.now.boot.machine.pool (state_at after c.start.new.self.phase)
          before after)
          c.args.base c.args.bytes.now c.from_base-memory.result c.start.new.memory
          c.from_base-memory.ensures.base c.from_base-memory.ensures.bytes
          c.start.ensures.kept.size c.start.ensures.memory,
    )

pub returns-clause-same : goal.returns-clause-same
returns-clause-same g c = λ other. (
  (c.start.ensures.unchanged other).0,
  search (
    rules,
    over_slice (λ before after. after ≡ before)
        c.args.base c.args.bytes.now c.from_base-memory.result c.start.new.memory
        c.from_base-memory.ensures.base c.from_base-memory.ensures.bytes
        c.start.ensures.kept.size (c.start.ensures.unchanged other).1,
  ),
)
