use Rattle.std.proofs.Common.{◌≡◌, ◌≢◌, List, ℕ, true}
use Rattle.bl_mem.specs.Memory.{HasRoom, KeepsSizeAndRoom}
use Rattle.bl_session.specs.session.BootMemory.{IsMemoryAt}
use Rattle.bl_session.specs.session.Phases.{state_at, is_waiting, not_started}
use Rattle.bl_session.specs.runs.Run.{run_state_of}
use Rattle.bl_session.specs.internal.runs.RunParts.{HistoryLeadsOn, attempts_left}
use Rattle.bl_session.proofs.runs.answer_loop.drive.Given as goal

-- what was asked and heard so far led from where the boot stood
abbrev pub invariant-attempts : goal.invariant-attempts
invariant-attempts g l =
    let bytes = g.M.PhysMem.bytes in
    let facts = l.fn.session.boot in
    let old = state_at (bytes l.fn.memory) l.fn.session.phase in
    let now = state_at (bytes l.memory) l.session.phase in
    record {
      boot : l.session.boot ≡ facts;
      started : l.session.phase ≢ not_started;
      heard : HistoryLeadsOn facts (g.S.Store.files l.fn.store) (g.S.Store.given l.fn.store)
          (g.S.Store.given l.store) (run_state_of facts old) (run_state_of facts now);
      memory : (first : List ℕ) → IsMemoryAt facts.machine.pool old first (bytes l.fn.memory)
          → IsMemoryAt facts.machine.pool now first (bytes l.memory);
      room : is_waiting l.session.phase ≡ true
          → HasRoom (g.M.PhysMem.room l.memory) facts.machine.pool.start facts.machine.pool.end;
      files : g.S.Store.files l.store ≡ g.S.Store.files l.fn.store;
      kept : KeepsSizeAndRoom g.M.PhysMem.lender bytes g.M.PhysMem.room l.fn.memory l.memory;
    }

-- fewer attempts are left after each
abbrev pub decreases-attempts : goal.decreases-attempts
decreases-attempts g l = attempts_left (state_at (g.M.PhysMem.bytes l.memory) l.session.phase)
