use Rattle.std.proofs.Common.{◌≡◌, true}
use Rattle.bl_mem.specs.Memory.{KeepsSizeAndRoom}
use Rattle.bl_stage.specs.Ranges.{IsSameOutside}
use Rattle.bl_session.specs.session.Phases.{state_at, is_waiting}
use Rattle.bl_session.specs.internal.runs.RunParts.{HistoryLeadsOn, all_asked, attempts_left}
use Rattle.bl_session.proofs.runs.answer_loop.await_end.Given as goal

-- the attempt waits; what was heard so far led from where it stood
abbrev pub invariant-answers : goal.invariant-answers
invariant-answers g l =
    let bytes = g.M.PhysMem.bytes in
    let old = state_at (bytes l.fn.memory) l.fn.session.phase in
    let now = state_at (bytes l.memory) l.session.phase in
    record {
      boot : l.session.boot ≡ l.fn.session.boot;
      waiting : is_waiting l.session.phase ≡ true;
      heard : HistoryLeadsOn l.fn.session.boot (g.S.Store.files l.fn.store) (g.S.Store.given l.fn.store)
          (g.S.Store.given l.store) (all_asked old) (all_asked now);
      as_many : attempts_left now ≡ attempts_left old;
      outside : IsSameOutside l.fn.session.boot.machine.pool (bytes l.fn.memory) (bytes l.memory);
      files : g.S.Store.files l.store ≡ g.S.Store.files l.fn.store;
      kept : KeepsSizeAndRoom g.M.PhysMem.lender bytes g.M.PhysMem.room l.fn.memory l.memory;
    }

-- each answer leaves one fewer to come
abbrev pub decreases-answers : goal.decreases-answers
decreases-answers g l = g.S.Store.left l.store
