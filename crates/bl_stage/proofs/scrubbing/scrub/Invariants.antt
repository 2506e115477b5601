use Rattle.std.proofs.Common.{◌≡◌, ℕ, ◌<◌, ◌≤◌, ◌-◌, get_or}
use Rattle.bl_mem.specs.Memory.{KeepsSizeAndRoom}
use Rattle.bl_stage.specs.Ranges.{scrubbed_byte}
use Rattle.bl_stage.proofs.scrubbing.scrub.Given as goal

-- the pool is zeroed up to `at`
abbrev pub invariant-loop-at : goal.invariant-loop-at
invariant-loop-at g l =
    let bytes = g.M.PhysMem.bytes in
    record {
      low : l.pool.start ≤ l.at;
      high : l.pool.start ≤ l.pool.end → l.at ≤ l.pool.end;
      done : (a : ℕ) → a < l.at
          → get_or (bytes l.memory) a 0 ≡ scrubbed_byte l.pool l.keep (bytes l.fn.memory) a;
      rest : (a : ℕ) → l.at ≤ a → get_or (bytes l.memory) a 0 ≡ get_or (bytes l.fn.memory) a 0;
      kept : KeepsSizeAndRoom g.M.PhysMem.lender bytes g.M.PhysMem.room l.fn.memory l.memory;
    }

abbrev pub decreases-loop-at : goal.decreases-loop-at
decreases-loop-at g l = l.pool.end - l.at
