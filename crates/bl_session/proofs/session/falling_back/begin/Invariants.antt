use Rattle.std.proofs.Common.{◌≤◌, ◌-◌, length, drop}
use Rattle.bl_mem.specs.Memory.{KeepsSizeAndRoom}
use Rattle.bl_stage.specs.Ranges.{IsSameOutside}
use Rattle.bl_session.specs.session.BootSteps.{State, Begins}
use Rattle.bl_session.specs.internal.session.KeptPhases.{facts_of_boot}
use Rattle.bl_session.proofs.session.falling_back.begin.Given as goal

-- where the attempts that are left lead, after the refusals so far, all lead
abbrev pub invariant-attempts : goal.invariant-attempts
invariant-attempts g l =
    let bytes = g.M.PhysMem.bytes in
    let facts = facts_of_boot l.boot in
    record {
      number : length l.refused.items ≤ l.number;
      leads : (state : State)
          → Begins facts (drop l.number facts.menu.attempts) l.refused.items state
          → Begins facts (drop l.fn.next facts.menu.attempts) l.fn.earlier.items state;
      outside : IsSameOutside facts.machine.pool (bytes l.fn.memory) (bytes l.memory);
      kept : KeepsSizeAndRoom g.M.PhysMem.lender bytes g.M.PhysMem.room l.fn.memory l.memory;
    }

-- how many attempts are left
abbrev pub decreases-attempts : goal.decreases-attempts
decreases-attempts g l = length l.boot.menu.now.attempts - l.number
