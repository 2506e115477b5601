-- Where a pool lies.
use Rattle.std.proofs.Common.{◌<◌, ◌≤◌, ◌-◌, arith}
use Rattle.bl_map.specs.MachineFacts.{MachineFacts, IsWellFormedMachine}

-- a pool that is not empty ends in memory; an empty one may lie anywhere, since nothing is reserved
-- for it
pub pool_in_memory : (facts : MachineFacts) → IsWellFormedMachine facts
    → facts.pool.start < facts.pool.end → facts.pool.end ≤ facts.size
pool_in_memory facts are some =
    let last = are.pool.usable (facts.pool.end - 1) (omega arith) (omega arith) in
    omega (arith, last.in_size)
