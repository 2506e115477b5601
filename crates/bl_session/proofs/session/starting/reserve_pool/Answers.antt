use Rattle.std.proofs.Common.{◌∙◌, ℕ, subst, arith}
use Rattle.std.specs.declared.ops.Range.{Range}
use Rattle.bl_mem.specs.Memory.{HasRoom}
use Rattle.bl_session.proofs.session.starting.reserve_pool.Goals as goal

pub returns-in_ok-reserve-clause-room : goal.returns-in_ok-reserve-clause-room
returns-in_ok-reserve-clause-room g c =
    let room = g.M.PhysMem.room c.reserve.new.self in
    record {
      size = c.reserve.ensures.kept.size ∙ c.requires;
      room =
          subst (λ (r : Range ℕ). HasRoom room r.start r.end) c.pool-pool.ensures.pool
          (c.in_ok-reserve.ensures.made 0 c.pool-pool.result (omega arith));
    }
