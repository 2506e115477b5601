use Rattle.std.proofs.Common.{sym}
use Rattle.bl_walk.specs.Faults.{outside_parts}
use Rattle.bl_walk.proofs.followed_bytes.follow.Goals as goal

pub returns-in-None-clause-bytes : goal.returns-in-None-clause-bytes
returns-in-None-clause-bytes g c =
    record {
      ok = tt;
      fault = outside_parts c.args.address c.args.count c.requires (sym c.in-None.ensures.exact);
    }
