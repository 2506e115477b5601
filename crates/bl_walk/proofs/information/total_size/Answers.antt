use Rattle.std.proofs.Common.{rules}
use Rattle.bl_walk.specs.Seen.{HasTotalSize}
use Rattle.bl_walk.specs.Faults.{size_word, short_information}
use Rattle.bl_walk.proofs.information.total_size.Goals as goal

pub follow-requires : goal.follow-requires
follow-requires g c = rw (c.information.ensures, c.registers.ensures) (size_word c.requires)

pub returns-then-size-lt-MIN_INFO_SIZE-clause-size :
    goal.returns-then-size-lt-MIN_INFO_SIZE-clause-size
returns-then-size-lt-MIN_INFO_SIZE-clause-size g c =
    let is : HasTotalSize c.args.image.now c.u32_at-size.result = search rules in
    record {
      ok = tt;
      fault = short_information c.u32_at-size.result is c.if-size-lt-MIN_INFO_SIZE.true;
    }
