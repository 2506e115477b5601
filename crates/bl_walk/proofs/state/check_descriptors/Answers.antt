use Rattle.std.proofs.Common.{◌≡◌, arith, length}
use Rattle.bl_walk.specs.Faults.{descriptors, other_descriptors}
use Rattle.bl_walk.proofs.state.check_descriptors.Goals as goal

pub follow-requires : goal.follow-requires
follow-requires g c =
    let long : length c.args.descriptors.now ≡ 32 = omega arith in
    rw (c.gdt.ensures, c.registers.ensures, ← long) (descriptors c.args.descriptors.now c.requires)

pub returns-then-not-are_descriptors : goal.returns-then-not-are_descriptors
returns-then-not-are_descriptors g c =
    let long : length c.args.descriptors.now ≡ 32 = omega arith in
    let there = rw (c.gdt.ensures, c.registers.ensures, ← long) at c.in_ok-found.ensures.bytes.ok in
    let fails = c.if-not-are_descriptors.ensures in
    record {
      ok = tt;
      fault = other_descriptors c.args.descriptors.now c.in_ok-found.found.now c.requires there (λ same. let no = fails.1 same in cc);
    }
