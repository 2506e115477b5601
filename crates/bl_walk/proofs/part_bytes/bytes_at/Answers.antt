use Rattle.std.proofs.Common.{◌≤◌, arith, sym, ap, ◌∙◌}
use Rattle.std.specs.Option.{option_copied}
use Rattle.bl_walk.proofs.RangeLemmas.{nothing_in, outside_in, inside_in}
use Rattle.bl_walk.proofs.part_bytes.bytes_at.Goals as goal

pub returns-then-count-eq0-clause-exact : goal.returns-then-count-eq0-clause-exact
returns-then-count-eq0-clause-exact g c =
    sym (nothing_in c.args.image.now.parts c.args.address c.args.count c.if-count-eq0.true)

pub returns-in_err-part-clause-exact : goal.returns-in_err-part-clause-exact
returns-in_err-part-clause-exact g c =
    let some : 1 ≤ c.args.count = omega arith in
    ap option_copied c.from_residual.ensures
    ∙ sym
    (outside_in c.args.image.now.parts c.args.address c.args.count some
    (sym c.in_err-part.ensures.exact))

pub returns-clause-exact : goal.returns-clause-exact
returns-clause-exact g c =
    let some : 1 ≤ c.args.count = omega arith in
    let part = c.in_ok-part.part.now in
    rw (c.address.ensures, c.bytes.ensures)
    (sym
    (inside_in c.args.image.now.parts c.args.address c.args.count part some
    (sym c.in_ok-part.ensures.exact)))
