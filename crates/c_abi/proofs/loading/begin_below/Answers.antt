use Rattle.std.proofs.Common.{◌<◌, length, rules}
use Rattle.c_abi.proofs.LoadLemmas.{first_is_low, first_is_high}
use Rattle.c_abi.proofs.loading.begin_below.Goals as goal

pub returns-then-first-base : goal.returns-then-first-base
returns-then-first-base g c =
    let some : 0 < length c.args.parts.now = search rules in
    first_is_low c.args.base c.args.parts.now c.index-parts-0.result some
    c.if-first-base.true

pub returns : goal.returns
returns g c =
    let some : 0 < length c.args.parts.now = search rules in
    first_is_high c.args.base c.args.parts.now c.index-parts-0.result some
    c.if-first-base.false c.requires
