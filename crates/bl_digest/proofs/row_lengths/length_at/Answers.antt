use Rattle.std.proofs.Common.{◌<◌, length, arith}
use Rattle.std.proofs.lemmas.Bool.Decides.{nat_tests}
use Rattle.bl_digest.proofs.HashingLemmas.{first_at}
use Rattle.bl_digest.proofs.row_lengths.length_at.Goals as goal

pub returns-in-Some : goal.returns-in-Some
returns-in-Some c =
    let found = c.in-Some.ensures.lookup in
    let inside : c.args.index < length c.args.rows.now = grind (arith, nat_tests) in
    first_at c.args.rows.now c.args.index c.in-Some.row.now inside found.1
