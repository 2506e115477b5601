use Rattle.std.proofs.Common.{◌≡◌, ◌+◌, length, slice_range, arith, rules}
use Rattle.std.proofs.lemmas.List.{places}
use Rattle.bl_mem.proofs.Overwrites.{beside_write}
use Rattle.bl_load.proofs.copying.copy_beside.Goals as goal

pub returns : goal.returns
returns g c =
    let old = g.M.PhysMem.bytes c.args.memory.now in
    let part = slice_range old c.args.from (c.args.from + c.args.count) in
    let len : length part ≡ c.args.count = search (rules, places) in
    let beside =
    beside_write (g.F.FileSet.holds c.args.files.now) old c.args.at part (omega arith)
    (λ a low high. c.requires.free.beside a low (omega arith)) in
    record {
      after = c.copy.ensures.after;
      texts = rw c.copy.ensures.after (g.met.F.FileSet.same c.args.files.now old _ beside);
      kept = c.copy.ensures.kept;
    }
