use Rattle.bl_mem.proofs.Overwrites.{beside_write}
use Rattle.bl_load.proofs.copying.write_beside.Goals as goal

pub returns : goal.returns
returns g c =
    let old = g.M.PhysMem.bytes c.args.memory.now in
    let beside = beside_write (g.F.FileSet.holds c.args.files.now) old c.args.at c.args.part.now
    c.requires.inside c.requires.beside in
    record {
      after = c.write.ensures.after;
      texts = rw c.write.ensures.after (g.met.F.FileSet.same c.args.files.now old _ beside);
      kept = c.write.ensures.kept;
    }
