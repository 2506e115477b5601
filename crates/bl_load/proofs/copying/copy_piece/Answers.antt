use Rattle.std.proofs.Common.{◌∙◌, ap, List, ℕ}
use Rattle.bl_mem.specs.Memory.{overwrite}
use Rattle.bl_load.proofs.copying.copy_piece.Goals as goal

pub copy_beside-requires-clause-free : goal.copy_beside-requires-clause-free
copy_beside-requires-clause-free g c = c.requires.free

pub returns-in-Some-address : goal.returns-in-Some-address
returns-in-Some-address g c =
    let old = g.M.PhysMem.bytes c.args.memory.now in
    record {
      after =
          c.copy_beside.ensures.after
          ∙ ap (λ (part : List ℕ). overwrite old c.args.at part) c.in-Some-address.ensures.same;
      texts = c.copy_beside.ensures.texts;
      kept = c.copy_beside.ensures.kept;
    }
