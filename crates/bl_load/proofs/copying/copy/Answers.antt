use Rattle.std.proofs.Common.{◌≤◌, ◌+◌, ◌-◌, length, drop, ap, refl, arith, length-take}
use Rattle.bl_mem.specs.FileSet.{nth_file}
use Rattle.bl_load.proofs.MemoryLemmas.{keeps_all, writes_none}
use Rattle.bl_load.proofs.copying.copy.Goals as goal

pub returns-then-count-eq0 : goal.returns-then-count-eq0
returns-then-count-eq0 g c =
    let old = g.M.PhysMem.bytes c.args.memory.now in
    let text = nth_file (g.F.FileSet.texts c.args.files.now old) c.args.file in
    let from = c.args.offset in
    let few = length-take (from + c.args.count - from) (drop from text) in
    record {
      after = writes_none old c.args.at _ (omega (arith, few, c.if-count-eq0.true));
      texts = refl;
      kept = keeps_all;
    }

pub write_beside-requires : goal.write_beside-requires
write_beside-requires g c =
    let old = g.M.PhysMem.bytes c.args.memory.now in
    let text = nth_file (g.F.FileSet.texts c.args.files.now old) c.args.file in
    let from = c.args.offset in
    let free = c.requires.free in
    let lent = ap length c.in-Some.ensures in
    let few = length-take (from + c.args.count - from) (drop from text) in
    let short : length c.in-Some.lent.now ≤ c.args.count = omega (arith, lent, few) in
    record {
      held = free.held;
      inside = omega arith;
      room = λ a low high. free.room a low (omega arith);
      beside = λ a low high. free.beside a low (omega arith);
    }
