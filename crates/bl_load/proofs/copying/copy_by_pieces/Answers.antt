use Rattle.std.proofs.Common.{◌+◌, ◌-◌, drop, refl, length-take, ◌∙◌, arith}
use Rattle.bl_mem.specs.FileSet.{nth_file}
use Rattle.bl_mem.proofs.Overwrites.{copy_more}
use Rattle.bl_load.proofs.MemoryLemmas.{keeps_all, writes_none, keeps_on}
use Rattle.bl_load.proofs.copying.copy_by_pieces.Goals as goal

pub copy_piece-requires-clause-free : goal.copy_piece-requires-clause-free
copy_piece-requires-clause-free g c =
    let before = c.loop-done.invariant in
    record {
      held = rw before.kept.size c.requires.free.held;
      inside = omega arith;
      room = λ a from to.
          before.kept.room a (c.requires.free.room a (omega arith) (omega arith));
      beside = λ a from to. c.requires.free.beside a (omega arith) (omega arith);
    }

pub copy_piece-requires-clause-piece : goal.copy_piece-requires-clause-piece
copy_piece-requires-clause-piece g c =
    let source = c.requires.piece.source (omega arith) in
    rw c.loop-done.invariant.same
    (record {
      file = c.requires.piece.file;
      source = omega arith;
      some = omega arith;
      few = omega arith;
    })

pub loop-done-preserved : goal.loop-done-preserved
loop-done-preserved g c =
    let before = c.loop-done.invariant in
    let old = g.M.PhysMem.bytes c.args.memory.now in
    let text = nth_file (g.F.FileSet.texts c.args.files.now old) c.args.file in
    let next = c.min-next.result in
    let source = c.requires.piece.source (omega arith) in
    record {
      within = omega arith;
      same = c.copy_piece.ensures.texts ∙ before.same;
      after =
          rw (c.copy_piece.ensures.after, before.same, before.after)
          (copy_more old text c.args.at c.args.offset c.loop-done.done next (omega arith)
          (omega arith));
      kept = keeps_on before.kept c.copy_piece.ensures.kept;
    }

pub loop-done-init : goal.loop-done-init
loop-done-init g c =
    let old = g.M.PhysMem.bytes c.args.memory.now in
    let text = nth_file (g.F.FileSet.texts c.args.files.now old) c.args.file in
    let from = c.args.offset in
    let few = length-take (from + 0 - from) (drop from text) in
    record {
      within = omega arith;
      same = refl;
      after = writes_none old c.args.at _ (omega (arith, few));
      kept = keeps_all;
    }
