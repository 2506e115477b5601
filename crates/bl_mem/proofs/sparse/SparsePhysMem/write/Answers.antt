use Rattle.std.proofs.Common.{◌∙◌, refl, arith, rules}
use Rattle.std.proofs.lemmas.List.{take-append-drop}
use Rattle.bl_mem.proofs.SparseLemmas.{write_on}
use Rattle.bl_mem.specs.Sparse.{bytes_of}
use Rattle.bl_mem.proofs.ValueLemmas.{bytes_of_length}
use Rattle.std.proofs.lemmas.Grind.{common_steps}
use Rattle.bl_mem.proofs.sparse.SparsePhysMem.write.Goals as goal

pub loop-done-preserved : goal.loop-done-preserved
loop-done-preserved g c =
    let this = c.args.self.now in
    let size = bytes_of_length this.frames this.size in
    record {
      within = omega arith;
      inside = omega (arith, c.write_frame.ensures.size, c.loop-done.invariant.inside);
      size = c.write_frame.ensures.size ∙ c.loop-done.invariant.size;
      after =
          rw (c.write_frame.ensures.after, c.loop-done.invariant.after)
          (write_on (bytes_of this.frames this.size) c.args.part.now c.args.at
          c.loop-done.done c.min-next.result (omega arith) (omega arith));
      kept = λ a had. c.write_frame.ensures.kept a (c.loop-done.invariant.kept a had);
    }

pub loop-done-init : goal.loop-done-init
loop-done-init g c =
    let this = c.args.self.now in
    let size = bytes_of_length this.frames this.size in
    record {
      within = omega arith;
      inside = omega (arith, size, c.requires.inside);
      size = refl;
      after = search (rules, take-append-drop);
      kept = λ a had. had;
    }

pub returns-clause-after : goal.returns-clause-after
returns-clause-after g c = grind (arith, common_steps)

pub returns-clause-kept : goal.returns-clause-kept
returns-clause-kept g c = grind (arith, common_steps)
