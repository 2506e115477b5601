use Rattle.std.proofs.Common.{◌≡◌, ◌+◌, ◌-◌, length, slice_range, ap, ◌∙◌, rules, arith}
use Rattle.std.proofs.lemmas.List.{places}
use Rattle.std.proofs.lemmas.Slice.{take-put_mid}
use Rattle.bl_mem.specs.Sparse.{bytes_of}
use Rattle.bl_mem.proofs.ValueLemmas.{bytes_of_length}
use Rattle.bl_mem.proofs.SparseLemmas.{read_on}
use Rattle.std.proofs.lemmas.Grind.{common_steps}
use Rattle.bl_mem.proofs.sparse.SparsePhysMem.read.Goals as goal

pub loop-done-preserved : goal.loop-done-preserved
loop-done-preserved g c =
    let this = c.args.self.now in
    let text = bytes_of this.frames this.size in
    let size = bytes_of_length this.frames this.size in
    let done = c.loop-done.done in
    let next = c.min-next.result in
    let piece = c.read_frame.new.out in
    let kept : length piece ≡ done + next - done = search (rules, places) in
    record {
      within = search (rules, places);
      inside = search (rules, places);
      after =
          read_on text c.loop-done.out _ piece c.args.at done next (omega arith) (omega arith)
          c.loop-done.invariant.after
          (c.read_frame.ensures
          ∙ ap (λ n. slice_range text (c.args.at + done) (c.args.at + done + n))
          (search (rules, places)))
          (take-put_mid done (done + next - done) c.loop-done.out piece
          (done + next) (omega arith) (omega arith));
    }

pub returns : goal.returns
returns g c = grind (arith, common_steps)

pub loop-done-init : goal.loop-done-init
loop-done-init g c = grind (arith, common_steps, bytes_of_length)
