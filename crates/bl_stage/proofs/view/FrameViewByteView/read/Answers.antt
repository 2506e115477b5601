use Rattle.std.proofs.Common.{◌≡◌, ◌+◌, ◌-◌, length, slice_range, ap, ◌∙◌, rules, arith}
use Rattle.std.proofs.lemmas.List.{places}
use Rattle.std.proofs.lemmas.Slice.{take-put_mid}
use Rattle.bl_mem.proofs.SparseLemmas.{read_on}
use Rattle.bl_stage.specs.Staged.{staged}
use Rattle.bl_stage.proofs.FrameLemmas.{staged_length}
use Rattle.bl_stage.proofs.view.FrameViewByteView.read.Goals as goal

pub loop-done-preserved : goal.loop-done-preserved
loop-done-preserved g c =
    let this = c.args.self.now in
    let text = staged (g.M.PhysMem.bytes this.memory.now) this.frames.now this.size in
    let size = staged_length (g.M.PhysMem.bytes this.memory.now) this.frames.now this.size in
    let done = c.loop-done.done in
    let next = c.min-next.result in
    let piece = c.read_stretch.new.out in
    let kept : length piece ≡ done + next - done = search (rules, places) in
    record {
      within = search (rules, places);
      inside = search (rules, places);
      after =
          read_on text c.loop-done.out _ piece c.args.at done next (omega arith) (omega arith)
          c.loop-done.invariant.after
          (c.read_stretch.ensures
          ∙ ap (λ n. slice_range text (c.args.at + done) (c.args.at + done + n))
          (search (rules, places)))
          (take-put_mid done (done + next - done) c.loop-done.out piece
          (done + next) (omega arith) (omega arith));
    }

pub loop-done-init : goal.loop-done-init
loop-done-init g c =
    let this = c.args.self.now in
    let size = staged_length (g.M.PhysMem.bytes this.memory.now) this.frames.now this.size in
    record {
      within = omega arith;
      inside = omega (arith, size, c.requires);
      after = search rules;
    }
