use Rattle.std.proofs.Common.{◌≡◌, ℕ, ◌+◌, ◌-◌, length, replicate, ◌∙◌, ap, arith}
use Rattle.std.proofs.lemmas.List.{length-replicate, replicate-append-replicate}
use Rattle.bl_mem.specs.Memory.{overwrite}
use Rattle.bl_mem.proofs.Overwrites.{overwrite_more}
use Rattle.bl_mem.specs.Sparse.{bytes_of}
use Rattle.bl_mem.proofs.ValueLemmas.{bytes_of_length}
use Rattle.std.proofs.lemmas.Grind.{common_steps}
use Rattle.bl_mem.proofs.sparse.SparsePhysMem.zero.Goals as goal

pub loop-at-preserved : goal.loop-at-preserved
loop-at-preserved g c =
    let this = c.args.self.now in
    let old = bytes_of this.frames this.size in
    let size = bytes_of_length this.frames this.size in
    let start = c.args.range.start in
    let done = c.loop-at.at - start in
    let next = c.min-next.result in
    let first : length (replicate {A = ℕ} done 0) ≡ done = length-replicate done 0 in
    let second : length (replicate {A = ℕ} next 0) ≡ next = length-replicate next 0 in
    let all : done + next ≡ c.loop-at.at + next - start = omega arith in
    record {
      from = omega arith;
      within = omega arith;
      size = c.zero_frame.ensures.size ∙ c.loop-at.invariant.size;
      after = rw (c.zero_frame.ensures.after, c.loop-at.invariant.after) (
          overwrite_more old start (replicate done 0) (replicate next 0) c.loop-at.at (omega arith)
          (omega arith)
          ∙ ap (overwrite old start)
          (replicate-append-replicate done next 0 ∙ ap (λ n. replicate n 0) all));
      kept = λ a had. c.zero_frame.ensures.kept a (c.loop-at.invariant.kept a had);
    }

pub loop-at-init : goal.loop-at-init
loop-at-init g c = grind (arith, common_steps)

pub returns-clause-kept : goal.returns-clause-kept
returns-clause-kept g c = grind (arith, common_steps)

pub zero_frame-requires : goal.zero_frame-requires
zero_frame-requires g c =
    let at = c.loop-at.at in
    let size = bytes_of_length c.args.self.now.frames c.args.self.now.size in
    record {
      inside = omega (arith, size, c.loop-at.invariant.size, c.requires.inside);
      one = omega arith;
      held = c.loop-at.invariant.kept at (c.requires.room at (omega arith) (omega arith));
    }
