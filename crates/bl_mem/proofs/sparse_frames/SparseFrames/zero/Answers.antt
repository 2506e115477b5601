use Rattle.std.proofs.Common.{◌≡◌, ℕ, length, List, replicate, arith, subst}
use Rattle.std.proofs.lemmas.List.{length-replicate}
use Rattle.bl_mem.specs.SparseFrames.{IsWritten}
use Rattle.bl_mem.proofs.FrameLemmas.{whole_written, take_replicate}
use Rattle.bl_mem.proofs.sparse_frames.SparseFrames.zero.Goals as goal

pub returns-then-count-eq-WIDTH : goal.returns-then-count-eq-WIDTH
returns-then-count-eq-WIDTH g c =
    let all : c.args.count ≡ 4096 = omega (arith, c.if-count-eq-WIDTH.true) in
    let len : length (replicate {A = ℕ} 4096 0) ≡ 4096 = length-replicate {A = ℕ} 4096 0 in
    rw all
    (whole_written c.args.self.now c.clear.new.self c.args.at (replicate 4096 0) c.clear.ensures len
    (omega (arith, c.requires.one, len, all)))

pub returns-else-count-eq-WIDTH : goal.returns-else-count-eq-WIDTH
returns-else-count-eq-WIDTH g c =
    subst (λ (part : List ℕ). IsWritten c.args.self.now c.write.new.self c.args.at part)
    (take_replicate c.args.count 4096 0 (omega (arith, c.requires.one))) c.write.ensures
