use Rattle.std.proofs.Common.{◌≡◌, ◌+◌, ◌/◌, length, slice_range, Some, arith, rules}
use Rattle.bl_mem.specs.FrameState.{slot_read}
use Rattle.bl_mem.specs.SparseFrames.{frame_numbered}
use Rattle.bl_mem.proofs.FrameLemmas.{lent}
use Rattle.bl_mem.proofs.sparse_frames.SparseFrames.read.Goals as goal

pub returns-in-Wiped : goal.returns-in-Wiped
returns-in-Wiped g c = search rules

pub returns-in-Kept : goal.returns-in-Kept
returns-in-Kept g c =
    let facts = c.args.self.now in
    let start = c.start-start.result in
    let count = length c.args.out.now in
    let here : slot_read (frame_numbered facts (c.args.at / 4096)) ≡ Some c.in-Kept.slot =
    search rules in
    let piece : c.copy_from_slice.new.self ≡ slice_range facts.kept start (start + count) =
    search rules in
    rw piece
    (lent facts c.args.at c.in-Kept.slot count start
    (λ n below.
    let number : c.args.at / 4096 + n ≡ c.args.at / 4096 = omega arith in
    let next : c.in-Kept.slot + n ≡ c.in-Kept.slot = omega arith in
    rw (number, next) here) c.start-start.ensures.exact (omega arith)).bytes
