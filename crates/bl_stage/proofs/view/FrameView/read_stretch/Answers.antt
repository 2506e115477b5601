use Rattle.std.proofs.Common.{◌≡◌, ◌+◌, ◌*◌, ◌/◌, ◌%◌, length, slice_range, get_or, arith, rules}
use Rattle.std.proofs.Common.{ap, ◌∙◌, sym}
use Rattle.bl_stage.specs.Staged.{staged}
use Rattle.bl_stage.proofs.FrameLemmas.{read_staged, stretch_inside}
use Rattle.bl_stage.proofs.view.FrameView.read_stretch.Goals as goal

pub read-requires : goal.read-requires
read-requires g c =
    let view = c.args.self.now in
    let h = view.enough in
    stretch_inside view.frames.now (length (g.M.PhysMem.bytes view.memory.now)) c.args.at
    (length c.args.out.now) (omega arith) (omega arith) view.inside c.requires.side

pub returns : goal.returns
returns g c =
    let view = c.args.self.now in
    let bytes = g.M.PhysMem.bytes view.memory.now in
    let frames = view.frames.now in
    let at = c.args.at in
    let out = c.read.new.out in
    let same : length out ≡ length c.args.out.now = search rules in
    let start = 4096 * get_or frames (at / 4096) 0 + at % 4096 in
    let fits =
    let h =
    view.enough in
    stretch_inside frames (length bytes) at (length c.args.out.now) (omega arith)
    (omega arith) view.inside c.requires.side in
    let is : out ≡ slice_range bytes start (start + length out) =
    c.read.ensures ∙ ap (λ n. slice_range bytes start (start + n)) (sym same) in
    read_staged bytes frames view.size at out (omega arith) (λ k h. c.requires.side k (omega arith))
    (omega arith) is
    ∙ ap (λ n. slice_range (staged bytes frames view.size) at (at + n)) same
