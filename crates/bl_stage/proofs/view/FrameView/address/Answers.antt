use Rattle.std.proofs.Common.{◌≡◌, ℕ, ◌+◌, ◌*◌, ◌≤◌, ◌/◌, ◌%◌, List, length, slice_range, get_or}
use Rattle.std.proofs.Common.{arith, rules, ap, ◌∙◌, sym}
use Rattle.std.proofs.lemmas.List.{places}
use Rattle.bl_stage.specs.Staged.{staged}
use Rattle.bl_stage.proofs.FrameLemmas.{IsStretch, read_staged, stretch_inside}
use Rattle.bl_stage.proofs.view.FrameView.address.Goals as goal

-- bytes of one frame are a stretch
one_frame : (frames : List ℕ) (at count : ℕ) → at % 4096 + count ≤ 4096 → IsStretch frames at count
one_frame frames at count one k meets =
    let first : k ≡ 0 = omega (arith, one, meets) in
    let here : at / 4096 + k ≡ at / 4096 = omega (arith, first) in
    let none : get_or frames (at / 4096) 0 ≡ get_or frames (at / 4096) 0 + k =
    omega (arith, first) in
    ap (λ n. get_or frames n 0) here ∙ none

pub returns-clause-within : goal.returns-clause-within
returns-clause-within g c =
    let view = c.args.self.now in
    let enough = view.enough in
    stretch_inside view.frames.now (length (g.M.PhysMem.bytes view.memory.now)) c.args.at
    c.args.count (omega (arith, c.if-count-eq0.false))
    (omega (arith, c.requires, enough)) view.inside
    (one_frame view.frames.now c.args.at c.args.count c.if-at-count-gt-FRAME_SIZE.false)

pub returns-clause-same : goal.returns-clause-same
returns-clause-same g c =
    let view = c.args.self.now in
    let bytes = g.M.PhysMem.bytes view.memory.now in
    let frames = view.frames.now in
    let at = c.args.at in
    let count = c.args.count in
    let enough = view.enough in
    let start = 4096 * get_or frames (at / 4096) 0 + at % 4096 in
    let one = one_frame frames at count c.if-at-count-gt-FRAME_SIZE.false in
    let fits : start + count ≤ length bytes =
    stretch_inside frames (length bytes) at count (omega (arith, c.if-count-eq0.false))
    (omega (arith, c.requires, enough)) view.inside one in
    let part = slice_range bytes start (start + count) in
    let len : length part ≡ count = search (rules, places) in
    read_staged bytes frames view.size at part (omega (arith, len, c.requires)) (rw len one)
    (omega (arith, len, fits)) (ap (λ n. slice_range bytes start (start + n)) (sym len))
    ∙ ap (λ n. slice_range (staged bytes frames view.size) at (at + n)) len
