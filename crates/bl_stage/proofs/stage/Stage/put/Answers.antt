use Rattle.std.proofs.Common.{◌≡◌, ◌*◌, ◌<◌, ℕ, length, get_or, set, true, sym, ap, refl, ◌∙◌}
use Rattle.bl_mem.specs.Memory.{overwrite}
use Rattle.bl_stage.specs.Staged.{Staging, AreStaged, staged_file}
use Rattle.bl_stage.specs.PieceStates.{piece_states}
use Rattle.bl_stage.specs.Pieces.{slot_in, is_piece}
use Rattle.bl_stage.proofs.PieceLemmas.{IsPiece, kept_staged, found_piece, piece_is, piece_in_file}
use Rattle.bl_stage.proofs.PieceLemmas.{piece_in_others}
use Rattle.bl_stage.proofs.PutLemmas.{write_outside, kept_put}
use Rattle.bl_stage.proofs.PutLemmas.{some_waits, answer_repeated}
use Rattle.bl_stage.proofs.PieceStateLemmas.{piece_states_put}
use Rattle.bl_stage.proofs.stage.Stage.put.Goals as goal

pub returns-clause-in_file : goal.returns-clause-in_file
returns-clause-in_file g c =
    let inside = c.self.inside in
    let stage = c.args.self.now in
    let bytes = g.M.PhysMem.bytes c.args.memory.now in
    let new = g.M.PhysMem.bytes c.write.new.self in
    let piece = c.args.bytes.now in
    let file = c.args.file in
    let index = c.args.index in
    let kept : AreStaged stage =
    rw (← c.self.view_is)
    (kept_staged inside.base inside.pool inside.sizes.items inside.starts.items
    inside.frames.items inside.came.items inside.cells inside.waiting
    c.self.invariant) in
    let found =
    found_piece (is_piece stage file index (length piece)) (slot_in stage file index)
    c.in-Some.slot c.in-Some.ensures.value in
    let is : IsPiece stage file index (length piece) =
    piece_is stage file index (length piece) found.0 in
    let wrote : new
    ≡ overwrite bytes (4096 * get_or stage.frames (slot_in stage file index) 0) piece =
    c.write.ensures.after
    ∙ ap (λ a. overwrite bytes a piece)
    (c.address_of-at.ensures.is
    ∙ ap (λ k. 4096 * get_or stage.frames k 0) found.1) in
    λ _.
    ap (λ s. staged_file new s file) c.self.view_is ∙ ap (λ m. staged_file m stage file) wrote
    ∙ piece_in_file stage kept bytes piece file index is c.requires.inside

pub returns-clause-in_others : goal.returns-clause-in_others
returns-clause-in_others g c =
    let inside = c.self.inside in
    let stage = c.args.self.now in
    let bytes = g.M.PhysMem.bytes c.args.memory.now in
    let new = g.M.PhysMem.bytes c.write.new.self in
    let piece = c.args.bytes.now in
    let file = c.args.file in
    let index = c.args.index in
    let kept : AreStaged stage =
    rw (← c.self.view_is)
    (kept_staged inside.base inside.pool inside.sizes.items inside.starts.items
    inside.frames.items inside.came.items inside.cells inside.waiting
    c.self.invariant) in
    let found =
    found_piece (is_piece stage file index (length piece)) (slot_in stage file index)
    c.in-Some.slot c.in-Some.ensures.value in
    let is : IsPiece stage file index (length piece) =
    piece_is stage file index (length piece) found.0 in
    let wrote : new
    ≡ overwrite bytes (4096 * get_or stage.frames (slot_in stage file index) 0) piece =
    c.write.ensures.after
    ∙ ap (λ a. overwrite bytes a piece)
    (c.address_of-at.ensures.is
    ∙ ap (λ k. 4096 * get_or stage.frames k 0) found.1) in
    λ _ other h differ.
    ap (λ s. staged_file new s other) c.self.view_is ∙ ap (λ m. staged_file m stage other) wrote
    ∙ piece_in_others stage kept bytes piece file index is c.requires.inside other h differ

pub returns-clause-piece_states : goal.returns-clause-piece_states
returns-clause-piece_states g c =
    let inside = c.self.inside in
    let stage = c.args.self.now in
    let bytes = g.M.PhysMem.bytes c.args.memory.now in
    let new = g.M.PhysMem.bytes c.write.new.self in
    let piece = c.args.bytes.now in
    let file = c.args.file in
    let index = c.args.index in
    let kept : AreStaged stage =
    rw (← c.self.view_is)
    (kept_staged inside.base inside.pool inside.sizes.items inside.starts.items
    inside.frames.items inside.came.items inside.cells inside.waiting
    c.self.invariant) in
    let found =
    found_piece (is_piece stage file index (length piece)) (slot_in stage file index)
    c.in-Some.slot c.in-Some.ensures.value in
    let is : IsPiece stage file index (length piece) =
    piece_is stage file index (length piece) found.0 in
    let wrote : new
    ≡ overwrite bytes (4096 * get_or stage.frames (slot_in stage file index) 0) piece =
    c.write.ensures.after
    ∙ ap (λ a. overwrite bytes a piece)
    (c.address_of-at.ensures.is
    ∙ ap (λ k. 4096 * get_or stage.frames k 0) found.1) in
    let all = piece_states_put stage bytes new piece file index kept found.0
    (ap (λ m. staged_file m stage file) wrote
    ∙ piece_in_file stage kept bytes piece file index is c.requires.inside)
    (λ other h differ.
    ap (λ m. staged_file m stage other) wrote
    ∙ piece_in_others stage kept bytes piece file index is c.requires.inside other h
    differ) in
    let put : Staging → ℕ → Staging =
    λ s k.
    record {
      pool = s.pool;
      sizes = s.sizes;
      frames = s.frames;
      came = set s.came k true;
    } in
    let view : Staging =
    record {
      pool = inside.pool;
      sizes = inside.sizes.items;
      frames = inside.frames.items;
      came = inside.came.items;
    } in
    let same : put view c.in-Some.slot ≡ put stage (slot_in stage file index) =
    ap (λ s. put s c.in-Some.slot) c.self.view_is ∙ ap (λ k. put stage k) found.1 in
    λ _. ap (piece_states new) same ∙ all

pub returns-clause-outside : goal.returns-clause-outside
returns-clause-outside g c =
    let at = c.address_of-at.ensures in
    let bytes = g.M.PhysMem.bytes c.args.memory.now in
    let pool = c.args.self.now.pool in
    rw c.write.ensures.after
    (write_outside bytes c.args.bytes.now pool c.address_of-at.result at.low at.high
    c.in-Some.ensures.short c.requires.inside)

pub overflow_sub-self : goal.overflow_sub-self
overflow_sub-self g c =
    let same = ap (λ (s : Staging). length s.frames) c.self.view_is in
    some_waits c.in-Some.slot c.self.invariant (rw same c.in-Some.ensures.within)
    (sym (rw c.if-index.false at c.index.ensures))

pub invariant_of-self : goal.invariant_of-self
invariant_of-self g c =
    let same = ap (λ (s : Staging). length s.frames) c.self.view_is in
    kept_put c.in-Some.slot c.self.invariant (rw same c.in-Some.ensures.within)
    (sym (rw c.if-index.false at c.index.ensures))

pub returns-then-index-clause-answer : goal.returns-then-index-clause-answer
returns-then-index-clause-answer g c =
    let inside = c.self.inside in
    let stage = c.args.self.now in
    let found =
    found_piece (is_piece stage c.args.file c.args.index (length c.args.bytes.now))
    (slot_in stage c.args.file c.args.index) c.in-Some.slot c.in-Some.ensures.value in
    let same = ap (λ (s : Staging). length s.frames) c.self.view_is in
    let flags : length inside.came.items ≡ length inside.frames.items = c.self.invariant.flags in
    let within : c.in-Some.slot < length inside.came.items =
    rw (flags, same) c.in-Some.ensures.within in
    let view = ap (λ (s : Staging). s.came) c.self.view_is in
    rw (← found.1)
    (rw (← view)
    (answer_repeated (is_piece stage c.args.file c.args.index (length c.args.bytes.now))
    inside.came.items c.in-Some.slot within found.0
    (rw c.if-index.true at c.index.ensures)))

pub returns-then-index-clause-unchanged : goal.returns-then-index-clause-unchanged
returns-then-index-clause-unchanged g c = λ _. (refl, refl)

pub returns-then-index-clause-outside : goal.returns-then-index-clause-outside
returns-then-index-clause-outside g c = λ _ _. refl
