use Rattle.std.proofs.Common.{arith, ◌≡◌, length, rules, ap, ◌∙◌}
use Rattle.std.specs.Vec.{with_items}
use Rattle.std.proofs.lemmas.List.{with_items_is}
use Rattle.bl_stage.specs.Staged.{Staging, AreStaged, staged_file, with_frames}
use Rattle.bl_stage.specs.internal.Cells.{ReadAlike, MadeWay}
use Rattle.bl_stage.specs.PieceStates.{piece_states}
use Rattle.bl_stage.proofs.PieceLemmas.{kept_staged, file_evacuated}
use Rattle.bl_stage.proofs.PieceStateLemmas.{piece_states_same}
use Rattle.std.proofs.lemmas.Grind.{common_steps}
use Rattle.bl_stage.proofs.stage.Stage.evacuate.Goals as goal
use Rattle.bl_stage.proofs.stage.Stage.evacuate.Goals.{then-made, else-made}

pub returns-clause-files : goal.returns-clause-files
returns-clause-files g c =
    let inside = c.self.inside in
    let stage = c.args.self.now in
    let bytes = g.M.PhysMem.bytes c.args.memory.now in
    let new = g.M.PhysMem.bytes c.make_way-made.new.memory in
    let frames = c.make_way-made.new.frames in
    let kept : AreStaged stage =
    rw (← c.self.view_is)
    (kept_staged inside.base inside.pool inside.sizes.items inside.starts.items
    inside.frames.items inside.came.items inside.cells inside.waiting
    c.self.invariant) in
    elim c.if-made.branch [
      | then-made w ↦
          let way : MadeWay inside.base (length inside.cells) c.args.ranges.now bytes new
          inside.frames.items frames = search rules in
          let items : (with_items inside.frames frames).items ≡ frames =
          with_items_is inside.frames frames (search rules) in
          let before : inside.frames.items ≡ stage.frames = ap (λ s. s.frames) c.self.view_is in
          let same : ReadAlike bytes stage.frames new frames = rw (← before) way.same in
          let long : length frames ≡ length stage.frames = way.long ∙ ap length before in
          let view : Staging =
          record {
            pool = inside.pool;
            sizes = inside.sizes.items;
            frames = inside.frames.items;
            came = inside.came.items;
          } in
          rw w.result-is
          (λ file h.
          ap (λ fs. staged_file new (with_frames view fs) file) items
          ∙ ap (λ s. staged_file new (with_frames s frames) file) c.self.view_is
          ∙ file_evacuated bytes new stage frames file kept same long h)
      | else-made w ↦ rw w.result-is tt
    ]

pub returns-clause-piece_states : goal.returns-clause-piece_states
returns-clause-piece_states g c =
    let inside = c.self.inside in
    let stage = c.args.self.now in
    let bytes = g.M.PhysMem.bytes c.args.memory.now in
    let new = g.M.PhysMem.bytes c.make_way-made.new.memory in
    let frames = c.make_way-made.new.frames in
    let kept : AreStaged stage =
    rw (← c.self.view_is)
    (kept_staged inside.base inside.pool inside.sizes.items inside.starts.items
    inside.frames.items inside.came.items inside.cells inside.waiting
    c.self.invariant) in
    elim c.if-made.branch [
      | then-made w ↦
          let way : MadeWay inside.base (length inside.cells) c.args.ranges.now bytes new
          inside.frames.items frames = search rules in
          let items : (with_items inside.frames frames).items ≡ frames =
          with_items_is inside.frames frames (search rules) in
          let before : inside.frames.items ≡ stage.frames = ap (λ s. s.frames) c.self.view_is in
          let same : ReadAlike bytes stage.frames new frames = rw (← before) way.same in
          let long : length frames ≡ length stage.frames = way.long ∙ ap length before in
          let view : Staging =
          record {
            pool = inside.pool;
            sizes = inside.sizes.items;
            frames = inside.frames.items;
            came = inside.came.items;
          } in
          rw w.result-is
          (ap (λ fs. piece_states new (with_frames view fs)) items
          ∙ ap (λ s. piece_states new (with_frames s frames)) c.self.view_is
          ∙ piece_states_same stage frames bytes new
          (λ file h. file_evacuated bytes new stage frames file kept same long h))
      | else-made w ↦ rw w.result-is tt
    ]

pub invariant_of-self : goal.invariant_of-self
invariant_of-self g c = grind (arith, common_steps)

pub returns-clause-unchanged : goal.returns-clause-unchanged
returns-clause-unchanged g c = grind (arith, common_steps)

pub returns-clause-clear : goal.returns-clause-clear
returns-clause-clear g c = grind (arith, common_steps)

pub returns-clause-stays : goal.returns-clause-stays
returns-clause-stays g c = grind (arith, common_steps)

pub returns-clause-staged : goal.returns-clause-staged
returns-clause-staged g c = grind (arith, common_steps)
