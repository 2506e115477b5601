use Rattle.std.proofs.Common.{◌≡◌, ◌+◌, ◌*◌, ◌<◌, ◌≤◌, length, drop, slice_range, Some, true, false}
use Rattle.std.proofs.Common.{arith, rules, refl, sym, ap, ◌∙◌}
use Rattle.std.specs.List.{count_by}
use Rattle.bl_mem.specs.Memory.{overwrite}
use Rattle.bl_stage.specs.internal.Cells.{cell_at, is_spare_cell, is_stranded_cell}
use Rattle.bl_stage.proofs.SpareLemmas.{enough_first, enough_rest, spare_is, enough_after}
use Rattle.bl_stage.proofs.SpareLemmas.{spare_before}
use Rattle.bl_stage.proofs.MoveLemmas.{none_moved, none_more, one_more}
use Rattle.std.proofs.lemmas.Grind.{common_steps}
use Rattle.bl_stage.proofs.moves.move_out.Goals as goal
use Rattle.bl_stage.proofs.moves.move_out.Goals.{then-cell+in-Some, then-cell+in_default, else-cell}

pub loop-from-init : goal.loop-from-init
loop-from-init g c = record {
  moved =
      none_moved c.args.base (g.M.PhysMem.bytes c.args.memory.now) c.args.frames.now
      c.args.cells.now c.requires.pool.held;
  enough =
      enough_first c.args.base c.args.frames.now c.args.cells.now c.requires.pool.held c.requires.enough;
  kept = record { lender = refl; size = refl; room = λ a had. had };
}

pub loop-from-preserved : goal.loop-from-preserved
loop-from-preserved g c =
    let bytes = g.M.PhysMem.bytes in
    let loop = c.loop-from in
    let cells = c.loop-from.cells in
    let from = c.loop-from.from in
    let done = loop.invariant.moved in
    let here : from < length cells = let e = done.wide in search rules in
    elim c.if-cell.branch [
      | then-cell+in-Some w ↦
          let to = w.next_spare-to.result in
          let slot = w.in-Some.slot in
          let spare = spare_is (cell_at cells to) w.next_spare-to.ensures.spare in
          let goes : (cell_at cells from).holder ≡ Some slot = search rules in
          let shut : (cell_at cells from).shut ≡ true = search rules in
          let inside : 4096 * (c.args.base + length cells) ≤ length (bytes loop.memory) =
          let e = done.wide in
          let i = c.requires.pool.inside (omega arith) in let s = done.size in rw (e, s) i in
          let step =
          one_more c.args.base loop.frames cells from to slot done.held here
          w.next_spare-to.ensures.within goes shut spare.1 spare.0 (bytes loop.memory)
          inside (bytes c.args.memory.now) c.args.frames.now c.args.cells.now done in
          let m : bytes c.if-cell.memory
          ≡ overwrite (bytes loop.memory) (4096 * (c.args.base + to))
          (slice_range (bytes loop.memory) (4096 * (c.args.base + from))
          (4096 * (c.args.base + from) + 4096)) =
          ap bytes w.memory-is ∙ w.copy_frame.ensures.after in
          let f = w.frames-is ∙ w.move_slot.ensures.frames in
          let k = w.cells-is ∙ w.move_slot.ensures.cells in
          let rest = w.next_spare-to.ensures.rest in
          let before : count_by is_stranded_cell (drop from cells)
          ≤ count_by is_spare_cell (drop to cells) =
          spare_before cells from to loop.to w.next_spare-to.ensures.within
          w.next_spare-to.ensures.spare rest loop.invariant.enough in
          record {
            moved = rw (m, f, k) step;
            enough =
                rw (k, w.to-is)
                (enough_after c.args.base loop.frames cells from to slot done.held here
                w.next_spare-to.ensures.within goes shut spare.1 spare.0 before);
            kept =
                let now = w.copy_frame.ensures.kept in
                let before = loop.invariant.kept in
                rw w.memory-is (record {
                  lender = now.lender ∙ before.lender;
                  size = now.size ∙ before.size;
                  room = λ a had. now.room a (before.room a had);
                });
          }
      | then-cell+in_default w ↦
          record {
            moved =
                rw (w.memory-is, w.frames-is, w.cells-is)
                (none_more c.args.base (bytes c.args.memory.now) (bytes loop.memory)
                c.args.frames.now loop.frames c.args.cells.now cells from
                (λ h. search rules) done);
            enough =
                rw (w.cells-is, w.to-is)
                (enough_rest cells from (count_by is_spare_cell (drop loop.to cells)) here
                loop.invariant.enough);
            kept = rw w.memory-is loop.invariant.kept;
          }
      | else-cell w ↦
          let open_ : (cell_at cells from).shut ≡ false = search rules in
          record {
            moved =
                rw (w.memory-is, w.frames-is, w.cells-is)
                (none_more c.args.base (bytes c.args.memory.now) (bytes loop.memory)
                c.args.frames.now loop.frames c.args.cells.now cells from
                (λ h. let e : true ≡ false = sym h ∙ open_ in absurd (cc)) done);
            enough =
                rw (w.cells-is, w.to-is)
                (enough_rest cells from (count_by is_spare_cell (drop loop.to cells)) here
                loop.invariant.enough);
            kept = rw w.memory-is loop.invariant.kept;
          }
    ]

pub move_slot-requires : goal.move_slot-requires
move_slot-requires g c =
    let wide = c.loop-from.invariant.moved.wide in
    let within = c.next_spare-to.ensures.within in
    record {
      slot = search rules;
      named = search rules;
      from = search rules;
      to = within;
      small = omega (arith, wide, within, c.requires.pool.small);
    }

pub next_spare-to-requires : goal.next_spare-to-requires
next_spare-to-requires g c = grind (arith, common_steps)
