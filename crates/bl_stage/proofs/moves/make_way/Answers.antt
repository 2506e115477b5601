use Rattle.std.proofs.Common.{◌≡◌, ◌*◌, length, arith, rules, ap, ◌∙◌, sym}
use Rattle.std.specs.List.{count_by}
use Rattle.std.proofs.lemmas.List.{take_all}
use Rattle.bl_map.specs.PoolFrames.{open_among}
use Rattle.bl_stage.specs.internal.Cells.{is_open_cell}
use Rattle.bl_stage.proofs.WayLemmas.{held_marked, open_count}
use Rattle.bl_stage.proofs.moves.make_way.Goals as goal

pub returns-then-count_open-frames-clause-exact : goal.returns-then-count_open-frames-clause-exact
returns-then-count_open-frames-clause-exact g c =
    let marked = c.mark.new.cells in
    let long : length marked ≡ length c.args.cells.now = search rules in
    let counts =
    open_count c.args.ranges.now marked c.args.base (length c.args.cells.now)
    (λ j h. c.mark.ensures.shut j (omega arith)) (omega arith) in
    let all : count_by is_open_cell marked
    ≡ open_among c.args.ranges.now (4096 * c.args.base) (length c.args.cells.now) =
    sym (ap (count_by is_open_cell) (take_all _ marked (omega arith))) ∙ counts in
    let fewer = c.if-count_open-frames.true in
    let is = c.count_open.ensures in
    ((λ h. search rules), (λ h. absurd (omega arith)))

pub returns-then-count_open-frames-clause-held : goal.returns-then-count_open-frames-clause-held
returns-then-count_open-frames-clause-held g c =
    held_marked c.args.base c.args.frames.now c.args.cells.now c.mark.new.cells c.requires.held
    (search rules) c.mark.ensures.kept.holders

pub move_out-requires-clause-pool : goal.move_out-requires-clause-pool
move_out-requires-clause-pool g c =
    let wide = c.mark.ensures.kept.wide in
    record {
      held =
          held_marked c.args.base c.args.frames.now c.args.cells.now c.mark.new.cells
          c.requires.held (search rules) c.mark.ensures.kept.holders;
      small = rw wide c.requires.small;
      inside = rw wide c.requires.inside;
      room = rw wide c.requires.room;
    }

pub returns-clause-exact : goal.returns-clause-exact
returns-clause-exact g c =
    let marked = c.mark.new.cells in
    let long : length marked ≡ length c.args.cells.now = search rules in
    let counts =
    open_count c.args.ranges.now marked c.args.base (length c.args.cells.now)
    (λ j h. c.mark.ensures.shut j (omega arith)) (omega arith) in
    let all : count_by is_open_cell marked
    ≡ open_among c.args.ranges.now (4096 * c.args.base) (length c.args.cells.now) =
    sym (ap (count_by is_open_cell) (take_all _ marked (omega arith))) ∙ counts in
    let enough = c.if-count_open-frames.false in
    let is = c.count_open.ensures in
    ((λ h. omega arith), (λ h. search rules))
