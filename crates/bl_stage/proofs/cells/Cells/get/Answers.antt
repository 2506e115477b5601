use Rattle.std.proofs.Common.{◌≡◌, ◌<◌, ◌≤◌, ◌/◌, ◌%◌, length, get_or, arith, sym, ap, ◌∙◌}
use Rattle.std.proofs.Math.ListN.{get_or-eq_default}
use Rattle.std.proofs.lemmas.List.{get_or_default}
use Rattle.bl_stage.specs.internal.Cells.{cell_at}
use Rattle.bl_stage.specs.internal.PackedCells.{no_group, cell_in}
use Rattle.bl_stage.proofs.CellGroupLemmas.{cells_length, cells_read, cell_of_none}
use Rattle.bl_stage.proofs.cells.Cells.get.Goals as goal

pub returns-then-len-at-clause-is : goal.returns-then-len-at-clause-is
returns-then-len-at-clause-is g c =
    let fields = c.self.inside in
    let groups = fields.groups.items in
    let at = c.args.at in
    let long = sym (cells_length groups fields.count) ∙ ap length c.self.view_is in
    let below : at < fields.count = omega (arith, long, c.requires) in
    let none : length groups ≤ at / 4 = omega (arith, c.if-len-at.true, c.len.ensures) in
    sym (cell_of_none (at % 4) (omega arith))
    ∙ ap (λ g. cell_in g (at % 4)) (sym (get_or-eq_default groups no_group none))
    ∙ sym (cells_read groups fields.count at below) ∙ ap (λ cells. cell_at cells at) c.self.view_is

pub returns-clause-is : goal.returns-clause-is
returns-clause-is g c =
    let fields = c.self.inside in
    let groups = fields.groups.items in
    let group = c.index-group.result.now in
    let at = c.args.at in
    let long = sym (cells_length groups fields.count) ∙ ap length c.self.view_is in
    let below : at < fields.count = omega (arith, long, c.requires) in
    let is : group ≡ get_or groups (at / 4) no_group =
    c.index-group.ensures
    ∙ get_or_default groups (at / 4) group no_group
    (omega (arith, c.if-len-at.false, c.len.ensures)) in
    rw c.holder_of.ensures.is
    (ap (λ g. cell_in g (at % 4)) is ∙ sym (cells_read groups fields.count at below)
    ∙ ap (λ cells. cell_at cells at) c.self.view_is)
