use Rattle.std.proofs.Common.{length, sym, ap, ◌∙◌}
use Rattle.bl_stage.proofs.CellGroupLemmas.{cells_length}
use Rattle.bl_stage.proofs.cells.Cells.len.Goals as goal

pub returns : goal.returns
returns g c =
    let fields = c.self.inside in
    sym (cells_length fields.groups.items fields.count) ∙ ap length c.self.view_is
