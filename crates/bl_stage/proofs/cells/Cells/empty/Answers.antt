use Rattle.std.proofs.Common.{ap, ◌∙◌}
use Rattle.bl_stage.specs.internal.PackedCells.{cells_of}
use Rattle.bl_stage.proofs.CellGroupLemmas.{cells_empty}
use Rattle.bl_stage.proofs.cells.Cells.empty.Goals as goal

pub returns : goal.returns
returns g c =
    ap (λ groups. cells_of groups c.args.count) c.in_ok-groups.ensures.items
    ∙ cells_empty c.args.count
