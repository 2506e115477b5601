use Rattle.std.proofs.Common.{◌≡◌, ◌<◌, ◌≤◌, ◌/◌, ◌%◌, length, get_or, set, arith, rules, false}
use Rattle.std.proofs.Common.{sym, ap, ◌∙◌}
use Rattle.std.proofs.lemmas.List.{get_or_default, set-get_or}
use Rattle.std.proofs.Math.ListN.{get_or-eq_default}
use Rattle.bl_stage.specs.declared.cell.Cell.{Cell}
use Rattle.bl_stage.specs.declared.cells.CellGroup.{CellGroup}
use Rattle.bl_stage.specs.internal.Cells.{cell_at, no_cell}
use Rattle.bl_stage.specs.internal.PackedCells.{no_group, cell_in}
use Rattle.bl_stage.proofs.CellGroupLemmas.{cells_length, cells_read, cells_put, cells_alike}
use Rattle.bl_stage.proofs.CellGroupLemmas.{cell_of_none}
use Rattle.bl_stage.proofs.CellGroupLemmas.{shut_here, shut_others}
use Rattle.bl_stage.proofs.cells.Cells.set_shut.Goals as goal

pub reach-requires : goal.reach-requires
reach-requires g c =
    let fields = c.self.inside in
    let long =
    sym (cells_length fields.groups.items fields.count) ∙ ap length c.self.view_is in
    omega (arith, long, c.requires, c.self.invariant)

pub returns : goal.returns
returns g c =
    let fields = c.self.inside in
    let before = fields.groups.items in
    let groups = c.reach.new.groups.items in
    let group = c.index_mut.result.now in
    let at = c.args.at in
    let flag = c.args.shut in
    let long = sym (cells_length before fields.count) ∙ ap length c.self.view_is in
    let below : at < fields.count = omega (arith, long, c.requires) in
    let within : at / 4 < length groups = omega (arith, c.reach.ensures.there.there) in
    let alike = cells_alike groups before fields.count c.reach.ensures.there.same in
    let is : group ≡ get_or groups (at / 4) no_group =
    c.index_mut.ensures.value ∙ get_or_default groups (at / 4) group no_group within in
    let inside : at % 4 < length group.shut = search rules in
    let next : CellGroup =
    record { holders = group.holders; shut = set group.shut (at % 4) flag } in
    let was : cell_in group (at % 4) ≡ cell_at c.args.self.now at =
    ap (λ g. cell_in g (at % 4)) is ∙ sym (cells_read groups fields.count at below)
    ∙ ap (λ cells. cell_at cells at) (alike ∙ c.self.view_is) in
    let cell : Cell = record { holder = (cell_at c.args.self.now at).holder; shut = flag } in
    let here : cell_in next (at % 4) ≡ cell =
    shut_here group.holders group.shut (at % 4) flag inside
    ∙ ap (λ (old : Cell). record { holder = old.holder; shut = flag }) was in
    cells_put groups fields.count at next cell below within here
    (λ place other.
    shut_others group.holders group.shut (at % 4) flag place other
    ∙ ap (λ g. cell_in g place) is)
    ∙ ap (λ cells. set cells at cell) (alike ∙ c.self.view_is)

pub returns-then-len-at : goal.returns-then-len-at
returns-then-len-at g c =
    let fields = c.self.inside in
    let groups = fields.groups.items in
    let at = c.args.at in
    let long = sym (cells_length groups fields.count) ∙ ap length c.self.view_is in
    let below : at < fields.count = omega (arith, long, c.requires) in
    let none : length groups ≤ at / 4 = search rules in
    let empty : cell_at c.args.self.now at ≡ no_cell =
    ap (λ cells. cell_at cells at) (sym c.self.view_is) ∙ cells_read groups fields.count at below
    ∙ ap (λ g. cell_in g (at % 4)) (get_or-eq_default groups no_group none)
    ∙ cell_of_none (at % 4) (omega arith) in
    let same : set c.args.self.now at (cell_at c.args.self.now at) ≡ c.args.self.now =
    set-get_or c.args.self.now at no_cell in
    let flag : c.args.shut ≡ false = search rules in
    rw flag
    (sym same
    ∙ ap (λ (cell : Cell). set c.args.self.now at cell)
    (empty ∙ ap (λ (cell : Cell). record { holder = cell.holder; shut = false }) (sym empty)))
