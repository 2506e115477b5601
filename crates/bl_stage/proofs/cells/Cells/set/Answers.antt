use Rattle.std.proofs.Common.{◌≡◌, ◌<◌, ◌/◌, ◌%◌, length, get_or, set, arith, rules, sym, ap, ◌∙◌}
use Rattle.std.proofs.lemmas.List.{get_or_default}
use Rattle.bl_stage.specs.declared.cells.CellGroup.{CellGroup}
use Rattle.bl_stage.specs.internal.PackedCells.{no_group, holder_of, cell_in}
use Rattle.bl_stage.proofs.CellGroupLemmas.{cells_length, cells_put, cells_alike, put_here}
use Rattle.bl_stage.proofs.CellGroupLemmas.{put_others}
use Rattle.bl_stage.proofs.CellGroupLemmas.{holder_again}
use Rattle.bl_stage.proofs.cells.Cells.set.Goals as goal

pub reach-requires : goal.reach-requires
reach-requires g c =
    let fields = c.self.inside in
    let long =
    sym (cells_length fields.groups.items fields.count) ∙ ap length c.self.view_is in
    omega (arith, long, c.requires.at, c.self.invariant)

pub returns : goal.returns
returns g c =
    let fields = c.self.inside in
    let before = fields.groups.items in
    let groups = c.reach.new.groups.items in
    let group = c.index_mut-group.result.now in
    let at = c.args.at in
    let long = sym (cells_length before fields.count) ∙ ap length c.self.view_is in
    let below : at < fields.count = omega (arith, long, c.requires.at) in
    let within : at / 4 < length groups = omega (arith, c.reach.ensures.there.there) in
    let alike = cells_alike groups before fields.count c.reach.ensures.there.same in
    let is : group ≡ get_or groups (at / 4) no_group =
    c.index_mut-group.ensures.value ∙ get_or_default groups (at / 4) group no_group within in
    let holders : length group.holders ≡ 4 = search rules in
    let flags : length group.shut ≡ 4 = search rules in
    let next : CellGroup =
    record {
      holders = set group.holders (at % 4) c.unwrap_or.result;
      shut = set group.shut (at % 4) c.args.cell.shut;
    } in
    let name =
    ap holder_of c.unwrap_or.ensures ∙ holder_again c.args.cell.holder c.requires.named in
    let here : cell_in next (at % 4) ≡ c.args.cell =
    put_here group.holders group.shut (at % 4) c.unwrap_or.result c.args.cell.shut
    (omega (arith, holders)) (omega (arith, flags))
    ∙ ap (λ holder. record { holder = holder; shut = c.args.cell.shut }) name in
    cells_put groups fields.count at next c.args.cell below within here
    (λ place other.
    put_others group.holders group.shut (at % 4) c.unwrap_or.result c.args.cell.shut place other
    ∙ ap (λ g. cell_in g place) is)
    ∙ ap (λ cells. set cells at c.args.cell) (alike ∙ c.self.view_is)
