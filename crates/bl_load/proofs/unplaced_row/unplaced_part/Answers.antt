use Rattle.std.proofs.Common.{◌≡◌, [], All, List, subst, sym, ◌∙◌}
use Rattle.std.proofs.lemmas.Result.{IfOk-weaker}
use Rattle.bl_plan.specs.declared.part.Row.{Row}
use Rattle.bl_plan.specs.Placed.{IsWellFormedRow}
use Rattle.bl_load.specs.internal.Placing.{capped_rows_of}
use Rattle.bl_load.specs.internal.CheckedEntries.{value_of_files}
use Rattle.bl_load.specs.Unplaced.{IsUnplacedOf}
use Rattle.bl_load.proofs.ReadingLemmas.{told_are_rows}
use Rattle.bl_load.proofs.UnplacedLemmas.{as_unplaced_of}
use Rattle.bl_load.proofs.unplaced_row.unplaced_part.Goals as goal

pub first_unplaced-requires : goal.first_unplaced-requires
first_unplaced-requires g c =
    let facts = c.args.entry.now.machine.now in
    let reading = g.K.LoadableKernel.reading c.args.kernel.now in
    let value = value_of_files c.args.entry.now in
    let rows : c.as_slice.result.now ≡ capped_rows_of facts value reading =
    c.as_slice.ensures.value ∙ c.in_ok-rows.ensures in
    subst (λ (rs : List Row). All IsWellFormedRow rs) (sym rows)
    (told_are_rows facts value reading _ c.requires.read c.requires.files)

pub returns-clause-which : goal.returns-clause-which
returns-clause-which g c =
    let facts = c.args.entry.now.machine.now in
    let reading = g.K.LoadableKernel.reading c.args.kernel.now in
    let value = value_of_files c.args.entry.now in
    let rows : c.as_slice.result.now ≡ capped_rows_of facts value reading =
    c.as_slice.ensures.value ∙ c.in_ok-rows.ensures in
    IfOk-weaker c.first_unplaced.result
    _ _ (λ which h.
    as_unplaced_of facts value reading which
    (subst (λ (rs : List Row). IsUnplacedOf facts [] rs which) rows h))
    c.first_unplaced.ensures.which
