use Rattle.std.proofs.Common.{◌≡◌, ◌∙◌, List, Option, ap, sym, None, Some}
use Rattle.std.proofs.lemmas.List.{drop_more, at_drop_all}
use Rattle.std.proofs.lemmas.Result.{err_from_is_err_and}
use Rattle.bl_load.specs.EntryValue.{line_fault, lines_fault}
use Rattle.bl_load.specs.declared.entry.Module.{Module}
use Rattle.bl_load.specs.declared.refusal.Refusal.{Refusal}
use Rattle.bl_load.specs.internal.Multiboot2Entries.{lines_of_modules}
use Rattle.bl_load.proofs.line_checks.check_module_lines.Goals as goal

pub loop-module-preserved : goal.loop-module-preserved
loop-module-preserved g c =
    let line = c.module-item.result in
    let left =
    rw (
      drop_more c.args.modules.now c.loop-module.module-index line c.loop-module-test.true,
      ← c.module-item.is,
    ) at
    c.loop-module.invariant in
    let sound : line_fault line.line ≡ None =
    ap line_fault (sym c.as_slice.ensures) ∙ c.in_ok-check_line.ensures in rw sound at left

pub returns-in_err-check_line : goal.returns-in_err-check_line
returns-in_err-check_line g c =
    let line = c.module-item.result in
    let p = err_from_is_err_and c.from_residual.result c.from_residual.ensures.1 in
    let left =
    rw (
      drop_more c.args.modules.now c.loop-module.module-index line c.loop-module-test.true,
      ← c.module-item.is,
    ) at
    c.loop-module.invariant in
    let fault : line_fault line.line ≡ Some c.in_err-check_line.field-0.0 =
    ap line_fault (sym c.as_slice.ensures) ∙ c.in_err-check_line.ensures in
    let told = rw fault at left in rw p.1 (sym told ∙ ap Some (sym p.2))

pub returns : goal.returns
returns g c =
    let fault : List (Module g.row.A.Denot) → Option Refusal =
    λ modules. lines_fault (lines_of_modules modules) in
    sym c.loop-module.invariant
    ∙ at_drop_all fault c.args.modules.now c.loop-module.module-index c.loop-module-test.false
