use Rattle.std.proofs.Common.{arith}
use Rattle.std.proofs.lemmas.Grind.{common_steps}
use Rattle.std.proofs.lemmas.List.{at_drop_all, append-nil}
use Rattle.bl_load.specs.internal.Multiboot2Entries.{lines_of_modules}
use Rattle.bl_load.proofs.multiboot2.rows.push_module_rows.Goals as goal

pub returns : goal.returns
returns g c =
    let all = at_drop_all lines_of_modules c.args.modules.now c.loop-index.index
    (omega (arith, c.loop-index-test.false)) in
    rw (all, append-nil) at c.loop-index.invariant

pub offset_bounds-files-index : goal.offset_bounds-files-index
offset_bounds-files-index g c = grind (arith, common_steps)

pub loop-index-preserved : goal.loop-index-preserved
loop-index-preserved g c = grind (arith, common_steps)
