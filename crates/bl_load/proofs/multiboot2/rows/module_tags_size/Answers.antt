use Rattle.std.proofs.Common.{◌+◌, ℕ, List, arith, sym, ◌∙◌, add-zero}
use Rattle.std.proofs.lemmas.List.{drop_more, at_drop_all}
use Rattle.bl_load.specs.declared.entry.Module.{Module}
use Rattle.bl_load.specs.internal.Multiboot2Entries.{lines_of_modules}
use Rattle.bl_load.specs.internal.Placing.{module_tags_size}
use Rattle.bl_load.proofs.multiboot2.rows.module_tags_size.Goals as goal

pub module_size-size-requires : goal.module_size-size-requires
module_size-size-requires g c =
    let item = c.module-item.result in
    let short = rw (← c.module-item.is) at
    (c.requires.short c.loop-module.module-index item c.loop-module-test.true) in
    omega (arith, short)

pub overflow_add-size : goal.overflow_add-size
overflow_add-size g c =
    let item = c.module-item.result in
    let short = rw (← c.module-item.is) at
    (c.requires.short c.loop-module.module-index item c.loop-module-test.true) in
    omega (arith, short)

pub loop-module-preserved : goal.loop-module-preserved
loop-module-preserved g c =
    let item = c.module-item.result in
    let k = c.loop-module.module-index in
    let here = c.loop-module-test.true in
    let short = rw (← c.module-item.is) at (c.requires.short k item here) in
    let sum = rw (drop_more c.args.modules.now k item here, ← c.module-item.is) at
    c.loop-module.invariant.sum in
    record { sum = omega (arith, sum); small = omega (arith, short) }

pub returns-clause-value : goal.returns-clause-value
returns-clause-value g c =
    let size = c.loop-module.size in
    let left : List (Module g.row.A.Denot) → ℕ =
    λ modules. size + module_tags_size (lines_of_modules modules) in
    sym (add-zero size)
    ∙ sym (at_drop_all left c.args.modules.now c.loop-module.module-index c.loop-module-test.false)
    ∙ c.loop-module.invariant.sum
