use Rattle.std.proofs.Common.{◌+◌, ◌-◌, ◌∙◌, ap, arith, length, slice_range, sym}
use Rattle.bl_mem.specs.Memory.{memory_from}
use Rattle.bl_mem.proofs.BaseLemmas.{length-from, read_below}
use Rattle.std.proofs.lemmas.Grind.{common_steps}
use Rattle.bl_mem.proofs.slice_memory.SliceMemoryPhysMem.read.Goals as goal

pub returns-else-at-base : goal.returns-else-at-base
returns-else-at-base c =
    let this = c.args.self.now in
    let at = c.args.at in
    let count = length c.args.out.now in
    let zeros = c.min-zeros.result in
    let size = length-from this.base this.held.now in
    let rest = count - zeros in
    c.read_from_below.ensures
    ∙ sym (read_below this.base this.held.now at zeros rest (omega arith) (λ some. omega arith)
    (omega arith))
    ∙ ap (λ end. slice_range (memory_from this.base this.held.now) at (at + end)) (omega arith)

pub slice_bounds-held-count : goal.slice_bounds-held-count
slice_bounds-held-count c = grind (arith, common_steps)

pub slice_bounds-held-start : goal.slice_bounds-held-start
slice_bounds-held-start c = grind (arith, common_steps)

pub slice_bounds-copy_from_slice-end : goal.slice_bounds-copy_from_slice-end
slice_bounds-copy_from_slice-end c = grind (arith, common_steps)

pub copy_from_slice-requires : goal.copy_from_slice-requires
copy_from_slice-requires c = grind (arith, common_steps)

pub read_from_below-requires-clause-inside : goal.read_from_below-requires-clause-inside
read_from_below-requires-clause-inside c = grind (arith, common_steps)
