use Rattle.std.proofs.Common.{◌≡◌, ◌≤◌, ◌+◌, ◌-◌, ◌∙◌, ap, arith, slice_range, subst, sym}
use Rattle.bl_mem.specs.Memory.{memory_from}
use Rattle.bl_mem.proofs.BaseLemmas.{length-from, read_above, read_below, copied_above}
use Rattle.bl_mem.proofs.slice_memory.SliceMemoryPhysMem.copy.Goals as goal

pub returns-then-from-base : goal.returns-then-from-base
returns-then-from-base c =
    let this = c.args.self.now in
    let put = c.copy_slice.ensures in
    let size = length-from this.base this.held.now in
    let above = c.requires.room c.args.to (omega arith) (omega arith) in
    let copied =
    copied_above this.base this.held.now c.args.from c.args.to c.args.count _ (omega arith) above
    (omega arith)
    (read_above this.base this.held.now c.args.from c.args.count (omega arith) (omega arith)) in
    record {
      after = rw (put.base, put.after, c.offset.ensures, c.offset-target.ensures) copied.0;
      kept = record {
        lender = put.lender;
        size = rw (put.base, put.after, c.offset.ensures, c.offset-target.ensures) copied.1;
        room = λ a had. subst (λ base. base ≤ a) (sym put.base) had;
      };
    }

pub returns-else-from-base : goal.returns-else-from-base
returns-else-from-base c =
    let this = c.args.self.now in
    let from = c.args.from in
    let count = c.args.count in
    let low = c.min-zeros.result in
    let high = count - low in
    let put = c.copy_from_below.ensures in
    let size = length-from this.base this.held.now in
    let above = c.requires.room c.args.to (omega arith) (omega arith) in
    let all : count ≡ low + high = omega arith in
    let copied =
    copied_above this.base this.held.now from c.args.to count _ (omega arith) above (omega arith)
    (ap (λ end. slice_range (memory_from this.base this.held.now) from (from + end)) all
    ∙ read_below this.base this.held.now from low high (omega arith) (λ some. omega arith)
    (omega arith)) in
    record {
      after = rw (put.base, put.after, c.offset-target.ensures) copied.0;
      kept = record {
        lender = put.lender;
        size = rw (put.base, put.after, c.offset-target.ensures) copied.1;
        room = λ a had. subst (λ base. base ≤ a) (sym put.base) had;
      };
    }
