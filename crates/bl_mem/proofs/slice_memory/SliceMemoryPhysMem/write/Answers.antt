use Rattle.std.proofs.Common.{◌≤◌, arith, length, subst, sym}
use Rattle.bl_mem.proofs.BaseLemmas.{length-from, write_above, length-above}
use Rattle.bl_mem.proofs.slice_memory.SliceMemoryPhysMem.write.Goals as goal

pub returns-clause-after : goal.returns-clause-after
returns-clause-after c =
    let this = c.args.self.now in
    let size = length-from this.base this.held.now in
    let some : 1 ≤ length c.args.part.now =
    grind (arith, c.is_empty.ensures, c.if-is_empty.false) in
    let above = c.requires.room c.args.at (omega arith) (omega arith) in
    rw (c.write_slice.ensures.base, c.write_slice.ensures.after, c.offset.ensures)
    (write_above this.base this.held.now c.args.at c.args.part.now above (omega arith))

pub returns-clause-kept : goal.returns-clause-kept
returns-clause-kept c =
    let this = c.args.self.now in
    let size = length-from this.base this.held.now in
    let some : 1 ≤ length c.args.part.now =
    grind (arith, c.is_empty.ensures, c.if-is_empty.false) in
    let above = c.requires.room c.args.at (omega arith) (omega arith) in
    record {
      lender = c.write_slice.ensures.lender;
      size = rw (c.write_slice.ensures.base, c.write_slice.ensures.after, c.offset.ensures)
          (length-above this.base this.held.now c.args.at c.args.part.now above (omega arith));
      room = λ a had. subst (λ base. base ≤ a) (sym c.write_slice.ensures.base) had;
    }
