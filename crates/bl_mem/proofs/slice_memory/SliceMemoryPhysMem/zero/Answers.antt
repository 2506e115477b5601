use Rattle.std.proofs.Common.{◌≡◌, ◌≤◌, ℕ, ◌-◌, arith, length, replicate, subst, sym}
use Rattle.std.proofs.lemmas.List.{length-replicate}
use Rattle.bl_mem.proofs.BaseLemmas.{length-from, write_above, length-above}
use Rattle.bl_mem.proofs.slice_memory.SliceMemoryPhysMem.zero.Goals as goal

pub returns-clause-after : goal.returns-clause-after
returns-clause-after c =
    let this = c.args.self.now in
    let start = c.args.range.start in
    let count = c.args.range.end - start in
    let len : length (replicate {A = ℕ} count 0) ≡ count = length-replicate count 0 in
    let size = length-from this.base this.held.now in
    let above = c.requires.room start (omega arith) (omega arith) in
    rw (c.clear.ensures.base, c.clear.ensures.after, c.offset.ensures)
    (write_above this.base this.held.now start (replicate count 0) above (omega arith))

pub returns-clause-kept : goal.returns-clause-kept
returns-clause-kept c =
    let this = c.args.self.now in
    let start = c.args.range.start in
    let count = c.args.range.end - start in
    let len : length (replicate {A = ℕ} count 0) ≡ count = length-replicate count 0 in
    let size = length-from this.base this.held.now in
    let above = c.requires.room start (omega arith) (omega arith) in
    record {
      lender = c.clear.ensures.lender;
      size = rw (c.clear.ensures.base, c.clear.ensures.after, c.offset.ensures)
          (length-above this.base this.held.now start (replicate count 0) above (omega arith));
      room = λ a had. subst (λ base. base ≤ a) (sym c.clear.ensures.base) had;
    }
