use Rattle.std.proofs.Common.{◌-◌, ◌∙◌, arith}
use Rattle.bl_mem.proofs.BaseLemmas.{zeros_first}
use Rattle.bl_mem.proofs.slice_memory.SliceMemory.copy_from_below.Goals as goal

pub returns : goal.returns
returns c =
    let held = c.args.self.now.held.now in
    let zeros = c.args.zeros in
    let high = c.args.count - zeros in
    record {
      after =
          rw (c.clear.ensures.after, c.copy_slice.ensures.after)
          (zeros_first held c.args.to zeros high (omega arith));
      base = c.clear.ensures.base ∙ c.copy_slice.ensures.base;
      lender = c.clear.ensures.lender ∙ c.copy_slice.ensures.lender;
    }
