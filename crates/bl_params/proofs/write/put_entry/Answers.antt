use Rattle.std.proofs.Common.{◌∙◌, arith}
use Rattle.bl_params.proofs.OverLemmas.{over_same, over_three}
use Rattle.bl_params.proofs.EntryLemmas.{length-number_bytes}
use Rattle.bl_params.proofs.write.put_entry.Goals as goal

pub returns : goal.returns
returns c =
    let base = length-number_bytes 8 c.args.run.now.base in
    let size = length-number_bytes 8 c.args.run.now.length in
    λ k.
    rw (c.number.ensures) at (c.write_u32.ensures k)
    ∙ over_same _ _ _ _ (λ k. c.write_u64-2.ensures k ∙ over_same _ _ _ _ c.write_u64.ensures k) k
    ∙ over_three _ _ _ _ _ _ _ k (omega arith) (omega arith)
