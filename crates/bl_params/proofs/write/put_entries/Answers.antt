use Rattle.std.proofs.Common.{◌∙◌, ℕ, List, arith, refl, sym, ap, slice_index}
use Rattle.bl_params.specs.FieldBytes.{byte_over}
use Rattle.bl_params.proofs.OverLemmas.{over_same, over_more, over_none}
use Rattle.bl_params.proofs.EntryLemmas.{entries_more, entries_upto}
use Rattle.bl_params.proofs.write.put_entries.Goals as goal

pub loop-run-init : goal.loop-run-init
loop-run-init c = record { at = refl; told = λ k. sym (over_none _ _ k) }

pub loop-run-preserved : goal.loop-run-preserved
loop-run-preserved c =
    let upto = entries_upto c.args.runs.now c.loop-run.run-index (omega arith) in
    record {
      at = omega arith;
      told = λ k.
          c.put_entry.ensures k ∙ over_same _ _ _ _ c.loop-run.invariant.told k
          ∙ over_more _ _ _ _ _ k (omega arith)
          ∙ ap (λ (x : List ℕ). byte_over 0x2D0 x (λ j. slice_index c.args.out.now j) k)
          (sym (entries_more c.args.runs.now c.loop-run.run-index _ c.loop-run-test.true));
    }
