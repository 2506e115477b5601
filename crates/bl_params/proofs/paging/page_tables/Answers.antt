use Rattle.std.proofs.Common.{arith}
use Rattle.bl_params.proofs.PagingLemmas.{put_step, frame_is}
use Rattle.bl_params.proofs.paging.page_tables.Goals as goal

pub loop-index-init : goal.loop-index-init
loop-index-init c = record { long = c.told-out; told = λ k below. absurd (omega arith) }

pub loop-index-preserved : goal.loop-index-preserved
loop-index-preserved c = record {
  long = c.write_u64.array_long;
  told = put_step c.args.base c.args.frame c.loop-index.index c.paging_word.result
      c.loop-index.out c.write_u64.new.out c.paging_word.ensures c.loop-index-test.true
      c.loop-index.invariant.told c.write_u64.ensures;
}

pub returns : goal.returns
returns c =
    frame_is c.args.base c.args.frame c.loop-index.out c.loop-index.invariant.long
    (λ k below. c.loop-index.invariant.told k (omega arith))
