use Rattle.std.proofs.Common.{refl}
use Rattle.std.proofs.lemmas.List.{take_all}
use Rattle.program_desc.specs.Views.{view}
use Rattle.program_boots.specs.explaining.Details.{HasDetail}
use Rattle.program_boots.proofs.explaining_lemmas.DetailLemmas.{one_more_told}
use Rattle.program_boots.proofs.described_lemmas.ValueLemmas.{all_more}
use Rattle.program_boots.proofs.explaining.refusal_details.find_details.Goals as goal

pub detail_at-requires : goal.detail_at-requires
detail_at-requires g c = c.requires c.loop-attempt.attempt-index _ c.loop-attempt-test.true

pub loop-attempt-preserved : goal.loop-attempt-preserved
loop-attempt-preserved g c =
    let told = c.loop-attempt.told.items in
    let boot = c.args.boot.now in (
      rw c.in_ok-push.ensures.items
          (one_more_told c.args.refused.now told c.loop-attempt.attempt-index _ _
          c.loop-attempt-test.true c.loop-attempt.invariant.0 refl),
      all_more (HasDetail boot.machine.now (view boot.description.now).entries c.args.sought.now)
          told _ _ c.in_ok-push.ensures.items c.loop-attempt.invariant.1
          c.in_ok-detail.ensures,
    )

pub returns : goal.returns
returns g c = record {
  each =
      rw (take_all c.loop-attempt.attempt-index c.args.refused.now c.loop-attempt-test.false)
      at c.loop-attempt.invariant.0;
  details = c.loop-attempt.invariant.1;
}
