use Rattle.std.proofs.Common.{◌≡◌, Err, Option, option_map, subst, sym, refl, ◌∙◌}
use Rattle.std.specs.Option.{MatchOption}
use Rattle.bl_digest.specs.PlanInSteps.{DigestingFacts}
use Rattle.c_abi.specs.DigestTold.{DigestsTelling, TellsFed}
use Rattle.c_handle.specs.HandleTold.{progress_status}
use Rattle.c_handle.specs.declared.handle_fault.HandleFault.TheVariants.{NoSession}
use Rattle.bootcore_c.proofs.digests.bootcore_digest_told_arrays.Goals as goal
use Rattle.bootcore_c.proofs.digests.bootcore_digest_told_arrays.Goals.{in-Some, in-None}

pub returns-clause-told : goal.returns-clause-told
returns-clause-told c =
    let before : DigestsTelling =
    record { digests = c.args.told.now; parts = c.args.parts.now } in
    let after : DigestsTelling =
    record { digests = c.match-look.told; parts = c.match-look.parts } in
    let Told : Option DigestingFacts → Type 0 =
    λ o. MatchOption o ((c.match-look.status ≡ progress_status (Err NoSession)) × (after ≡ before))
    (λ kept. TellsFed kept c.match-look.status before after) in
    subst Told c.lend-lent.ensures.kept
    (subst Told c.look.ensures
    (elim c.match-look.branch [
      | in-Some w ↦
          subst (λ r. Told (option_map (λ digest. digest.now) r)) (sym w.in-Some.is)
          (subst (λ status. TellsFed w.in-Some.kept.now status before after) (sym w.status-is)
          (subst
          (λ told. TellsFed w.in-Some.kept.now w.fed_digests_told-status.result before
          (record { digests = told; parts = c.match-look.parts })) (sym w.told-is)
          (subst
          (λ parts. TellsFed w.in-Some.kept.now w.fed_digests_told-status.result before
          (record { digests = w.fed_digests_told-status.new.told; parts = parts })) (sym w.parts-is)
          w.fed_digests_told-status.ensures)))
      | in-None w ↦
          subst (λ r. Told (option_map (λ digest. digest.now) r)) (sym w.in-None.is) (
            w.status-is ∙ w.status_of-status.ensures,
            subst
                (λ told. ◌≡◌ {A = DigestsTelling} after (record { digests = told; parts = c.args.parts.now }))
                w.told-is
                (subst
                (λ parts. ◌≡◌ {A = DigestsTelling} after
                (record { digests = c.match-look.told; parts = parts })) w.parts-is refl),
          )
    ]))
