use Rattle.std.proofs.lemmas.Grind.{common_steps}
use Rattle.bl_session.proofs.menu_lemmas.MenuLemmas.{few_files}
use Rattle.std.proofs.Common.{arith, ap, rules, ◌∙◌}
use Rattle.bl_stage.specs.Staged.{Staging}
use Rattle.bl_session.specs.internal.session.KeptPhases.{sizes_in}
use Rattle.bl_session.proofs.attempt_lemmas.SizeLemmas.{stage_small}
use Rattle.bl_session.proofs.attempt.stage_beginning.begin_stage.Goals as goal

pub returns-in-Ok-clause-begun : goal.returns-in-Ok-clause-begun
returns-in-Ok-clause-begun g c =
    let known = sizes_in c.args.sizes.now c.deref.result.now in
    let told = c.in_ok-lengths.ensures.ok in
    record {
      fresh = search rules;
      fits = search rules;
      staged = search rules;
      small =
          stage_small known c.in-Ok.stage told.taken
          (ap (λ (s : Staging). s.sizes) c.in-Ok.ensures.ok.1 ∙ c.deref-2.ensures.value
          ∙ told.known);
    }

pub lengths_of-requires : goal.lengths_of-requires
lengths_of-requires g c =
    let few = few_files c.args.entry.now c.requires in grind (arith, common_steps, few)

pub returns-clause-fault : goal.returns-clause-fault
returns-clause-fault g c = search rules
