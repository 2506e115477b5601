use Rattle.std.proofs.Common.{◌∙◌, ap, not}
use Rattle.std.specs.List.{count_by}
use Rattle.bl_stage.proofs.PieceLemmas.{complete_iff}
use Rattle.bl_stage.proofs.stage.Stage.complete.Goals as goal

pub returns : goal.returns
returns g c = record {
  exact =
      complete_iff c.self.inside.waiting c.args.self.now.came
      (c.self.invariant.waits ∙ ap (λ s. count_by not s.came) c.self.view_is);
}
