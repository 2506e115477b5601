use Rattle.std.proofs.Common.{◌∙◌}
use Rattle.bl_session.proofs.attempt_lemmas.CursorLemmas.{first_from}
use Rattle.bl_session.proofs.attempt.cursor.first_missing.Goals as goal

pub missing_from-requires : goal.missing_from-requires
missing_from-requires g c = c.requires.countable

pub returns : goal.returns
returns g c = record {
  first = λ bytes.
      c.missing_from.ensures.first bytes
      ∙ first_from c.args.attempt c.args.cursor.file c.args.cursor.piece bytes c.args.stage.now
      c.requires.below;
  missing = c.missing_from.ensures.missing;
}
