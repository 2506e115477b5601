use Rattle.std.proofs.Common.{[], sym, ◌∙◌}
use Rattle.bl_session.proofs.attempt_lemmas.CursorLemmas.{none_below_first}
use Rattle.bl_session.proofs.attempt.cursor.advanced.Goals as goal

pub returns-in-Some : goal.returns-in-Some
returns-in-Some g c =
    none_below_first 0 [] c.args.stage.now c.in-Some.found
    (sym (c.first_missing.ensures.first []) ∙ c.in-Some.is)
