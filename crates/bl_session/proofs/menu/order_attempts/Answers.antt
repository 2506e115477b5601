use Rattle.std.proofs.Common.{◌∙◌, ◌+◌, drop}
use Rattle.std.proofs.lemmas.List.{drop_more}
use Rattle.bl_session.proofs.menu_lemmas.OnceLemmas.{once_more}
use Rattle.bl_session.proofs.menu.order_attempts.Goals as goal

pub loop-index-preserved : goal.loop-index-preserved
loop-index-preserved g c =
    let i = c.loop-index.index-index in
    let xs = c.args.fallbacks.now in
    rw c.in_ok-add_once.ensures
    (once_more c.loop-index.attempts.items (drop i xs) (drop (i + 1) xs)
    _ (drop_more xs i _ c.loop-index-test.true) ∙ c.loop-index.invariant)
