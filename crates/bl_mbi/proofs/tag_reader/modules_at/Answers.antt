use Rattle.std.proofs.Common.{◌∙◌, sym, arith}
use Rattle.std.proofs.lemmas.Grind.{common_steps}
use Rattle.std.proofs.lemmas.Result.{err_from_is_err_and}
use Rattle.bl_mbi.proofs.ModuleLemmas.{starts, ends, reads_on, fails}
use Rattle.bl_mbi.proofs.tag_reader.modules_at.Goals as goal

pub tags-init : goal.tags-init
tags-init g c = rw c.new-modules.ensures.items (starts _)

pub returns-in_err-module : goal.returns-in_err-module
returns-in_err-module g c =
    let p = err_from_is_err_and c.from_residual.result c.from_residual.ensures.1 in
    rw (p.1, p.2)
    (fails _ _ _ _ c.tags.invariant (sym c.is_next.ensures ∙ c.tags-test.true)
    c.in_err-module.ensures.read)

pub tags-preserved : goal.tags-preserved
tags-preserved g c =
    rw c.in_ok-push.ensures.items
    (reads_on _ _ _ _ _ c.tags.invariant (sym c.is_next.ensures ∙ c.tags-test.true)
    c.in_ok-module.ensures.read c.in_ok-module.ensures.shorter)

pub returns : goal.returns
returns g c = ends _ _ _ c.tags.invariant (sym c.is_next.ensures ∙ c.tags-test.false)

pub tags-smaller : goal.tags-smaller
tags-smaller g c = grind (arith, common_steps)
