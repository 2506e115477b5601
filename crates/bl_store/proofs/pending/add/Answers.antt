use Rattle.std.proofs.Common.{◌≡◌, ◌+◌, ◌-◌, ◌∷◌, [], length, arith}
use Rattle.bl_store.proofs.PendingLemmas.{last_longer}
use Rattle.bl_store.proofs.pending.add.Goals as goal

pub returns-then-extend-clause-ok : goal.returns-then-extend-clause-ok
returns-then-extend-clause-ok g c =
    let runs = c.args.runs.now in
    let last : c.len-count.result - 1 + 1 ≡ length runs.items =
    omega (arith, c.len-count.ensures, runs.ok) in
    last_longer runs.items (c.len-count.result - 1) c.index_mut.result.now c.extend.new.self
    (c.args.submission ∷ []) last c.index_mut.ensures.value c.if-extend.ensures.after
