use Rattle.std.proofs.Common.{◌<◌, length, arith, refl}
use Rattle.std.proofs.lemmas.Result.{err_from_is_err_and}
use Rattle.bl_store.proofs.PendingLemmas.{first_left_out, last_left_out}
use Rattle.bl_store.proofs.PendingLemmas.{inner_left_out}
use Rattle.bl_store.proofs.pending.leave_out.Goals as goal

pub returns-then-count-eq1-clause-err : goal.returns-then-count-eq1-clause-err
returns-then-count-eq1-clause-err g c = tt

pub returns-then-count-eq1-clause-first : goal.returns-then-count-eq1-clause-first
returns-then-count-eq1-clause-first g c = λ is. refl

pub returns-then-count-eq1-clause-last : goal.returns-then-count-eq1-clause-last
returns-then-count-eq1-clause-last g c = λ is. refl

pub returns-then-at-eq0-clause-err : goal.returns-then-at-eq0-clause-err
returns-then-at-eq0-clause-err g c = tt

pub returns-then-at-eq0-clause-first : goal.returns-then-at-eq0-clause-first
returns-then-at-eq0-clause-first g c = λ is. refl

pub returns-then-at-eq0-clause-last : goal.returns-then-at-eq0-clause-last
returns-then-at-eq0-clause-last g c = λ is. refl

pub returns-then-at-count-clause-err : goal.returns-then-at-count-clause-err
returns-then-at-count-clause-err g c = tt

pub returns-then-at-count-clause-first : goal.returns-then-at-count-clause-first
returns-then-at-count-clause-first g c = λ is. refl

pub returns-then-at-count-clause-last : goal.returns-then-at-count-clause-last
returns-then-at-count-clause-last g c = λ is. refl

pub returns-clause-err : goal.returns-clause-err
returns-clause-err g c = tt

pub returns-clause-first : goal.returns-clause-first
returns-clause-first g c = λ is. refl

pub returns-clause-last : goal.returns-clause-last
returns-clause-last g c = λ is. refl

pub returns-in_err-insert-clause-ok : goal.returns-in_err-insert-clause-ok
returns-in_err-insert-clause-ok g c =
    let p = err_from_is_err_and c.from_residual.result c.from_residual.ensures.1 in
    rw p.1 tt

pub returns-then-at-eq0-clause-ok : goal.returns-then-at-eq0-clause-ok
returns-then-at-eq0-clause-ok g c =
    let runs = c.args.runs.now in
    let within : c.args.index < length runs.items = omega (arith, c.requires.run, runs.ok) in
    first_left_out runs.items c.args.index c.args.at c.index-then-at-eq0.result.now
    c.from.result within c.index-then-at-eq0.ensures c.if-at-eq0.true c.from.ensures

pub returns-then-at-count-clause-ok : goal.returns-then-at-count-clause-ok
returns-then-at-count-clause-ok g c =
    let runs = c.args.runs.now in
    let within : c.args.index < length runs.items = omega (arith, c.requires.run, runs.ok) in
    last_left_out runs.items c.args.index c.args.at c.len-count.result c.index.result.now
    c.index_mut-then-at-count.result.now c.truncate.new.self within c.if-at-count.true
    c.len-count.ensures c.index.ensures c.index_mut-then-at-count.ensures.value
    c.truncate.ensures

pub returns-clause-ok : goal.returns-clause-ok
returns-clause-ok g c =
    let runs = c.args.runs.now in
    let within : c.args.index < length runs.items = omega (arith, c.requires.run, runs.ok) in
    rw (c.in_ok-insert.ensures.items)
    (inner_left_out runs.items c.args.index c.args.at c.index-2.result.now c.from-rest.result
    c.index_mut-2.result.now c.truncate-2.new.self within c.index-2.ensures c.from-rest.ensures
    (rw c.in_ok-insert.ensures.items at c.index_mut-2.ensures.value) c.truncate-2.ensures)

pub returns-in_err-insert-clause-first : goal.returns-in_err-insert-clause-first
returns-in_err-insert-clause-first g c = λ is. absurd (omega (arith, is, c.if-at-eq0.false))
