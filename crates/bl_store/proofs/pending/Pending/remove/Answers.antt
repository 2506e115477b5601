use Rattle.std.proofs.Common.{length, sym, ap, ◌∙◌, arith}
use Rattle.std.proofs.lemmas.Bool.{false≢true}
use Rattle.bl_store.proofs.PendingLemmas.{left_out, last_of_run}
use Rattle.bl_store.proofs.pending.Pending.remove.Goals as goal

pub returns-in_err-leave_out-clause-last : goal.returns-in_err-leave_out-clause-last
returns-in_err-leave_out-clause-last g c =
    λ last.
    absurd
    (false≢true
    (c.in_err-leave_out.ensures.last
    (last_of_run c.self.inside.runs.items c.deref.result.now c.args.place c.in-Some.index
    c.in-Some.at c.deref.ensures.value c.in-Some.ensures.some
    (last ∙ ap length (sym c.self.view_is)))))

pub overflow_sub-self : goal.overflow_sub-self
overflow_sub-self g c =
    let left =
    left_out c.self.inside.runs.items c.deref.result.now c.args.place c.in-Some.index
    c.in-Some.at _ c.deref.ensures.value c.in-Some.ensures.some c.in_ok-leave_out.ensures.ok in
    omega (arith, left.fewer, c.self.invariant)

pub invariant_of-self-2 : goal.invariant_of-self-2
invariant_of-self-2 g c =
    let left =
    left_out c.self.inside.runs.items c.deref.result.now c.args.place c.in-Some.index
    c.in-Some.at _ c.deref.ensures.value c.in-Some.ensures.some c.in_ok-leave_out.ensures.ok in
    omega (arith, left.fewer, c.self.invariant)

pub returns-clause-ok : goal.returns-clause-ok
returns-clause-ok g c =
    rw (← c.self.view_is)
    (left_out c.self.inside.runs.items c.deref.result.now c.args.place c.in-Some.index
    c.in-Some.at _ c.deref.ensures.value c.in-Some.ensures.some
    c.in_ok-leave_out.ensures.ok).list
