use Rattle.std.proofs.Common.{arith, inl, inr}
use Rattle.std.proofs.lemmas.Result.{err_from_is_err_and}
use Rattle.bl_map.proofs.RunsLemmas.{pool_in_runs, firmware_in_runs}
use Rattle.bl_map.proofs.machine.Machine.with_firmware.Goals as goal

pub returns-in_err-check_parts-clause-first_fault : goal.returns-in_err-check_parts-clause-first_fault
returns-in_err-check_parts-clause-first_fault g c =
    let p = err_from_is_err_and c.from_residual.result c.from_residual.ensures.1 in
    rw (p.1, p.2) (inl c.in_err-check_parts.ensures.first_fault)

pub returns-in-Some-clause-first_fault : goal.returns-in-Some-clause-first_fault
returns-in-Some-clause-first_fault g c =
    inr (c.in_ok-check_parts.ensures.accepted, c.in-Some.ensures)

pub returns-in_err-runs-clause-first_fault : goal.returns-in_err-runs-clause-first_fault
returns-in_err-runs-clause-first_fault g c =
    let from = c.from_residual-in_err-runs in
    let p = err_from_is_err_and from.result from.ensures.1 in
    rw (p.1, p.2) (inl tt)

pub returns-in_err-copy-clause-first_fault : goal.returns-in_err-copy-clause-first_fault
returns-in_err-copy-clause-first_fault g c =
    let from = c.from_residual-in_err-copy in
    let p = err_from_is_err_and from.result from.ensures.1 in
    rw (p.1, p.2) (inl tt)

pub invariant_of-result : goal.invariant_of-result
invariant_of-result g c =
    let accepted = c.in_ok-check_parts.ensures.accepted in
    let normal = c.in_ok-runs.ensures in
    let copy = c.in_ok-copy.ensures in
    record {
      size = accepted.size_is;
      runs = normal.normal.runs_are;
      few = omega (arith, normal.few, accepted.few);
      pool = pool_in_runs _ _ normal.normal _ _ accepted.pool_is;
      firmware = rw copy.copy (firmware_in_runs _ _ normal.normal _ _ c.in_default.ensures);
      fits = rw copy.copy copy.fits;
    }
