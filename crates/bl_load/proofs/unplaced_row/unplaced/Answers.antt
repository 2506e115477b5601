use Rattle.std.proofs.Common.{map, inl}
use Rattle.std.proofs.lemmas.Result.{IfOk-weaker, IfErr-weaker, err_from_is_err_and}
use Rattle.bl_load.specs.EntryValue.{value_of}
use Rattle.bl_load.specs.internal.EntryKernels.{reading_by}
use Rattle.bl_load.specs.Unplaced.{IsUnplaced, IsFaultBeforePlacing}
use Rattle.bl_load.specs.internal.CheckedEntries.{value_of_files}
use Rattle.bl_load.proofs.PrepareLemmas.{as_value}
use Rattle.bl_load.proofs.UnplacedLemmas.{early_fault, reading_no_memory, unplaced_read}
use Rattle.bl_load.proofs.unplaced_row.unplaced.Goals as goal

pub returns-clause-which : goal.returns-clause-which
returns-clause-which g c =
    let texts = map g.V.ByteView.bytes c.args.files.now in
    let entry = c.in_ok-checked.checked in
    let is = c.in_ok-checked.ensures.entry in
    let read = c.in_ok-kernel.ensures.read in
    IfOk-weaker c.unplaced_part.result
    _ _ (λ which h.
    as_value c.args.machine.now texts (value_of texts c.args.entry.now) entry is
    (λ f v. IsUnplaced f v which)
    (unplaced_read entry.machine.now (value_of_files entry) is.lines
    (reading_by c.in_ok-kernel.kernel) which read.read h)) c.unplaced_part.ensures.which

pub returns-clause-fault : goal.returns-clause-fault
returns-clause-fault g c =
    let texts = map g.V.ByteView.bytes c.args.files.now in
    IfErr-weaker c.unplaced_part.result
    _ _ (λ fault h.
    reading_no_memory c.args.machine.now (value_of texts c.args.entry.now) fault h)
    c.unplaced_part.ensures.fault

pub returns-in_err-checked-clause-which : goal.returns-in_err-checked-clause-which
returns-in_err-checked-clause-which g c =
    let p = err_from_is_err_and c.from_residual.result c.from_residual.ensures.1 in
    rw p.1 tt

pub returns-in_err-kernel-clause-which : goal.returns-in_err-kernel-clause-which
returns-in_err-kernel-clause-which g c =
    let p =
    err_from_is_err_and c.from_residual-in_err-kernel.result
    c.from_residual-in_err-kernel.ensures.1 in
    rw p.1 tt

pub returns-in_err-checked-clause-fault : goal.returns-in_err-checked-clause-fault
returns-in_err-checked-clause-fault g c =
    let p = err_from_is_err_and c.from_residual.result c.from_residual.ensures.1 in
    rw (p.1, p.2) (inl c.in_err-checked.ensures.fault)

pub returns-in_err-kernel-clause-fault : goal.returns-in_err-kernel-clause-fault
returns-in_err-kernel-clause-fault g c =
    let p =
    err_from_is_err_and c.from_residual-in_err-kernel.result
    c.from_residual-in_err-kernel.ensures.1 in
    let texts = map g.V.ByteView.bytes c.args.files.now in
    let entry = c.in_ok-checked.checked in
    let is = c.in_ok-checked.ensures.entry in
    let fault = c.in_err-kernel.field-0.0 in
    rw (p.1, p.2)
    (as_value c.args.machine.now texts (value_of texts c.args.entry.now) entry is
    (λ f v. IsFaultBeforePlacing f v fault)
    (early_fault entry.machine.now (value_of_files entry) is.lines fault
    c.in_err-kernel.ensures.fault))
