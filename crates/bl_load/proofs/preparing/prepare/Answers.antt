use Rattle.std.proofs.Common.{map, inl}
use Rattle.std.proofs.lemmas.Result.{IfOk-weaker, IfErr-weaker, err_from_is_err_and}
use Rattle.bl_load.specs.EntryValue.{value_of}
use Rattle.bl_load.specs.internal.EntryKernels.{reading_by}
use Rattle.bl_load.proofs.PrepareLemmas.{planned, planned_fault, kernel_fault}
use Rattle.bl_load.proofs.preparing.prepare.Goals as goal

pub returns-clause-handover : goal.returns-clause-handover
returns-clause-handover g c =
    let texts = map g.V.ByteView.bytes c.args.files.now in
    let kernel = c.in_ok-kernel.kernel in
    IfOk-weaker c.plan_parts.result
    _ _ (λ plan h.
    (planned c.args.machine.now texts (value_of texts c.args.entry.now) c.in_ok-checked.checked
    c.in_ok-checked.ensures.entry (reading_by kernel) plan c.in_ok-kernel.ensures.read h).handover)
    c.plan_parts.ensures.ok

pub returns-clause-loadable : goal.returns-clause-loadable
returns-clause-loadable g c =
    let texts = map g.V.ByteView.bytes c.args.files.now in
    let kernel = c.in_ok-kernel.kernel in
    IfOk-weaker c.plan_parts.result
    _ _ (λ plan h.
    (planned c.args.machine.now texts (value_of texts c.args.entry.now) c.in_ok-checked.checked
    c.in_ok-checked.ensures.entry (reading_by kernel) plan c.in_ok-kernel.ensures.read h).loadable)
    c.plan_parts.ensures.ok

pub returns-clause-lean : goal.returns-clause-lean
returns-clause-lean g c =
    let texts = map g.V.ByteView.bytes c.args.files.now in
    let kernel = c.in_ok-kernel.kernel in
    IfOk-weaker c.plan_parts.result
    _ _ (λ plan h.
    (planned c.args.machine.now texts (value_of texts c.args.entry.now) c.in_ok-checked.checked
    c.in_ok-checked.ensures.entry (reading_by kernel) plan c.in_ok-kernel.ensures.read h).lean)
    c.plan_parts.ensures.ok

pub returns-clause-origins : goal.returns-clause-origins
returns-clause-origins g c =
    let texts = map g.V.ByteView.bytes c.args.files.now in
    let kernel = c.in_ok-kernel.kernel in
    IfOk-weaker c.plan_parts.result
    _ _ (λ plan h.
    (planned c.args.machine.now texts (value_of texts c.args.entry.now) c.in_ok-checked.checked
    c.in_ok-checked.ensures.entry (reading_by kernel) plan c.in_ok-kernel.ensures.read h).origins)
    c.plan_parts.ensures.ok

pub returns-clause-fault : goal.returns-clause-fault
returns-clause-fault g c =
    let texts = map g.V.ByteView.bytes c.args.files.now in
    let kernel = c.in_ok-kernel.kernel in
    IfErr-weaker c.plan_parts.result
    _ _ (λ fault h.
    planned_fault c.args.machine.now texts (value_of texts c.args.entry.now) c.in_ok-checked.checked
    c.in_ok-checked.ensures.entry (reading_by kernel) fault c.in_ok-kernel.ensures.read h)
    c.plan_parts.ensures.fault

pub returns-in_err-checked-clause-handover : goal.returns-in_err-checked-clause-handover
returns-in_err-checked-clause-handover g c =
    let p = err_from_is_err_and c.from_residual.result c.from_residual.ensures.1 in
    rw p.1 tt

pub returns-in_err-kernel-clause-handover : goal.returns-in_err-kernel-clause-handover
returns-in_err-kernel-clause-handover g c =
    let p =
    err_from_is_err_and c.from_residual-in_err-kernel.result
    c.from_residual-in_err-kernel.ensures.1 in
    rw p.1 tt

pub returns-in_err-checked-clause-loadable : goal.returns-in_err-checked-clause-loadable
returns-in_err-checked-clause-loadable g c =
    let p = err_from_is_err_and c.from_residual.result c.from_residual.ensures.1 in
    rw p.1 tt

pub returns-in_err-kernel-clause-loadable : goal.returns-in_err-kernel-clause-loadable
returns-in_err-kernel-clause-loadable g c =
    let p =
    err_from_is_err_and c.from_residual-in_err-kernel.result
    c.from_residual-in_err-kernel.ensures.1 in
    rw p.1 tt

pub returns-in_err-checked-clause-lean : goal.returns-in_err-checked-clause-lean
returns-in_err-checked-clause-lean g c =
    let p = err_from_is_err_and c.from_residual.result c.from_residual.ensures.1 in
    rw p.1 tt

pub returns-in_err-kernel-clause-lean : goal.returns-in_err-kernel-clause-lean
returns-in_err-kernel-clause-lean g c =
    let p =
    err_from_is_err_and c.from_residual-in_err-kernel.result
    c.from_residual-in_err-kernel.ensures.1 in
    rw p.1 tt

pub returns-in_err-checked-clause-origins : goal.returns-in_err-checked-clause-origins
returns-in_err-checked-clause-origins g c =
    let p = err_from_is_err_and c.from_residual.result c.from_residual.ensures.1 in
    rw p.1 tt

pub returns-in_err-kernel-clause-origins : goal.returns-in_err-kernel-clause-origins
returns-in_err-kernel-clause-origins g c =
    let p =
    err_from_is_err_and c.from_residual-in_err-kernel.result
    c.from_residual-in_err-kernel.ensures.1 in
    rw p.1 tt

pub returns-in_err-checked-clause-fault : goal.returns-in_err-checked-clause-fault
returns-in_err-checked-clause-fault g c =
    let p = err_from_is_err_and c.from_residual.result c.from_residual.ensures.1 in
    rw (p.1, p.2) (inl c.in_err-checked.ensures.fault)

pub returns-in_err-kernel-clause-fault : goal.returns-in_err-kernel-clause-fault
returns-in_err-kernel-clause-fault g c =
    let p =
    err_from_is_err_and c.from_residual-in_err-kernel.result
    c.from_residual-in_err-kernel.ensures.1 in
    let texts = map g.V.ByteView.bytes c.args.files.now in
    rw (p.1, p.2)
    (kernel_fault c.args.machine.now texts (value_of texts c.args.entry.now) c.in_ok-checked.checked
    c.in_ok-checked.ensures.entry c.in_err-kernel.field-0.0 c.in_err-kernel.ensures.fault)
