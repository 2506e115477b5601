use Rattle.std.proofs.Common.{◌∙◌, ℕ, length, ap}
use Rattle.std.proofs.lemmas.Result.{err_from_is_err_and}
use Rattle.c_records.specs.SeenTold.{copy_range}
use Rattle.c_records.proofs.seen_telling.records_of.Goals as goal

pub seen_told-requires-clause-old : goal.seen_told-requires-clause-old
seen_told-requires-clause-old g c =
    let lines =
    rw (c.in_ok-text.ensures.items, c.as_slice.ensures, c.deref.ensures.value)
    at c.in_ok-add_modules.ensures.text in
    rw (← c.seen.view_is)
    (c.in_ok-rsdp_old.ensures.range
    ∙ ap (λ (n : ℕ). copy_range n c.seen.inside.rsdp_old) (ap length lines))

pub seen_told-requires-clause-new : goal.seen_told-requires-clause-new
seen_told-requires-clause-new g c =
    let lines =
    rw (c.in_ok-text.ensures.items, c.as_slice.ensures, c.deref.ensures.value)
    at c.in_ok-add_modules.ensures.text in
    let upto = rw lines at c.in_ok-rsdp_old.ensures.text in
    rw (← c.seen.view_is)
    (c.in_ok-rsdp_new.ensures.range
    ∙ ap (λ (n : ℕ). copy_range n c.seen.inside.rsdp_new) (ap length upto))

pub returns-in_err-text : goal.returns-in_err-text
returns-in_err-text g c =
    let end =
    err_from_is_err_and c.from_residual.result c.from_residual.ensures.1 in
    rw end.1 tt

pub returns-in_err-add_modules : goal.returns-in_err-add_modules
returns-in_err-add_modules g c =
    let end =
    err_from_is_err_and c.from_residual-in_err-add_modules.result
    c.from_residual-in_err-add_modules.ensures.1 in
    rw end.1 tt

pub returns-in_err-rsdp_old : goal.returns-in_err-rsdp_old
returns-in_err-rsdp_old g c =
    let end =
    err_from_is_err_and c.from_residual-in_err-rsdp_old.result
    c.from_residual-in_err-rsdp_old.ensures.1 in
    rw end.1 tt

pub returns-in_err-rsdp_new : goal.returns-in_err-rsdp_new
returns-in_err-rsdp_new g c =
    let end =
    err_from_is_err_and c.from_residual-in_err-rsdp_new.result
    c.from_residual-in_err-rsdp_new.ensures.1 in
    rw end.1 tt

pub returns-in_err-firmware : goal.returns-in_err-firmware
returns-in_err-firmware g c =
    let end =
    err_from_is_err_and c.from_residual-in_err-firmware.result
    c.from_residual-in_err-firmware.ensures.1 in
    rw end.1 tt

pub returns-in_err-parts_told : goal.returns-in_err-parts_told
returns-in_err-parts_told g c =
    let end =
    err_from_is_err_and c.from_residual-in_err-parts_told.result
    c.from_residual-in_err-parts_told.ensures.1 in
    rw end.1 tt

pub returns-in_err-runs_told : goal.returns-in_err-runs_told
returns-in_err-runs_told g c =
    let end =
    err_from_is_err_and c.from_residual-in_err-runs_told.result
    c.from_residual-in_err-runs_told.ensures.1 in
    rw end.1 tt
