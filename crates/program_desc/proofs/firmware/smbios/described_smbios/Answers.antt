use Rattle.std.proofs.Common.{refl}
use Rattle.std.proofs.lemmas.Result.{err_from_is_err_and}
use Rattle.program_desc.specs.DescribedFirmware.{described_smbios}
use Rattle.program_desc.specs.declared.bad_key.TablePlace.TheVariants as places
use Rattle.program_desc.specs.declared.key_set.KeySet.TheVariants as keys
use Rattle.program_desc.proofs.FaultLemmas.{at_rule, fails_as, unknown_fails}
use Rattle.program_desc.proofs.firmware.smbios.described_smbios.Goals as goal

pub returns-in_err-check_keys : goal.returns-in_err-check_keys
unfolding described_smbios
returns-in_err-check_keys g c =
    let p = err_from_is_err_and c.from_residual.result c.from_residual.ensures.1 in
    rw (p.1, p.2)
    (unknown_fails _ keys.Smbios _ _ _ _ (λ bad is fault. (is, fault 0)) c.in_err-check_keys.ensures.err)

pub returns-in_err-major : goal.returns-in_err-major
unfolding described_smbios
returns-in_err-major g c =
    let p = err_from_is_err_and c.from_residual-in_err-major.result c.from_residual-in_err-major.ensures.1 in
    rw (p.1, p.2, c.in_ok-check_keys.ensures.ok)
    (fails_as _ _ _ _ _ (at_rule keys.Smbios 0 _ places.Smbios _ refl) c.in_err-major.ensures)

pub returns-in_err-minor : goal.returns-in_err-minor
unfolding described_smbios
returns-in_err-minor g c =
    let p = err_from_is_err_and c.from_residual-in_err-minor.result c.from_residual-in_err-minor.ensures.1 in
    rw (p.1, p.2, c.in_ok-check_keys.ensures.ok, c.in_ok-major.ensures)
    (fails_as _ _ _ _ _ (at_rule keys.Smbios 1 _ places.Smbios _ refl) c.in_err-minor.ensures)

pub returns-in_err-tables : goal.returns-in_err-tables
unfolding described_smbios
returns-in_err-tables g c =
    let p = err_from_is_err_and c.from_residual-in_err-tables.result c.from_residual-in_err-tables.ensures.1 in
    rw (p.1, p.2, c.in_ok-check_keys.ensures.ok, c.in_ok-major.ensures, c.in_ok-minor.ensures)
    (fails_as _ _ _ _ _ (at_rule keys.Smbios 2 _ places.Smbios _ refl) c.in_err-tables.ensures)

pub returns : goal.returns
unfolding described_smbios
returns g c = rw (c.in_ok-check_keys.ensures.ok, c.in_ok-major.ensures, c.in_ok-minor.ensures, c.in_ok-tables.ensures, ← c.into_vec.ensures) refl
