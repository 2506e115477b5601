use Rattle.std.proofs.Common.{refl}
use Rattle.std.proofs.lemmas.Result.{err_from_is_err_and}
use Rattle.program_desc.specs.DescribedFirmware.{described_screen}
use Rattle.program_desc.specs.declared.bad_key.TablePlace.TheVariants as places
use Rattle.program_desc.specs.declared.key_set.KeySet.TheVariants as keys
use Rattle.program_desc.proofs.FaultLemmas.{at_rule, fails_as, unknown_fails}
use Rattle.program_desc.proofs.firmware.screen.described_screen.Goals as goal

pub returns-in_err-check_keys : goal.returns-in_err-check_keys
unfolding described_screen
returns-in_err-check_keys c =
    let p = err_from_is_err_and c.from_residual.result c.from_residual.ensures.1 in
    rw (p.1, p.2)
    (unknown_fails _ keys.Screen _ _ _ _ (λ bad is fault. (is, fault 0)) c.in_err-check_keys.ensures.err)

pub returns-in_err-base : goal.returns-in_err-base
unfolding described_screen
returns-in_err-base c =
    let p = err_from_is_err_and c.from_residual-in_err-base.result c.from_residual-in_err-base.ensures.1 in
    rw (p.1, p.2, c.in_ok-check_keys.ensures.ok)
    (fails_as _ _ _ _ _ (at_rule keys.Screen 0 _ places.Screen _ refl) c.in_err-base.ensures.value)

pub returns-in_err-pitch : goal.returns-in_err-pitch
unfolding described_screen
returns-in_err-pitch c =
    let p = err_from_is_err_and c.from_residual-in_err-pitch.result c.from_residual-in_err-pitch.ensures.1 in
    rw (p.1, p.2, c.in_ok-check_keys.ensures.ok, c.in_ok-base.ensures.value)
    (fails_as _ _ _ _ _ (at_rule keys.Screen 1 _ places.Screen _ refl) c.in_err-pitch.ensures)

pub returns-in_err-width : goal.returns-in_err-width
unfolding described_screen
returns-in_err-width c =
    let p = err_from_is_err_and c.from_residual-in_err-width.result c.from_residual-in_err-width.ensures.1 in
    rw (p.1, p.2, c.in_ok-check_keys.ensures.ok, c.in_ok-base.ensures.value, c.in_ok-pitch.ensures)
    (fails_as _ _ _ _ _ (at_rule keys.Screen 2 _ places.Screen _ refl) c.in_err-width.ensures)

pub returns-in_err-height : goal.returns-in_err-height
unfolding described_screen
returns-in_err-height c =
    let p = err_from_is_err_and c.from_residual-in_err-height.result c.from_residual-in_err-height.ensures.1 in
    rw (p.1, p.2, c.in_ok-check_keys.ensures.ok, c.in_ok-base.ensures.value, c.in_ok-pitch.ensures, c.in_ok-width.ensures)
    (fails_as _ _ _ _ _ (at_rule keys.Screen 3 _ places.Screen _ refl) c.in_err-height.ensures)

pub returns-in_err-depth : goal.returns-in_err-depth
unfolding described_screen
returns-in_err-depth c =
    let p = err_from_is_err_and c.from_residual-in_err-depth.result c.from_residual-in_err-depth.ensures.1 in
    rw (p.1, p.2, c.in_ok-check_keys.ensures.ok, c.in_ok-base.ensures.value, c.in_ok-pitch.ensures, c.in_ok-width.ensures, c.in_ok-height.ensures)
    (fails_as _ _ _ _ _ (at_rule keys.Screen 4 _ places.Screen _ refl) c.in_err-depth.ensures)

pub returns-in_err-red : goal.returns-in_err-red
unfolding described_screen
returns-in_err-red c =
    let p = err_from_is_err_and c.from_residual-in_err-red.result c.from_residual-in_err-red.ensures.1 in
    rw (p.1, p.2, c.in_ok-check_keys.ensures.ok, c.in_ok-base.ensures.value, c.in_ok-pitch.ensures, c.in_ok-width.ensures, c.in_ok-height.ensures, c.in_ok-depth.ensures)
    (fails_as _ _ _ _ _ (at_rule keys.Screen 5 _ places.Screen _ refl) c.in_err-red.ensures)

pub returns-in_err-green : goal.returns-in_err-green
unfolding described_screen
returns-in_err-green c =
    let p = err_from_is_err_and c.from_residual-in_err-green.result c.from_residual-in_err-green.ensures.1 in
    rw (p.1, p.2, c.in_ok-check_keys.ensures.ok, c.in_ok-base.ensures.value, c.in_ok-pitch.ensures, c.in_ok-width.ensures, c.in_ok-height.ensures, c.in_ok-depth.ensures, c.in_ok-red.ensures)
    (fails_as _ _ _ _ _ (at_rule keys.Screen 6 _ places.Screen _ refl) c.in_err-green.ensures)

pub returns-in_err-blue : goal.returns-in_err-blue
unfolding described_screen
returns-in_err-blue c =
    let p = err_from_is_err_and c.from_residual-in_err-blue.result c.from_residual-in_err-blue.ensures.1 in
    rw (p.1, p.2, c.in_ok-check_keys.ensures.ok, c.in_ok-base.ensures.value, c.in_ok-pitch.ensures, c.in_ok-width.ensures, c.in_ok-height.ensures, c.in_ok-depth.ensures, c.in_ok-red.ensures, c.in_ok-green.ensures)
    (fails_as _ _ _ _ _ (at_rule keys.Screen 7 _ places.Screen _ refl) c.in_err-blue.ensures)

pub returns : goal.returns
unfolding described_screen
returns c = rw (c.in_ok-check_keys.ensures.ok, c.in_ok-base.ensures.value, c.in_ok-pitch.ensures, c.in_ok-width.ensures, c.in_ok-height.ensures, c.in_ok-depth.ensures, c.in_ok-red.ensures, c.in_ok-green.ensures, c.in_ok-blue.ensures) refl
