use Rattle.std.proofs.Common.{refl}
use Rattle.std.proofs.lemmas.Result.{err_from_is_err_and}
use Rattle.program_commands.proofs.booting.handover.write_handover.Goals as goal

pub returns-in_err-say_refusals : goal.returns-in_err-say_refusals
returns-in_err-say_refusals g c =
    let p =
    err_from_is_err_and c.from_residual.result
    c.from_residual.ensures.1 in
    rw (p.1, p.2)
    (record {
      taken = tt;
      said = tt;
      sound = tt;
      unsaid = refl;
      fault = (refl, refl);
    })

pub returns-in_err-say_booted : goal.returns-in_err-say_booted
returns-in_err-say_booted g c =
    let p =
    err_from_is_err_and c.from_residual-in_err-say_booted.result
    c.from_residual-in_err-say_booted.ensures.1 in
    rw (p.1, p.2)
    (record {
      taken = tt;
      said = tt;
      sound = tt;
      unsaid = refl;
      fault = (refl, refl);
    })

pub write_image-requires-clause-inside : goal.write_image-requires-clause-inside
write_image-requires-clause-inside g c = c.requires.inside

pub write_image-requires-clause-faults : goal.write_image-requires-clause-faults
write_image-requires-clause-faults g c = c.requires.faults

pub returns-in-Ok-clause-taken : goal.returns-in-Ok-clause-taken
returns-in-Ok-clause-taken g c =
    record { image = c.in-Ok.ensures.ok; kept = c.in-Ok.ensures.kept }

pub returns-in-Ok-clause-sound : goal.returns-in-Ok-clause-sound
returns-in-Ok-clause-sound g c = c.in-Ok.ensures.sound
