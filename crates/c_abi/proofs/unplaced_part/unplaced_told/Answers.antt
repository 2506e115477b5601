use Rattle.std.proofs.Common.{Ok, Err, Some, None, refl, subst}
use Rattle.c_abi.specs.UnplacedPart.{IsSought}
use Rattle.c_abi.proofs.unplaced_part.unplaced_told.Goals as goal

pub returns-in-Ok-Some : goal.returns-in-Ok-Some
returns-in-Ok-Some g c = (
  Ok (Some c.in-Ok-Some.row),
  subst (IsSought c.args.machine.now c.args.entry.now) c.in-Ok-Some.field-0-is
      c.in-Ok-Some.ensures.sought,
  (refl, c.row_told.ensures, refl),
)

pub returns-in-Ok-None : goal.returns-in-Ok-None
returns-in-Ok-None g c = (
  Ok None,
  subst (IsSought c.args.machine.now c.args.entry.now) c.in-Ok-None.field-0-is
      c.in-Ok-None.ensures.sought,
  (refl, c.nothing_told.ensures, refl),
)

pub returns-in-Err : goal.returns-in-Err
returns-in-Err g c = (
  Err c.in-Err.fault,
  c.in-Err.ensures.fault,
  (c.tell_load_fault.ensures.status, refl, c.tell_load_fault.ensures.refusal),
)
