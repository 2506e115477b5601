use Rattle.std.proofs.Common.{arith, inl, inr, refl}
use Rattle.program_commands.proofs.image_walk.walk_to.Goals as goal

pub returns-in-Ok : goal.returns-in-Ok
returns-in-Ok g c =
    let run = c.in-Ok.ensures in
    record {
      status = inl refl;
      walked = λ _. run.ends;
      blamed = λ other. absurd (omega (arith, other));
      unsaid = λ other. absurd (other refl);
      unblamed = λ _. refl;
      fault = λ other. absurd (omega (arith, other));
      sound = λ _. omega (arith, run.faults);
    }

pub returns-in-Ok-say_bad_image : goal.returns-in-Ok-say_bad_image
returns-in-Ok-say_bad_image g c =
    let run = rw c.in-Err-BadImage.field-0-is at c.in-Err-BadImage.ensures in
    record {
      status = inr (inl refl);
      walked = λ other. absurd (omega (arith, other));
      blamed = λ _. record {
        number = c.in-Err-BadImage.number;
        bad = run.ends.0;
        blamed = c.in-Ok-say_bad_image.ensures.ok;
      };
      unsaid = λ _. run.ends.1;
      unblamed = λ other. absurd (other refl);
      fault = λ other. absurd (omega (arith, other));
      sound = λ _. omega (arith, run.faults);
    }

pub returns-in-Err : goal.returns-in-Err
returns-in-Err g c =
    let run = rw c.in-Err-BadImage.field-0-is at c.in-Err-BadImage.ensures in
    record {
      status = inr (inr (inr refl));
      walked = λ other. absurd (omega (arith, other));
      blamed = λ other. absurd (omega (arith, other));
      unsaid = λ _. run.ends.1;
      unblamed = λ _. c.in-Err.ensures.err;
      fault = λ other. absurd (omega (arith, other));
      sound = λ _. omega (arith, run.faults);
    }

pub returns-in-Err-Device : goal.returns-in-Err-Device
returns-in-Err-Device g c =
    let run = rw c.in-Err-Device.field-0-is at c.in-Err-Device.ensures in
    record {
      status = inr (inr (inl refl));
      walked = λ other. absurd (omega (arith, other));
      blamed = λ other. absurd (omega (arith, other));
      unsaid = λ _. run.ends;
      unblamed = λ _. refl;
      fault = λ _. run.faults;
      sound = λ other. absurd (other refl);
    }

pub returns-in-Err-NoMemory : goal.returns-in-Err-NoMemory
returns-in-Err-NoMemory g c =
    let run = rw c.in-Err-NoMemory.field-0-is at c.in-Err-NoMemory.ensures in
    record {
      status = inr (inr (inr refl));
      walked = λ other. absurd (omega (arith, other));
      blamed = λ other. absurd (omega (arith, other));
      unsaid = λ _. run.ends;
      unblamed = λ _. refl;
      fault = λ other. absurd (omega (arith, other));
      sound = λ _. omega (arith, run.faults);
    }
