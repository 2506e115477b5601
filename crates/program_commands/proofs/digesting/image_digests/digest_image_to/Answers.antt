use Rattle.std.proofs.Common.{arith, inl, inr, refl}
use Rattle.program_commands.proofs.digesting.image_digests.digest_image_to.Goals as goal

pub returns-in-Err-DeviceFault : goal.returns-in-Err-DeviceFault
returns-in-Err-DeviceFault g c =
    let read = rw c.in-Err-DeviceFault.field-0-is at c.in-Err-DeviceFault.ensures in
    record {
      status = inr (inr (inl refl));
      digested = λ other. absurd (omega (arith, other));
      blamed = λ other. absurd (omega (arith, other));
      unsaid = λ _. refl;
      unblamed = λ _. refl;
      fault = λ _. read.faults;
      sound = λ other. absurd (other refl);
    }

pub returns-in-Err-NoMemory : goal.returns-in-Err-NoMemory
returns-in-Err-NoMemory g c =
    let read = rw c.in-Err-NoMemory.field-0-is at c.in-Err-NoMemory.ensures in
    record {
      status = inr (inr (inr refl));
      digested = λ other. absurd (omega (arith, other));
      blamed = λ other. absurd (omega (arith, other));
      unsaid = λ _. refl;
      unblamed = λ _. refl;
      fault = λ other. absurd (omega (arith, other));
      sound = λ _. omega (arith, read.faults);
    }

pub returns-in-Ok-say_image : goal.returns-in-Ok-say_image
returns-in-Ok-say_image g c =
    let read = c.in-Ok.ensures in
    record {
      status = inl refl;
      digested = λ _. record {
        handover = c.in-Ok.read;
        read = record {
          version = read.ok.0;
          has = read.ok.1;
          came = read.ok.2;
          ended = read.ended;
          kept = read.kept;
        };
        said = c.in-Ok-say_image.ensures.ok;
      };
      blamed = λ other. absurd (omega (arith, other));
      unsaid = λ other. absurd (other refl);
      unblamed = λ _. refl;
      fault = λ other. absurd (omega (arith, other));
      sound = λ _. omega (arith, read.faults);
    }

pub returns : goal.returns
returns g c = record {
  status = inr (inr (inr refl));
  digested = λ other. absurd (omega (arith, other));
  blamed = λ other. absurd (omega (arith, other));
  unsaid = λ _. c.in-Err-say_image.ensures.err;
  unblamed = λ _. refl;
  fault = λ other. absurd (omega (arith, other));
  sound = λ _. omega (arith, c.in-Ok.ensures.faults);
}
