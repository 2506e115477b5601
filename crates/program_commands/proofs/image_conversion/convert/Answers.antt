use Rattle.std.proofs.Common.{arith, inl, inr, refl}
use Rattle.program_commands.proofs.image_conversion.convert.Goals as goal

pub returns-in-Err-DeviceFault : goal.returns-in-Err-DeviceFault
returns-in-Err-DeviceFault g c =
    let read = rw c.in-Err-DeviceFault.field-0-is at c.in-Err-DeviceFault.ensures in
    record {
      status = inr (inr (inl refl));
      converted = λ other. absurd (omega (arith, other));
      blamed = λ other. absurd (omega (arith, other));
      torn = λ _. inl (read.faults, refl, refl);
      untaken = λ _. refl;
      unblamed = λ _. refl;
      sound = λ other. absurd (other refl);
    }

pub returns-in-Err-NoMemory : goal.returns-in-Err-NoMemory
returns-in-Err-NoMemory g c =
    let read = rw c.in-Err-NoMemory.field-0-is at c.in-Err-NoMemory.ensures in
    record {
      status = inr (inr (inr refl));
      converted = λ other. absurd (omega (arith, other));
      blamed = λ other. absurd (omega (arith, other));
      torn = λ other. absurd (omega (arith, other));
      untaken = λ _. refl;
      unblamed = λ _. refl;
      sound = λ _. (omega (arith, read.faults), refl);
    }

pub returns-in-Ok-write_value : goal.returns-in-Ok-write_value
returns-in-Ok-write_value g c =
    let read = c.in-Ok.ensures in
    record {
      status = inl refl;
      converted = λ _. record {
        handover = c.in-Ok.read;
        read = record {
          version = read.ok.0;
          has = read.ok.1;
          came = read.ok.2;
          ended = read.ended;
          kept = read.kept;
        };
        written = c.in-Ok-write_value.ensures.ok;
      };
      blamed = λ other. absurd (omega (arith, other));
      torn = λ other. absurd (omega (arith, other));
      untaken = λ other. absurd (omega (arith, other));
      unblamed = λ _. refl;
      sound = λ _. (omega (arith, read.faults), c.in-Ok-write_value.ensures.sound);
    }

pub returns : goal.returns
returns g c =
    let read = c.in-Ok.ensures in
    record {
      status = inr (inr (inl refl));
      converted = λ other. absurd (omega (arith, other));
      blamed = λ other. absurd (omega (arith, other));
      torn = λ _. inr (
        omega (arith, read.faults),
        c.in-Err-write_value.ensures.fault,
        record {
          handover = c.in-Ok.read;
          read = record {
            version = read.ok.0;
            has = read.ok.1;
            came = read.ok.2;
            ended = read.ended;
            kept = read.kept;
          };
          begun = c.in-Err-write_value.ensures.begun;
        },
      );
      untaken = λ other. absurd (omega (arith, other));
      unblamed = λ _. refl;
      sound = λ other. absurd (other refl);
    }
