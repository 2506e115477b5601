use Rattle.std.proofs.Common.{ap, arith, refl}
use Rattle.program_desc.specs.Described.{described}
use Rattle.program_boots.specs.described.BootCases.{names_fetched}
use Rattle.program_commands.proofs.AskedLemmas.{all_asked}
use Rattle.program_commands.proofs.booting.whole_boot.boot.Goals as goal

pub returns-in-Ok-Booted : goal.returns-in-Ok-Booted
returns-in-Ok-Booted g c =
    let run = rw c.in-Ok-Booted.field-0-is at c.in-Ok-Booted.ensures in
    record {
      status = omega arith;
      booted = λ _. run.ends;
      refused = λ other. absurd (omega (arith, other));
      described = λ other. absurd (omega (arith, other));
      device = λ other. absurd (omega (arith, other));
      memory = λ other. absurd (omega (arith, other));
      fault = λ other. absurd (omega (arith, other));
      sound = λ _. run.faults;
      asked = λ _ _. run.sought.asked;
      asked_first = all_asked (names_fetched (described c.args.desc.now)) _ _ run.sought.asked;
      inline = run.sought.inline;
      same_files = run.sought.same_files;
      missing = run.sought.missing;
      few = run.sought.few;
    }

pub returns-in-Ok-NoEntryLeft : goal.returns-in-Ok-NoEntryLeft
returns-in-Ok-NoEntryLeft g c =
    let run = rw c.in-Ok-NoEntryLeft.field-0-is at c.in-Ok-NoEntryLeft.ensures in
    record {
      status = omega arith;
      booted = λ other. absurd (omega (arith, other));
      refused = λ _. run.ends;
      described = λ other. absurd (omega (arith, other));
      device = λ other. absurd (omega (arith, other));
      memory = λ other. absurd (omega (arith, other));
      fault = λ other. absurd (omega (arith, other));
      sound = λ _. run.faults;
      asked = λ _ _. run.sought.asked;
      asked_first = all_asked (names_fetched (described c.args.desc.now)) _ _ run.sought.asked;
      inline = run.sought.inline;
      same_files = run.sought.same_files;
      missing = run.sought.missing;
      few = run.sought.few;
    }

pub returns-in-Err-BadDescription : goal.returns-in-Err-BadDescription
returns-in-Err-BadDescription g c =
    let run = rw c.in-Err-BadDescription.field-0-is at c.in-Err-BadDescription.ensures in
    record {
      status = omega arith;
      booted = λ other. absurd (omega (arith, other));
      refused = λ other. absurd (omega (arith, other));
      described = λ _. (
        run.ends.0,
        ap (λ s. s.files) run.ends.1,
        ap (λ s. s.sink) run.ends.1,
        ap (λ s. s.said) run.ends.1,
      );
      device = λ other. absurd (omega (arith, other));
      memory = λ other. absurd (omega (arith, other));
      fault = λ other. absurd (omega (arith, other));
      sound = λ _. run.faults;
      asked = λ other. absurd (other refl);
      asked_first = run.sought.asked;
      inline = run.sought.inline;
      same_files = run.sought.same_files;
      missing = run.sought.missing;
      few = run.sought.few;
    }

pub returns-in-Err-Device : goal.returns-in-Err-Device
returns-in-Err-Device g c =
    let run = rw c.in-Err-Device.field-0-is at c.in-Err-Device.ensures in
    record {
      status = omega arith;
      booted = λ other. absurd (omega (arith, other));
      refused = λ other. absurd (omega (arith, other));
      described = λ other. absurd (omega (arith, other));
      device = λ _. run.ends;
      memory = λ other. absurd (omega (arith, other));
      fault = λ _. run.faults;
      sound = λ other. absurd (other refl);
      asked = λ _ _. run.sought.asked;
      asked_first = all_asked (names_fetched (described c.args.desc.now)) _ _ run.sought.asked;
      inline = run.sought.inline;
      same_files = run.sought.same_files;
      missing = run.sought.missing;
      few = run.sought.few;
    }

pub returns-in-Err-NoMemory : goal.returns-in-Err-NoMemory
returns-in-Err-NoMemory g c =
    let run = rw c.in-Err-NoMemory.field-0-is at c.in-Err-NoMemory.ensures in
    record {
      status = omega arith;
      booted = λ other. absurd (omega (arith, other));
      refused = λ other. absurd (omega (arith, other));
      described = λ other. absurd (omega (arith, other));
      device = λ other. absurd (omega (arith, other));
      memory = λ _. run.ends;
      fault = λ other. absurd (omega (arith, other));
      sound = λ _. run.faults;
      asked = λ _ other. absurd (other refl);
      asked_first = run.sought.asked;
      inline = run.sought.inline;
      same_files = run.sought.same_files;
      missing = run.sought.missing;
      few = run.sought.few;
    }
