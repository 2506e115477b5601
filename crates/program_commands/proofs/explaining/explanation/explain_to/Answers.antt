use Rattle.std.proofs.Common.{arith, inl, inr, refl}
use Rattle.program_desc.specs.Described.{described}
use Rattle.program_boots.specs.described.BootCases.{names_fetched}
use Rattle.program_commands.proofs.AskedLemmas.{all_asked}
use Rattle.program_commands.proofs.explaining.explanation.explain_to.Goals as goal

pub returns-in-Ok-Booted : goal.returns-in-Ok-Booted
returns-in-Ok-Booted g c =
    let run = rw c.in-Ok-Booted.field-0-is at c.in-Ok-Booted.ensures in
    record {
      status = inl (omega arith);
      booted = λ _. run.ends;
      refused = λ other. absurd (omega (arith, other));
      described = λ other. absurd (omega (arith, other));
      memory = λ other. absurd (omega (arith, other));
      asked = λ _ _. run.sought.asked;
      asked_first = all_asked (names_fetched (described c.args.desc.now)) _ _ run.sought.asked;
      inline = run.sought.inline;
      same_files = run.sought.same_files;
      missing = run.sought.missing;
      few = run.sought.few;
    }

pub returns-in-Ok-NoEntryLeft : goal.returns-in-Ok-NoEntryLeft
returns-in-Ok-NoEntryLeft g c =
    let run = rw c.in-Ok-NoEntryLeft.field-0-is at c.in-Ok-NoEntryLeft.ensures in
    record {
      status = inl (omega arith);
      booted = λ other. absurd (omega (arith, other));
      refused = λ _. run.ends;
      described = λ other. absurd (omega (arith, other));
      memory = λ other. absurd (omega (arith, other));
      asked = λ _ _. run.sought.asked;
      asked_first = all_asked (names_fetched (described c.args.desc.now)) _ _ run.sought.asked;
      inline = run.sought.inline;
      same_files = run.sought.same_files;
      missing = run.sought.missing;
      few = run.sought.few;
    }

pub returns-in-Err-BadDescription : goal.returns-in-Err-BadDescription
returns-in-Err-BadDescription g c =
    let run = rw c.in-Err-BadDescription.field-0-is at c.in-Err-BadDescription.ensures in
    record {
      status = inl (omega arith);
      booted = λ other. absurd (omega (arith, other));
      refused = λ other. absurd (omega (arith, other));
      described = λ _. run.ends;
      memory = λ other. absurd (omega (arith, other));
      asked = λ other. absurd (other refl);
      asked_first = run.sought.asked;
      inline = run.sought.inline;
      same_files = run.sought.same_files;
      missing = run.sought.missing;
      few = run.sought.few;
    }

pub returns-in-Err-Device : goal.returns-in-Err-Device
returns-in-Err-Device g c =
    let run = rw c.in-Err-Device.field-0-is at c.in-Err-Device.ensures in
    absurd run.ends

pub returns-in-Err-NoMemory : goal.returns-in-Err-NoMemory
returns-in-Err-NoMemory g c =
    let run = rw c.in-Err-NoMemory.field-0-is at c.in-Err-NoMemory.ensures in
    record {
      status = inr refl;
      booted = λ other. absurd (omega (arith, other));
      refused = λ other. absurd (omega (arith, other));
      described = λ other. absurd (omega (arith, other));
      memory = λ _. run.ends;
      asked = λ _ other. absurd (other refl);
      asked_first = run.sought.asked;
      inline = run.sought.inline;
      same_files = run.sought.same_files;
      missing = run.sought.missing;
      few = run.sought.few;
    }
