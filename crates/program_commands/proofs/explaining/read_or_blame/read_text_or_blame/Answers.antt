use Rattle.std.proofs.Common.{refl, ◌∙◌}
use Rattle.std.proofs.lemmas.Str.{IsUtf8-from_is_utf8}
use Rattle.program_desc.proofs.DescribedLemmas.{described-table}
use Rattle.program_say.specs.declared.subjects.blame.Blame.TheVariants.{BadKey}
use Rattle.program_commands.proofs.EndLemmas.{blamed_for, tells_nothing}
use Rattle.program_commands.proofs.explaining.read_or_blame.read_text_or_blame.Goals as goal

pub returns-in-Ok-described_in : goal.returns-in-Ok-described_in
returns-in-Ok-described_in g c =
    let text = c.args.text.now in
    let is =
    described-table text text _ refl (IsUtf8-from_is_utf8 text c.requires) c.in-Ok.ensures.ok in
    record {
      given = is ∙ c.in-Ok-described_in.ensures.given;
      menu = c.in-Ok-described_in.ensures.menu;
      kept = refl;
    }

pub blamed-requires : goal.blamed-requires
blamed-requires g c =
    let text = c.args.text.now in
    let is =
    described-table text text _ refl (IsUtf8-from_is_utf8 text c.requires) c.in-Ok.ensures.ok in
    let bad = rw c.in-Err-BadKey.field-0-is at c.in-Err-BadKey.ensures.given in
    tells_nothing _ text (BadKey c.in-Err-BadKey.bad) c.as_bytes-desc.ensures.value (is ∙ bad.0)
    (record {
      text = c.requires;
      members = _;
      read = c.in-Ok.ensures.ok;
      refused = bad.0;
      stands = bad.1;
    })

pub returns-in-Err-BadKey : goal.returns-in-Err-BadKey
returns-in-Err-BadKey g c =
    let text = c.args.text.now in
    let is =
    described-table text text _ refl (IsUtf8-from_is_utf8 text c.requires) c.in-Ok.ensures.ok in
    let bad = rw c.in-Err-BadKey.field-0-is at c.in-Err-BadKey.ensures.given in
    blamed_for text (BadKey c.in-Err-BadKey.bad) c.args.say.now.items
    c.blamed.new.say.items c.blamed.result (is ∙ bad.0)
    (record {
      text = c.requires;
      members = _;
      read = c.in-Ok.ensures.ok;
      refused = bad.0;
      stands = bad.1;
    }) c.blamed.ensures
