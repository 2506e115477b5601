use Rattle.std.proofs.Common.{◌∙◌, sym}
use Rattle.std.proofs.Math.Bool.{true≢false}
use Rattle.program_desc.proofs.DescribedLemmas.{described-table, described-no_text}
use Rattle.program_desc.proofs.DescribedLemmas.{described-no_table}
use Rattle.program_commands.proofs.document.read_description.Goals as goal

pub returns-in_default-clause-given : goal.returns-in_default-clause-given
returns-in_default-clause-given g c =
    described-no_text c.args.bytes.now c.in_default.ensures.cases.0

pub returns-clause-given : goal.returns-clause-given
returns-clause-given g c =
    let none =
    c.in-Err.ensures.refused
    (λ memory. true≢false (sym (c.is_memory.ensures.1 memory) ∙ c.if-is_memory.false)) in
    described-no_table c.args.bytes.now c.in-Ok.text.now c.in-Ok.ensures.cases.0 none

pub returns-in-Ok-described_in-clause-given : goal.returns-in-Ok-described_in-clause-given
returns-in-Ok-described_in-clause-given g c =
    let text = c.in-Ok.ensures.cases in
    described-table c.args.bytes.now c.in-Ok.text.now _ text.0 text.1
    c.in-Ok-table_from_str.ensures.ok
    ∙ c.in-Ok-described_in.ensures.given

pub returns-in-Err-BadKey-clause-given : goal.returns-in-Err-BadKey-clause-given
returns-in-Err-BadKey-clause-given g c =
    let text = c.in-Ok.ensures.cases in
    let bad = rw c.in-Err-BadKey.field-0-is at c.in-Err-BadKey.ensures.given in
    described-table c.args.bytes.now c.in-Ok.text.now _ text.0 text.1
    c.in-Ok-table_from_str.ensures.ok
    ∙ bad.0
