use Rattle.std.proofs.Common.{◌∙◌, sym}
use Rattle.program_boots.proofs.described_lemmas.NameLemmas.{name_new, name_there}
use Rattle.program_commands.proofs.described.names.add_name.Goals as goal

pub returns-in_ok-push : goal.returns-in_ok-push
returns-in_ok-push g c = λ rest. rw c.in_ok-push.ensures.items
    (name_new c.args.names.now.items c.args.name rest
    (rw c.deref.ensures.value at (sym c.is_among.ensures ∙ c.if-not-is_among.true)))

pub returns-else-not-is_among : goal.returns-else-not-is_among
returns-else-not-is_among g c = λ rest.
    name_there c.args.names.now.items c.args.name rest
    (rw c.deref.ensures.value at (sym c.is_among.ensures ∙ c.if-not-is_among.false))
