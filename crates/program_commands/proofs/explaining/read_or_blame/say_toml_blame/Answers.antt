use Rattle.std.proofs.Common.{refl, rules}
use Rattle.program_desc.proofs.DescribedLemmas.{described-no_table}
use Rattle.program_commands.specs.explaining.BlameConditions.{HasBlame}
use Rattle.program_say.specs.declared.subjects.blame.Blame.TheVariants.{NotToml}
use Rattle.program_commands.proofs.EndLemmas.{blamed_for, tells_nothing}
use Rattle.program_commands.proofs.explaining.read_or_blame.say_toml_blame.Goals as goal

pub blamed-requires : goal.blamed-requires
blamed-requires g c =
    let text = c.args.text.now in
    let place = c.text_place-place.result in
    let stands : HasBlame text (NotToml place) = search rules in
    tells_nothing _ text (NotToml place) c.as_bytes-desc.ensures.value
    (described-no_table text text refl stands.refused) stands

pub returns-in-Some : goal.returns-in-Some
returns-in-Some g c =
    let text = c.args.text.now in
    let place = c.text_place-place.result in
    let stands : HasBlame text (NotToml place) = search rules in
    blamed_for text (NotToml place) c.args.say.now.items c.blamed.new.say.items c.blamed.result
    (described-no_table text text refl stands.refused) stands c.blamed.ensures
