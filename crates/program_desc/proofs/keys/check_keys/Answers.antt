use Rattle.std.proofs.Common.{◌≡◌, ◌∙◌, sym, ap, refl, rules}
use Rattle.std.specs.Prelude.{option_map}
use Rattle.std.specs.List.{find}
use Rattle.std.specs.BTreeMap.{keys}
use Rattle.std.specs.Map.{keys_of}
use Rattle.std.proofs.lemmas.Iterator.Consumers.{YieldsList-from_rest}
use Rattle.std.proofs.lemmas.Iterator.Search.{find_from_yields_List}
use borrow.Author.Tests.{tests}
use Rattle.program_desc.proofs.KeyLemmas.{is_unknown, unknown_none, unknown_some}
use Rattle.program_desc.proofs.keys.check_keys.Goals as goal
use Rattle.program_desc.proofs.keys.check_keys.Goals.{After-find}

-- the search gives the first key of the table that is unknown
first_unknown : (c : After-find)
    → find (is_unknown c.args.set) (keys_of c.args.table.now.entries)
    ≡ option_map (λ k. k.now) c.find.result
first_unknown c =
    sym (find_from_yields_List (is_unknown c.args.set) _ _ c.find.result c.find.ensures.ran
    (YieldsList-from_rest (keys c.args.table.now) (search rules))
    (λ x b q k. search (rules, tests)))

pub returns-in-None-clause-ok : goal.returns-in-None-clause-ok
returns-in-None-clause-ok c =
    let none = first_unknown (goal.at.returns-in-None-clause-ok c).After-find
    ∙ ap (option_map (λ k. k.now)) c.in-None.is in
    unknown_none c.args.set c.args.table.now.entries none

pub returns-in-Some-clause-err : goal.returns-in-Some-clause-err
returns-in-Some-clause-err c =
    let some = first_unknown (goal.at.returns-in-Some-clause-err c).After-find
    ∙ ap (option_map (λ k. k.now)) c.in-Some.is in
    let is = unknown_some c.args.set c.args.table.now.entries c.in-Some.key.now some in
    rw c.as_str.ensures.value (is.2, refl, λ count. (refl, is.1, is.0))
