use Rattle.std.proofs.Common.{◌≡◌, ◌-◌, List, All, get_or, sym, ap, ◌∙◌, subst, rules}
use Rattle.std.proofs.lemmas.List.Elements.{All-contains_itself}
use Rattle.bl_mbi.specs.InfoToWriteFacts.{ModuleInfo, IsModule}
use Rattle.bl_mbi.specs.InfoFacts.{InfoFacts}
use Rattle.bl_walk.specs.Faults.{IsFollowed, loaded_module}
use Rattle.bl_walk.proofs.information.shown_by_information.Goals as goal

pub modules_at-requires-clause-forward : goal.modules_at-requires-clause-forward
modules_at-requires-clause-forward g c =
    let says = c.in_ok-info.ensures.ok in
    let told = c.in_ok-info.info.facts.modules in
    let same : c.as_slice.result.now ≡ told =
    c.as_slice.ensures.value ∙ ap (λ (i : InfoFacts). i.facts.modules) c.info.view_is in
    subst (λ (ms : List ModuleInfo). All IsModule ms) (sym same) says.spelling.facts.modules

pub modules_at-requires-clause-followed : goal.modules_at-requires-clause-followed
modules_at-requires-clause-followed g c =
    let h = c.args.image.now in
    let says = c.in_ok-info.ensures.ok in
    let told = c.in_ok-info.info.facts.modules in
    let same : c.as_slice.result.now ≡ told =
    c.as_slice.ensures.value ∙ ap (λ (i : InfoFacts). i.facts.modules) c.info.view_is in
    subst
    (λ (ms : List ModuleInfo). All (λ m. IsFollowed h m.mod_start (m.mod_end - m.mod_start)) ms)
    (sym same)
    (λ k d within.
    loaded_module c.in_ok-info.info (get_or told k d) says
    (All-contains_itself told k d within))

pub returns : goal.returns
returns g c = search rules
