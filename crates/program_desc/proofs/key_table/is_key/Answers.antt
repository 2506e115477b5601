use Rattle.std.proofs.Common.{◌∙◌, ap, List, ℕ}
use Rattle.std.specs.List.{list_any}
use Rattle.std.specs.Str.{bytes_eq}
use Rattle.program_desc.proofs.KeyLemmas.{among_names}
use Rattle.program_desc.proofs.key_table.is_key.Goals as goal

pub returns : goal.returns
returns c =
    let name = c.args.name.now in
    c.is_among.ensures ∙ among_names c.keys_of.result.now name
    ∙ ap (λ (keys : List (List ℕ)). list_any (λ k. bytes_eq k name) keys) c.keys_of.ensures
