use Rattle.std.proofs.Common.{[], ◌∙◌, map, sym}
use Rattle.std.proofs.lemmas.List.{length-map}
use Rattle.program_desc.specs.Views.{entry_view}
use Rattle.program_boots.proofs.explaining_lemmas.DetailLemmas.{counted_files, value_found}
use Rattle.program_boots.proofs.explaining.found_entry.entry_with_files.Goals as goal

pub returns : goal.returns
returns g c =
    let entry = c.in_ok-entry.entry in
    let files = c.in_ok-files.files.items in
    let texts = map (λ f. f.bytes.now) files in
    let row = entry_view c.args.row.now in record {
      value =
          value_found entry [] texts row c.args.sought.now c.in_ok-entry.ensures.entry
          c.in_ok-files.ensures;
      files =
          sym (length-map files (λ f. f.bytes.now))
          ∙ counted_files entry [] texts row c.args.sought.now c.in_ok-entry.ensures.entry
          c.in_ok-files.ensures;
      limits = c.in_ok-entry.ensures.few;
    }
