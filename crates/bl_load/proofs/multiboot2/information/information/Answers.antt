use Rattle.std.proofs.Common.{◌≤◌, ℕ, List, length, arith}
use Rattle.std.proofs.lemmas.List.{length-map}
use Rattle.std.proofs.lemmas.List.Elements.{All-map}
use Rattle.bl_load.specs.internal.Multiboot2Entries.{lines_of_modules}
use Rattle.bl_load.specs.internal.CheckedEntries.{texts_in}
use Rattle.bl_load.proofs.LineLemmas.{all_short}
use Rattle.bl_load.proofs.InformationLemmas.{tags_size_is, tags_small}
use Rattle.bl_load.proofs.multiboot2.information.information.Goals as goal

pub facts_of-facts-requires-clause-small : goal.facts_of-facts-requires-clause-small
facts_of-facts-requires-clause-small g c =
    let entry = c.args.entry.now in
    let modules = entry.modules.now in
    let files = texts_in entry in
    let short = all_short modules entry.sound_modules in
    let small =
    tags_small (lines_of_modules modules)
    (All-map (λ (line : List ℕ). length line ≤ 4095) (λ m. m.line) modules short) in
    let count = length-map modules (λ m. m.line) in
    let few = entry.few in
    let is = tags_size_is files c.args.places.now 0 (lines_of_modules modules) in
    rw (c.as_slice-told.ensures.value, c.in_ok-told.ensures.told) (omega (arith, small, count, few, is))
