use Rattle.std.proofs.Common.{◌<◌, ℕ}
use Rattle.std.proofs.lemmas.List.Elements.{All-from_get_or}
use Rattle.bl_load.proofs.LineLemmas.{sound_text}
use Rattle.bl_load.proofs.multiboot2.information.text_of.Goals as goal

pub returns-clause-text : goal.returns-clause-text
returns-clause-text c =
    sound_text c.args.line.now c.requires.sound
    (All-from_get_or (λ (b : ℕ). b < 256) c.args.line.now 0 (λ i _. (c.type_inv.line i).fits))
