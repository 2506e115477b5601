use Rattle.std.proofs.Common.{ℕ, List, length, slice_index, ap, sym, ◌∙◌}
use Rattle.bl_stage.specs.Staged.{frames_of_file}
use Rattle.bl_stage.proofs.FrameLemmas.{staged_length}
use Rattle.bl_stage.proofs.TextLemmas.{staged_text}
use Rattle.bl_stage.proofs.files.StageFileSet.len.Goals as goal

pub size_of-requires : goal.size_of-requires
size_of-requires g c =
    (staged_text c.args.self.now (g.M.PhysMem.bytes c.args._memory.now) c.args.file
    c.requires.file).0

pub returns : goal.returns
returns g c =
    let stage = c.args.self.now in
    let bytes = g.M.PhysMem.bytes c.args._memory.now in
    let size = slice_index stage.sizes c.args.file in
    c.size_of.ensures ∙ sym (staged_length bytes (frames_of_file stage c.args.file) size)
    ∙ ap (λ (t : List ℕ). length t) (sym (staged_text stage bytes c.args.file c.requires.file).1)
