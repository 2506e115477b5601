use Rattle.std.proofs.Common.{◌+◌, length, slice_range, ap, sym, ◌∙◌}
use Rattle.bl_stage.proofs.TextLemmas.{table_below, staged_text}
use Rattle.bl_stage.proofs.files.StageFileSet.read.Goals as goal

pub lies_in-requires-clause-file : goal.lies_in-requires-clause-file
lies_in-requires-clause-file g c =
    (staged_text c.args.self.now (g.M.PhysMem.bytes c.args.memory.now) c.args.file
    c.requires.file).0

pub lies_in-requires-clause-inside : goal.lies_in-requires-clause-inside
lies_in-requires-clause-inside g c =
    let bytes = g.M.PhysMem.bytes c.args.memory.now in
    let file = staged_text c.args.self.now bytes c.args.file c.requires.file in
    table_below c.args.self.now c.args.file (length bytes) c.are_staged.ensures file.0
    c.requires.held

pub read-requires : goal.read-requires
read-requires g c =
    let file =
    staged_text c.args.self.now (g.M.PhysMem.bytes c.args.memory.now) c.args.file
    c.requires.file in
    rw (c.lies_in.ensures.bytes, ← file.1) c.requires.inside

pub returns : goal.returns
returns g c =
    let file =
    staged_text c.args.self.now (g.M.PhysMem.bytes c.args.memory.now) c.args.file
    c.requires.file in
    c.read.ensures
    ∙ ap (λ t. slice_range t c.args.at (c.args.at + length c.args.out.now))
    (c.lies_in.ensures.bytes ∙ sym file.1)
