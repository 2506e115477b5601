use Rattle.std.proofs.Common.{◌≡◌, ℕ, ◌+◌, List, length, slice_range, ap, sym, ◌∙◌, arith, subst}
use Rattle.std.specs.Prelude.{IfSome}
use Rattle.bl_stage.specs.Staged.{staged}
use Rattle.bl_stage.proofs.FrameLemmas.{staged_length}
use Rattle.bl_stage.proofs.TextLemmas.{table_below, staged_text}
use Rattle.bl_stage.proofs.files.StageFileSet.address.Goals as goal

pub lies_in-requires-clause-file : goal.lies_in-requires-clause-file
lies_in-requires-clause-file g c =
    (staged_text c.args.self.now (g.M.PhysMem.bytes c.args.memory.now) c.args.file
    c.requires.file).0

pub lies_in-requires-clause-inside : goal.lies_in-requires-clause-inside
lies_in-requires-clause-inside g c =
    let bytes = g.M.PhysMem.bytes c.args.memory.now in
    let file = staged_text c.args.self.now bytes c.args.file c.requires.file in
    table_below c.args.self.now c.args.file (length bytes) c.are_staged.ensures file.0
    c.requires.held

pub address-requires : goal.address-requires
address-requires g c =
    let file =
    staged_text c.args.self.now (g.M.PhysMem.bytes c.args.memory.now) c.args.file
    c.requires.file in
    let view = c.lies_in.result in
    let size =
    staged_length (g.M.PhysMem.bytes view.memory.now) view.frames.now view.size in
    let whole = ap (λ t. length t) (c.lies_in.ensures.bytes ∙ sym file.1) in
    omega (arith, c.requires.inside, size, whole)

pub returns-clause-within : goal.returns-clause-within
returns-clause-within g c = rw (← c.lies_in.ensures.memory) c.address.ensures.within

pub returns-clause-same : goal.returns-clause-same
returns-clause-same g c =
    let file =
    staged_text c.args.self.now (g.M.PhysMem.bytes c.args.memory.now) c.args.file
    c.requires.file in
    let bytes = g.M.PhysMem.bytes c.args.memory.now in
    let view = c.lies_in.result in
    let found = c.address.result in
    let at = c.args.at in
    let count = c.args.count in
    subst
    (λ (text : List ℕ). IfSome found (λ address.
    slice_range bytes address (address + count) ≡ slice_range text at (at + count)))
    (c.lies_in.ensures.bytes ∙ sym file.1)
    (subst
    (λ (held : List ℕ). IfSome found (λ address.
    slice_range held address (address + count)
    ≡ slice_range (staged (g.M.PhysMem.bytes view.memory.now) view.frames.now view.size) at
    (at + count)))
    c.lies_in.ensures.memory c.address.ensures.same)
