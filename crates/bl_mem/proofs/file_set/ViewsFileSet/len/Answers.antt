use Rattle.std.proofs.Common.{◌<◌, ◌∙◌, ℕ, List, [], length, ap, sym, arith}
use Rattle.std.proofs.lemmas.List.{get_or-map, length-map}
use Rattle.std.proofs.lemmas.Grind.{common_steps}
use Rattle.bl_mem.proofs.file_set.ViewsFileSet.len.Goals as goal

pub bounds-self-file : goal.bounds-self-file
bounds-self-file g c =
    let many = length-map c.args.self.now.views.now g.V.ByteView.bytes in
    omega (arith, c.requires.file, many)

pub returns : goal.returns
returns g c =
    let views = c.args.self.now.views.now in
    let many = length-map views g.V.ByteView.bytes in
    let within : c.args.file < length views = omega (arith, c.requires.file, many) in
    c.len.ensures
    ∙ ap (λ (text : List ℕ). length text)
    (sym (get_or-map g.V.ByteView.bytes views c.args.file c.index-self-file.result [] within))

pub offset_bounds-self-file : goal.offset_bounds-self-file
offset_bounds-self-file g c = grind (arith, common_steps)
