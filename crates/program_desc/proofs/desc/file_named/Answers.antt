use Rattle.std.proofs.Common.{◌∙◌, sym, map}
use Rattle.std.proofs.lemmas.List.{at_drop_all}
use Rattle.program_desc.specs.Described as spec
use Rattle.program_desc.specs.Views.{file_view}
use Rattle.program_desc.proofs.FileLemmas.{file_named-step}
use Rattle.program_desc.proofs.desc.file_named.Goals as goal

pub loop-file-preserved : goal.loop-file-preserved
loop-file-preserved g c =
    let step =
    file_named-step c.args.name.now c.args.files.now c.loop-file.file-index c.file-item.result _
    c.loop-file-test.true c.file-item.is (rw c.as_str.ensures at c.if-eq.ensures) in
    sym step ∙ c.loop-file.invariant

pub returns-then-eq : goal.returns-then-eq
returns-then-eq g c =
    let step =
    file_named-step c.args.name.now c.args.files.now c.loop-file.file-index c.file-item.result _
    c.loop-file-test.true c.file-item.is (rw c.as_str.ensures at c.if-eq.ensures) in
    rw c.as_slice.ensures (sym step ∙ c.loop-file.invariant)

pub returns : goal.returns
returns g c =
    let none =
    at_drop_all (λ fs. spec.file_named c.args.name.now (map file_view fs)) c.args.files.now
    c.loop-file.file-index c.loop-file-test.false in
    sym none ∙ c.loop-file.invariant
