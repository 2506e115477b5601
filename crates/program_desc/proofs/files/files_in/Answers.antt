use Rattle.std.proofs.Common.{◌∙◌, map}
use Rattle.std.proofs.lemmas.Result.{err_from_is_err_and}
use Rattle.program_desc.specs.TomlValues.{in_table}
use Rattle.program_desc.specs.Described.{file_in}
use Rattle.program_desc.specs.Views.{file_view}
use Rattle.program_desc.proofs.ItemLemmas.{front_none, one_more, all_read, one_fails}
use Rattle.program_desc.proofs.files.files_in.Goals as goal

pub loop-i-init : goal.loop-i-init
loop-i-init g c = rw c.new-files.ensures.items (front_none _)

pub loop-i-preserved : goal.loop-i-preserved
loop-i-preserved g c =
    let one =
    one_more file_view (in_table file_in) c.args.items.now c.loop-i.i c.index-items-i.result
    c.loop-i.files.items c.push.new.self.items c.in_ok-file.file
    c.loop-i-test.true c.index-items-i.is c.in_ok-file.ensures c.in_ok-push.ensures.items in
    one ∙ c.loop-i.invariant

pub returns : goal.returns
returns g c =
    all_read (in_table file_in) c.args.items.now c.loop-i.i
    (map file_view c.loop-i.files.items) c.loop-i-test.false c.loop-i.invariant

pub returns-in_err-file : goal.returns-in_err-file
returns-in_err-file g c =
    let p = err_from_is_err_and c.from_residual.result c.from_residual.ensures.1 in
    rw (p.1, p.2)
    (one_fails _ (in_table file_in) c.args.items.now c.loop-i.i c.index-items-i.result
    (map file_view c.loop-i.files.items) _ c.loop-i-test.true c.index-items-i.is
    c.in_err-file.ensures c.loop-i.invariant)

pub returns-in_err-push : goal.returns-in_err-push
returns-in_err-push g c =
    let p =
    err_from_is_err_and c.from_residual-in_err-push.result c.from_residual-in_err-push.ensures.1 in
    rw (p.1, p.2) tt
