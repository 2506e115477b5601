use Rattle.std.proofs.Common.{ap, arith, ◌∙◌}
use Rattle.std.proofs.lemmas.List.{take_all}
use Rattle.c_records.proofs.ListLemmas.{one_more_mapped}
use Rattle.c_records.proofs.NumberLemmas.{one_more_numbered}
use Rattle.c_records.proofs.entries.modules_of.Goals as goal

pub loop-row-preserved : goal.loop-row-preserved
loop-row-preserved g c = (
  omega (arith, c.loop-row.invariant.0),
  one_more_numbered c.loop-row.modules.items c.push.new.self.items c.in_ok-new.field-0
      c.args.rows.now c.args.first c.loop-row.row-index (λ m. m.file) c.loop-row-test.true
      c.in_ok-push.ensures.items
      (ap (λ m. m.file) c.in_ok-new.ensures ∙ c.loop-row.invariant.0)
      c.loop-row.invariant.1,
  one_more_mapped c.loop-row.modules.items c.push.new.self.items c.in_ok-new.field-0
      c.args.rows.now c.loop-row.row-index _ (λ m. m.line) (λ m. m.line.now) c.loop-row-test.true
      c.in_ok-push.ensures.items (ap (λ m. m.line) c.in_ok-new.ensures)
      c.loop-row.invariant.2,
)

pub overflow_add-file : goal.overflow_add-file
overflow_add-file g c =
    omega (arith, c.requires, c.loop-row.invariant.0, c.loop-row-test.true)

pub returns-clause-files : goal.returns-clause-files
returns-clause-files g c =
    rw (take_all c.loop-row.row-index c.args.rows.now c.loop-row-test.false)
    at c.loop-row.invariant.1

pub returns-clause-lines : goal.returns-clause-lines
returns-clause-lines g c =
    rw (take_all c.loop-row.row-index c.args.rows.now c.loop-row-test.false)
    at c.loop-row.invariant.2
