use Rattle.std.proofs.Common.{◌∙◌, ap, arith, map}
use Rattle.std.proofs.lemmas.List.{take_all}
use Rattle.program_desc.specs.EntryNames.{file_index}
use Rattle.program_boots.proofs.described_lemmas.MenuLemmas.{modules_more}
use Rattle.program_boots.proofs.described.menu.modules_of.Goals as goal

pub loop-row-preserved : goal.loop-row-preserved
loop-row-preserved g c =
    let names = map (λ n. n.now) c.args.names.now in
    modules_more names c.args.rows.now c.loop-row.row-index c.row-item.result
    c.loop-row.modules.items _ _ c.row-item.is c.loop-row-test.true c.in_ok-push.ensures.items
    (c.file_index.ensures.index ∙ ap (file_index names) c.as_str.ensures)
    (c.in_ok-copy.ensures.ok ∙ c.as_bytes.ensures.value ∙ c.as_str-in-loop-row.ensures)
    c.loop-row.invariant.0 c.loop-row.invariant.1 c.loop-row.invariant.2

pub returns : goal.returns
returns g c =
    let past = c.loop-row-test.false in record {
      files = rw (take_all c.loop-row.row-index c.args.rows.now past) at c.loop-row.invariant.0;
      lines = rw (take_all c.loop-row.row-index c.args.rows.now past) at c.loop-row.invariant.1;
      count = omega (arith, c.loop-row.invariant.2, past, c.loop-row.auto.row-index-end);
    }
