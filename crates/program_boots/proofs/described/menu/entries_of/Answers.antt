use Rattle.std.proofs.Common.{map, arith}
use Rattle.std.proofs.lemmas.List.{length-append, take_all}
use Rattle.bl_load.specs.EntryValue.{IsWithinLimits}
use Rattle.program_boots.proofs.described_lemmas.MenuLemmas.{entries_more}
use Rattle.program_boots.proofs.described_lemmas.ValueLemmas.{all_more}
use Rattle.program_boots.proofs.described.menu.entries_of.Goals as goal

pub loop-row-preserved : goal.loop-row-preserved
loop-row-preserved g c =
    let entries = c.loop-row.entries.items in
    let entry = c.in_ok-entry_of.field-0 in
    let count = c.loop-row.invariant.1 in (
      rw c.in_ok-push.ensures.items
          (entries_more (map (λ n. n.now) c.args.names.now) c.args.rows.now c.loop-row.row-index
          c.row-item.result
          entries entry c.row-item.is c.loop-row-test.true c.loop-row.invariant.0
          c.in_ok-entry_of.ensures.entry),
      rw (c.in_ok-push.ensures.items, length-append) (omega (arith, count)),
      all_more IsWithinLimits entries _ entry c.in_ok-push.ensures.items c.loop-row.invariant.2
          c.in_ok-entry_of.ensures.few,
    )

pub returns : goal.returns
returns g c =
    let past = c.loop-row-test.false in record {
      entries = rw (take_all c.loop-row.row-index c.args.rows.now past) at c.loop-row.invariant.0;
      count = omega (arith, c.loop-row.invariant.1, past, c.loop-row.auto.row-index-end);
      few = c.loop-row.invariant.2;
    }
