use Rattle.std.proofs.Common.{◌∙◌, All, arith, rules, subst, sym}
use Rattle.std.proofs.lemmas.List.Elements.{All-push}
use Rattle.std.proofs.lemmas.List.{take_all}
use Rattle.bl_load.specs.EntryValue.{IsWithinLimits}
use Rattle.c_abi.proofs.MenuLemmas.{facts_more, count_more, entry_count, few_files}
use Rattle.c_abi.proofs.MenuLemmas.{size_fault_is}
use Rattle.c_abi.proofs.menus.entries_of.Goals as goal

pub returns-in-Err-clause-fault : goal.returns-in-Err-clause-fault
returns-in-Err-clause-fault g c =
    size_fault_is c.args.records.now c.loop-record.record-index _ c.in-Err.fault
    c.loop-record-test.true (omega (arith, c.if-records-gt-MAX_ENTRIES.false))
    (search rules) c.in-Err.ensures.fault

pub overflow_cast-before : goal.overflow_cast-before
overflow_cast-before g c =
    let few = few_files c.in-Ok.entry c.in-Ok.ensures.limits in
    omega (arith, few, c.file_count.ensures)

pub overflow_add-before : goal.overflow_add-before
overflow_add-before g c =
    let few = few_files c.in-Ok.entry c.in-Ok.ensures.limits in
    let so_far = c.loop-record.invariant.few in
    let most = c.if-records-gt-MAX_ENTRIES.false in
    let within = c.loop-record-test.true in
    omega (arith, few, c.file_count.ensures, so_far, most, within)

pub loop-record-preserved : goal.loop-record-preserved
loop-record-preserved g c =
    let rows = c.args.records.now in
    let i = c.loop-record.record-index in
    let within = c.loop-record-test.true in
    let so_far = c.loop-record.invariant in
    let few = few_files c.in-Ok.entry c.in-Ok.ensures.limits in
    record {
      facts =
          facts_more rows i c.loop-record.before _ c.loop-record.entries.items
          c.push.new.self.items c.in-Ok.entry within so_far.count c.in-Ok-push.ensures.items
          c.in-Ok.ensures.facts so_far.facts;
      count =
          count_more rows i c.loop-record.before c.file_count.result _ within so_far.count
          (c.file_count.ensures ∙ c.in-Ok.ensures.count);
      few = omega (arith, few, c.file_count.ensures, so_far.few);
      limits =
          subst (All IsWithinLimits) (sym c.in-Ok-push.ensures.items)
          (All-push IsWithinLimits c.loop-record.entries.items c.in-Ok.entry so_far.limits
          c.in-Ok.ensures.limits);
    }

pub entry_of-requires : goal.entry_of-requires
entry_of-requires g c =
    let so_far = c.loop-record.invariant.few in
    let most = c.if-records-gt-MAX_ENTRIES.false in
    let within = c.loop-record-test.true in
    omega (arith, so_far, most, within)

pub returns-clause-facts : goal.returns-clause-facts
returns-clause-facts g c =
    rw (take_all c.loop-record.record-index c.args.records.now c.loop-record-test.false)
    at c.loop-record.invariant.facts

pub returns-clause-limits : goal.returns-clause-limits
returns-clause-limits g c =
    let facts = returns-clause-facts g c in
    let count = entry_count c.args.records.now c.loop-record.entries.items facts in
    let most = c.if-records-gt-MAX_ENTRIES.false in
    (omega (arith, count, most), c.loop-record.invariant.limits)
