use Rattle.std.proofs.Common.{◌≡◌, ◌==◌, true, false, [], rules, refl, arith, inr}
use Rattle.std.proofs.lemmas.Result.{err_from_is_err_and}
use Rattle.bl_load.specs.EntryValue.{value_of}
use Rattle.c_records.specs.Given.{entry_without_files}
use Rattle.c_records.proofs.EntryLemmas.{few_counted, too_large}
use Rattle.c_records.proofs.NumberLemmas.{count_by_facts, multiboot2_facts}
use Rattle.c_records.proofs.entries.entry_of.Goals as goal

pub returns-then-not-is_within_limits-clause-fault :
    goal.returns-then-not-is_within_limits-clause-fault
returns-then-not-is_within_limits-clause-fault g c =
    let value : value_of [] c.in_ok-entry.entry ≡ entry_without_files c.args.row.now =
    search rules in
    inr (
      refl,
      few_counted c.args.row.now (omega arith),
      too_large c.args.row.now c.in_ok-entry.entry value
          (λ limits.
          let within : c.is_within_limits.result ≡ true = c.is_within_limits.ensures.1 limits in
          absurd (search rules)),
    )

pub returns-clause-facts : goal.returns-clause-facts
returns-clause-facts g c =
    let value : value_of [] c.in_ok-entry.entry ≡ entry_without_files c.args.row.now =
    search rules in
    let is : (c.args.row.now.protocol == 1) ≡ true = search rules in
    multiboot2_facts c.in_ok-entry.entry c.args.row.now c.args.before is
    c.in_ok-entry.ensures.files value

pub returns-then-not-is_of-clause-value : goal.returns-then-not-is_of-clause-value
returns-then-not-is_of-clause-value g c =
    let is : (c.args.row.now.protocol == 1) ≡ false = search rules in
    rw is c.in_ok-linux_of.ensures.value

pub returns-clause-value : goal.returns-clause-value
returns-clause-value g c =
    let is : (c.args.row.now.protocol == 1) ≡ true = search rules in
    rw is c.in_ok-entry.ensures.value

pub returns-clause-count : goal.returns-clause-count
returns-clause-count g c =
    count_by_facts c.in_ok-entry.entry c.args.row.now c.args.before (returns-clause-facts g c)

pub returns-then-not-is_within_limits-clause-value :
    goal.returns-then-not-is_within_limits-clause-value
returns-then-not-is_within_limits-clause-value g c = tt

pub returns-then-not-is_within_limits-clause-facts :
    goal.returns-then-not-is_within_limits-clause-facts
returns-then-not-is_within_limits-clause-facts g c = tt

pub returns-then-not-is_within_limits-clause-count :
    goal.returns-then-not-is_within_limits-clause-count
returns-then-not-is_within_limits-clause-count g c = tt

pub returns-then-not-is_within_limits-clause-limits :
    goal.returns-then-not-is_within_limits-clause-limits
returns-then-not-is_within_limits-clause-limits g c = tt

pub returns-clause-fault : goal.returns-clause-fault
returns-clause-fault g c = tt

pub returns-then-not-is_of-clause-fault : goal.returns-then-not-is_of-clause-fault
returns-then-not-is_of-clause-fault g c = tt

pub returns-in_err-entry-clause-value : goal.returns-in_err-entry-clause-value
returns-in_err-entry-clause-value g c =
    let p =
    err_from_is_err_and c.from_residual-in_err-entry.result
    c.from_residual-in_err-entry.ensures.1 in
    rw p.1 tt

pub returns-in_err-linux_of-clause-value : goal.returns-in_err-linux_of-clause-value
returns-in_err-linux_of-clause-value g c =
    let p = err_from_is_err_and c.from_residual.result c.from_residual.ensures.1 in
    rw p.1 tt

pub returns-in_err-entry-clause-facts : goal.returns-in_err-entry-clause-facts
returns-in_err-entry-clause-facts g c =
    let p =
    err_from_is_err_and c.from_residual-in_err-entry.result
    c.from_residual-in_err-entry.ensures.1 in
    rw p.1 tt

pub returns-in_err-linux_of-clause-facts : goal.returns-in_err-linux_of-clause-facts
returns-in_err-linux_of-clause-facts g c =
    let p = err_from_is_err_and c.from_residual.result c.from_residual.ensures.1 in
    rw p.1 tt

pub returns-in_err-entry-clause-count : goal.returns-in_err-entry-clause-count
returns-in_err-entry-clause-count g c =
    let p =
    err_from_is_err_and c.from_residual-in_err-entry.result
    c.from_residual-in_err-entry.ensures.1 in
    rw p.1 tt

pub returns-in_err-linux_of-clause-count : goal.returns-in_err-linux_of-clause-count
returns-in_err-linux_of-clause-count g c =
    let p = err_from_is_err_and c.from_residual.result c.from_residual.ensures.1 in
    rw p.1 tt

pub returns-in_err-entry-clause-limits : goal.returns-in_err-entry-clause-limits
returns-in_err-entry-clause-limits g c =
    let p =
    err_from_is_err_and c.from_residual-in_err-entry.result
    c.from_residual-in_err-entry.ensures.1 in
    rw p.1 tt

pub returns-in_err-linux_of-clause-limits : goal.returns-in_err-linux_of-clause-limits
returns-in_err-linux_of-clause-limits g c =
    let p = err_from_is_err_and c.from_residual.result c.from_residual.ensures.1 in
    rw p.1 tt
