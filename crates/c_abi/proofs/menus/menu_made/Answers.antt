use Rattle.std.proofs.Common.{subst, sym}
use Rattle.bl_session.specs.menu.MenuFaults.{AreEntryIndices}
use Rattle.c_records.specs.MenuGiven.{IsNoMenu}
use Rattle.c_abi.proofs.MenuLemmas.{entry_count, few_given, no_menu_is, no_entries_is}
use Rattle.c_abi.proofs.menus.menu_made.Goals as goal

pub returns-in-Err-clause-fault : goal.returns-in-Err-clause-fault
returns-in-Err-clause-fault g c =
    no_entries_is c.args.entries.now c.args.default c.args.fallbacks.now c.in-Err.fault
    c.in-Err.ensures.fault

pub returns-in-Ok-new-clause-few : goal.returns-in-Ok-new-clause-few
returns-in-Ok-new-clause-few g c =
    few_given c.args.entries.now c.in-Ok.typed.items c.in-Ok.ensures.facts
    c.in-Ok-new.ensures.allowed.0

pub returns-in-Ok-new-clause-named : goal.returns-in-Ok-new-clause-named
returns-in-Ok-new-clause-named g c =
    subst (λ n. AreEntryIndices n c.args.default c.args.fallbacks.now)
    (entry_count c.args.entries.now c.in-Ok.typed.items c.in-Ok.ensures.facts)
    c.in-Ok-new.ensures.allowed.1

pub returns-in-Err-new-clause-fault : goal.returns-in-Err-new-clause-fault
returns-in-Err-new-clause-fault g c =
    let rows = c.args.entries.now in
    subst (IsNoMenu rows c.args.default c.args.fallbacks.now) (sym c.given_fault_of_menu.ensures)
    (no_menu_is rows c.args.default c.args.fallbacks.now c.in-Ok.typed.items
    c.in-Err-new.fault c.in-Ok.ensures.facts c.in-Ok.ensures.limits
    c.in-Err-new.ensures.first_fault)
