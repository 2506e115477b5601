use Rattle.std.proofs.Common.{length}
use Rattle.std.proofs.lemmas.Result.{IfErr-weaker}
use Rattle.bl_session.specs.menu.MenuFaults.{AreEntryIndices}
use Rattle.c_records.specs.MenuGiven.{misused, no_menu, AreFewGiven, IsMenuAllowed, IsMenuFault}
use Rattle.c_records.specs.MenuGiven.{IsNoMenu}
use Rattle.c_abi.proofs.ResultLemmas.{ok_by_both}
use Rattle.c_abi.proofs.menus.menu_of.Goals as goal

pub returns-in-Err-clause-fault : goal.returns-in-Err-clause-fault
returns-in-Err-clause-fault g c = misused c.in-Err.misuse c.in-Err.ensures

pub returns-clause-allowed : goal.returns-clause-allowed
returns-clause-allowed g c =
    let entries = c.args.entries.now in
    let default = c.args.default in
    let fallbacks = c.args.fallbacks.now in
    ok_by_both c.menu_made.result (λ _. AreFewGiven entries)
    (λ _. AreEntryIndices (length entries) default fallbacks)
    (λ _. IsMenuAllowed entries default fallbacks)
    (λ _ few named. record { sound = c.in_default.ensures; few = few; named = named })
    c.menu_made.ensures.few c.menu_made.ensures.named

pub returns-clause-fault : goal.returns-clause-fault
returns-clause-fault g c =
    let entries = c.args.entries.now in
    let default = c.args.default in
    let fallbacks = c.args.fallbacks.now in
    IfErr-weaker c.menu_made.result (IsNoMenu entries default fallbacks)
    (IsMenuFault entries default fallbacks) (λ fault is. no_menu c.in_default.ensures fault is)
    c.menu_made.ensures.fault
