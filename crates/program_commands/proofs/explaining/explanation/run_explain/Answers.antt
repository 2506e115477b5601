use Rattle.std.proofs.Common.{◌∙◌, length, ap}
use Rattle.std.proofs.lemmas.List.{length-replicate}
use Rattle.std.proofs.lemmas.Result.{err_from_is_err_and}
use Rattle.program_commands.proofs.AskedLemmas.{all_sought, first_sought, none_sought}
use Rattle.program_commands.proofs.EndLemmas.{case_of, explained_by, unexplained, unmade}
use Rattle.program_commands.proofs.explaining.explanation.run_explain.Goals as goal

pub ready_boot-requires-clause-menu : goal.ready_boot-requires-clause-menu
ready_boot-requires-clause-menu g c = c.in_ok-description.ensures.menu

pub ready_boot-requires-clause-faults : goal.ready_boot-requires-clause-faults
ready_boot-requires-clause-faults g c = c.requires

pub explain_found-requires-clause-size : goal.explain_found-requires-clause-size
explain_found-requires-clause-size g c =
    ap length c.in_ok-ready.ensures.memory
    ∙ length-replicate c.size.result c.in_ok-description.description.fill ∙ c.size.ensures.size

pub explain_found-requires-clause-store : goal.explain_found-requires-clause-store
explain_found-requires-clause-store g c = c.in_ok-ready.ensures.given

pub explain_found-requires-clause-few : goal.explain_found-requires-clause-few
explain_found-requires-clause-few g c = c.in_ok-description.ensures.menu.1

pub explain_found-requires-clause-menu : goal.explain_found-requires-clause-menu
explain_found-requires-clause-menu g c = c.in_ok-ready.ensures.menu

pub explain_found-requires-clause-names : goal.explain_found-requires-clause-names
explain_found-requires-clause-names g c = rw c.deref.ensures.value c.in_ok-ready.ensures.names

pub returns-in_err-description : goal.returns-in_err-description
returns-in_err-description g c =
    let p =
    err_from_is_err_and c.from_residual.result
    c.from_residual.ensures.1 in
    rw (p.1, p.2)
    (record {
      ends = unexplained g.F.Files.answers g.F.Files.faults c.args.desc.now g.row.A.Denot
          c.args.files.now c.args.say.now.items _ _ c.in_err-description.ensures;
      sought = none_sought g.F.Files.answers g.F.Files.faults g.F.Files.asked c.args.desc.now
          c.args.files.now _;
    })

pub returns-in_err-machine : goal.returns-in_err-machine
returns-in_err-machine g c =
    let p =
    err_from_is_err_and c.from_residual-in_err-machine.result
    c.from_residual-in_err-machine.ensures.1 in
    rw (p.1, p.2)
    (record {
      ends = unmade g.F.Files.answers g.F.Files.faults c.args.desc.now
          c.in_ok-description.description c.in_ok-description.ensures.given g.row.A.Denot
          c.args.files.now c.args.say.now.items _ _ (rw c.in_ok-description.ensures.kept
          at c.in_err-machine.ensures);
      sought = none_sought g.F.Files.answers g.F.Files.faults g.F.Files.asked c.args.desc.now
          c.args.files.now _;
    })

pub returns-in_err-ready : goal.returns-in_err-ready
returns-in_err-ready g c =
    let p =
    err_from_is_err_and c.from_residual-in_err-ready.result c.from_residual-in_err-ready.ensures.1
    in
    let ready = c.in_err-ready.ensures in
    rw (p.1, p.2)
    (record {
      ends = c.in_ok-machine.ensures.kept ∙ c.in_ok-description.ensures.kept;
      sought = first_sought g.F.Files.answers g.F.Files.faults g.F.Files.asked c.args.desc.now
          c.in_ok-description.description c.in_ok-description.ensures.given _ _ ready.inline
          ready.same ready.missing ready.few ready.asked_first;
    })

pub returns-clause-sought : goal.returns-clause-sought
returns-clause-sought g c =
    let ready = c.in_ok-ready.ensures in
    all_sought g.F.Files.answers g.F.Files.faults g.F.Files.asked c.args.desc.now
    c.in_ok-description.description c.in_ok-description.ensures.given _ _ ready.inline ready.same
    ready.missing ready.few c.explain_found.result ready.asked

pub returns-clause-ends : goal.returns-clause-ends
returns-clause-ends g c =
    let ready = c.in_ok-ready.ensures in
    let case =
    case_of g.F.Files.answers g.F.Files.faults c.args.desc.now c.in_ok-description.description
    c.in_ok-description.ensures.given c.in_ok-machine.machine c.in_ok-machine.ensures.machine _ _
    c.in_ok-ready.ready.store.files ready.found in
    explained_by case g.row.A.Denot _ _ c.explain_found.result
    (rw (
      ready.menu,
      c.deref.ensures.value,
      ready.names,
      c.in_ok-machine.ensures.kept,
      c.in_ok-description.ensures.kept,
    ) at c.explain_found.ensures)
