use Rattle.std.proofs.Common.{refl}
use Rattle.std.proofs.lemmas.Result.{err_from_is_err_and}
use Rattle.program_commands.proofs.AskedLemmas.{all_sought, first_sought, none_sought}
use Rattle.program_commands.proofs.EndLemmas.{case_of, digested_by, offered, undigested}
use Rattle.program_commands.proofs.digesting.run_digest.Goals as goal

pub ready_boot-requires-clause-menu : goal.ready_boot-requires-clause-menu
ready_boot-requires-clause-menu g c = c.in_ok-read.ensures.read.menu

pub ready_boot-requires-clause-faults : goal.ready_boot-requires-clause-faults
ready_boot-requires-clause-faults g c = c.requires

pub returns-in_err-read : goal.returns-in_err-read
returns-in_err-read g c =
    let p =
    err_from_is_err_and c.from_residual.result
    c.from_residual.ensures.1 in
    rw (p.1, p.2)
    (record {
      ends = undigested g.F.Files.answers g.F.Files.faults c.args.desc.now c.args.files.now
          c.args.say.now.items _ c.in_err-read.ensures.fault;
      sought = none_sought g.F.Files.answers g.F.Files.faults g.F.Files.asked c.args.desc.now
          c.args.files.now _;
    })

pub returns-in_err-ready : goal.returns-in_err-ready
returns-in_err-ready g c =
    let p =
    err_from_is_err_and c.from_residual-in_err-ready.result c.from_residual-in_err-ready.ensures.1
    in
    let ready = c.in_err-ready.ensures in
    rw (p.1, p.2)
    (record {
      ends = refl;
      sought = first_sought g.F.Files.answers g.F.Files.faults g.F.Files.asked c.args.desc.now
          c.in_ok-read.read.description c.in_ok-read.ensures.read.given _ _ ready.inline ready.same
          ready.missing ready.few ready.asked_first;
    })

pub returns-clause-sought : goal.returns-clause-sought
returns-clause-sought g c =
    let ready = c.in_ok-ready.ensures in
    all_sought g.F.Files.answers g.F.Files.faults g.F.Files.asked c.args.desc.now
    c.in_ok-read.read.description c.in_ok-read.ensures.read.given _ _ ready.inline ready.same
    ready.missing ready.few c.digest_found.result ready.asked

pub returns-clause-ends : goal.returns-clause-ends
returns-clause-ends g c =
    let read = c.in_ok-read.ensures.read in
    let ready = c.in_ok-ready.ensures in
    let case =
    case_of g.F.Files.answers g.F.Files.faults c.args.desc.now c.in_ok-read.read.description
    read.given c.in_ok-read.read.machine read.machine _ _ c.in_ok-ready.ready.store.files
    ready.found in
    digested_by case (offered case c.in_ok-ready.ready.menu ready.menu ready.well_formed) _ _
    c.digest_found.result (rw (ready.menu, c.fetched.ensures) at c.digest_found.ensures)
