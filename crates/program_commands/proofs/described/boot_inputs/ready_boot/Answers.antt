use Rattle.std.proofs.Common.{◌≡◌, ◌∙◌, length, refl, ap, arith}
use Rattle.std.proofs.lemmas.Result.{err_from_is_err_and}
use Rattle.program_desc.specs.Views.{view}
use Rattle.program_boots.specs.described.DescribedMenu.{attempted_file_names, max_names}
use Rattle.program_commands.proofs.AskedLemmas.{none_asked, none_missing}
use Rattle.program_boots.proofs.described_lemmas.NameLemmas.{as_many, few_missing, few_seen}
use Rattle.program_commands.proofs.described.boot_inputs.ready_boot.Goals as goal

pub attempted_file_names-requires : goal.attempted_file_names-requires
attempted_file_names-requires g c = c.requires.menu

pub menu_of-requires-clause-menu : goal.menu_of-requires-clause-menu
menu_of-requires-clause-menu g c = c.requires.menu

pub menu_of-requires-clause-names : goal.menu_of-requires-clause-names
menu_of-requires-clause-names g c = rw c.deref.ensures.value c.in_ok-names.ensures.names

pub menu_of-requires-clause-few : goal.menu_of-requires-clause-few
menu_of-requires-clause-few g c =
    few_seen c.in_ok-names.names.items c.deref.result.now c.deref.ensures.value
    c.in_ok-names.ensures.few

pub returns-in_err-names : goal.returns-in_err-names
returns-in_err-names g c =
    let p = err_from_is_err_and c.from_residual.result c.from_residual.ensures.1 in
    let faults = g.F.Files.faults c.args.files.now in
    rw p.1
    (record {
      names = tt;
      menu = tt;
      well_formed = tt;
      memory = tt;
      found = tt;
      order = tt;
      given = tt;
      asked = tt;
      asked_first = none_asked _ (g.F.Files.asked c.args.files.now);
      inline = λ _. refl;
      same = λ file answer told. told;
      missing = none_missing faults
          (length (attempted_file_names (view c.args.description.now)));
      few = (none_missing faults max_names).1;
    })

pub returns-in_err-menu : goal.returns-in_err-menu
returns-in_err-menu g c =
    let p = err_from_is_err_and c.from_residual-in_err-menu.result c.from_residual-in_err-menu.ensures.1 in
    let faults = g.F.Files.faults c.args.files.now in
    rw p.1
    (record {
      names = tt;
      menu = tt;
      well_formed = tt;
      memory = tt;
      found = tt;
      order = tt;
      given = tt;
      asked = tt;
      asked_first = none_asked _ (g.F.Files.asked c.args.files.now);
      inline = λ _. refl;
      same = λ file answer told. told;
      missing = none_missing faults
          (length (attempted_file_names (view c.args.description.now)));
      few = (none_missing faults max_names).1;
    })

pub returns-in_err-memory : goal.returns-in_err-memory
returns-in_err-memory g c =
    let p = err_from_is_err_and c.from_residual-in_err-memory.result c.from_residual-in_err-memory.ensures.1 in
    let faults = g.F.Files.faults c.args.files.now in
    rw p.1
    (record {
      names = tt;
      menu = tt;
      well_formed = tt;
      memory = tt;
      found = tt;
      order = tt;
      given = tt;
      asked = tt;
      asked_first = none_asked _ (g.F.Files.asked c.args.files.now);
      inline = λ _. refl;
      same = λ file answer told. told;
      missing = none_missing faults
          (length (attempted_file_names (view c.args.description.now)));
      few = (none_missing faults max_names).1;
    })

pub find_files-requires : goal.find_files-requires
find_files-requires g c =
    few_missing (g.F.Files.faults c.args.files.now) c.in_ok-names.names.items
    c.deref-2.result.now c.deref-2.ensures.value c.in_ok-names.ensures.few c.requires.faults

pub returns-in_err-found-clause-inline : goal.returns-in_err-found-clause-inline
returns-in_err-found-clause-inline g c = λ all. c.in_err-found.ensures.inline
    (rw (c.deref-2.ensures.value, c.in_ok-names.ensures.names) all)

pub returns-clause-inline : goal.returns-clause-inline
returns-clause-inline g c = λ all. c.in_ok-found.ensures.inline
    (rw (c.deref-2.ensures.value, c.in_ok-names.ensures.names) all)

pub returns-in_err-found-clause-missing : goal.returns-in_err-found-clause-missing
returns-in_err-found-clause-missing g c =
    let missing = c.in_err-found.ensures.missing in
    let count : length c.deref-2.result.now ≡ length (attempted_file_names (view c.args.description.now)) =
    ap length c.deref-2.ensures.value
    ∙ as_many c.in_ok-names.names.items _ c.in_ok-names.ensures.names in
    (missing.0, omega (arith, missing.1, count))

pub returns-clause-missing : goal.returns-clause-missing
returns-clause-missing g c =
    let missing = c.in_ok-found.ensures.missing in
    let count : length c.deref-2.result.now ≡ length (attempted_file_names (view c.args.description.now)) =
    ap length c.deref-2.ensures.value
    ∙ as_many c.in_ok-names.names.items _ c.in_ok-names.ensures.names in
    (missing.0, omega (arith, missing.1, count))

pub returns-in_err-found-clause-few : goal.returns-in_err-found-clause-few
returns-in_err-found-clause-few g c =
    let missing = c.in_err-found.ensures.missing in
    let few = c.in_ok-names.ensures.few in
    let count : length c.deref-2.result.now ≡ length c.in_ok-names.names.items =
    ap length c.deref-2.ensures.value in
    omega (arith, missing.1, few, count)

pub returns-clause-few : goal.returns-clause-few
returns-clause-few g c =
    let missing = c.in_ok-found.ensures.missing in
    let few = c.in_ok-names.ensures.few in
    let count : length c.deref-2.result.now ≡ length c.in_ok-names.names.items =
    ap length c.deref-2.ensures.value in
    omega (arith, missing.1, few, count)
