use Rattle.std.proofs.Common.{◌*◌}
use Rattle.bl_session.proofs.menu_lemmas.OnceLemmas.{all_attempts}
use Rattle.program_desc.specs.Views.{view}
use Rattle.program_boots.specs.described.DescribedMenu.{names_of_entries}
use Rattle.program_boots.proofs.described_lemmas.NameLemmas.{few_kept, few_names}
use Rattle.program_commands.proofs.described.names.attempted_file_names.Goals as goal

pub names_of-requires : goal.names_of-requires
names_of-requires g c =
    let menu = c.requires in
    rw (c.deref-2.ensures.value, c.in_ok-attempts.ensures)
    (all_attempts _ _ _ menu.2 (rw c.deref.ensures.value menu.3))

pub returns-clause-few : goal.returns-clause-few
returns-clause-few g c =
    let d = c.args.description.now in
    few_kept (λ names. names.items) (names_of_entries (view d) c.deref-2.result.now) (32 * 65)
    c.names_of.result c.names_of.ensures
    (rw (c.deref-2.ensures.value, c.in_ok-attempts.ensures, c.deref.ensures.value)
    (few_names d c.requires))
