use Rattle.c_records.specs.MenuGiven.{menu_files}
use Rattle.c_abi.proofs.SizeLemmas.{sizes_as_stored}
use Rattle.c_abi.proofs.session_laws.sessions_have_the_sizes_of_boots.Goals as goal

pub returns : goal.returns
returns c = λ entries. sizes_as_stored (menu_files entries)
