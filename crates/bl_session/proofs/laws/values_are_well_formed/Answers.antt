use Rattle.bl_session.proofs.menu_lemmas.MenuLemmas.{offered_values}
use Rattle.bl_session.proofs.laws.values_are_well_formed.Goals as goal

pub returns : goal.returns
returns c = offered_values
