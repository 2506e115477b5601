use Rattle.bl_load.proofs.UnplacedLaws.{unplaced_refused, refused_unplaced, all_placed}
use Rattle.bl_load.proofs.laws.unplaced_parts_are_refused.Goals as goal

pub returns-clause-refused : goal.returns-clause-refused
returns-clause-refused c = unplaced_refused

pub returns-clause-told : goal.returns-clause-told
returns-clause-told c = refused_unplaced

pub returns-clause-placed : goal.returns-clause-placed
returns-clause-placed c = all_placed
