use Rattle.bl_load.proofs.PartLaws.{all_filled, all_usable, all_unavoided, all_apart}
use Rattle.bl_load.proofs.laws.parts_are_apart_and_usable.Goals as goal

pub returns-clause-filled : goal.returns-clause-filled
returns-clause-filled c = all_filled

pub returns-clause-usable : goal.returns-clause-usable
returns-clause-usable c = all_usable

pub returns-clause-unavoided : goal.returns-clause-unavoided
returns-clause-unavoided c = all_unavoided

pub returns-clause-apart : goal.returns-clause-apart
returns-clause-apart c = all_apart
