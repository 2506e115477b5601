use Rattle.bl_plan.proofs.PlaceLaws.{all_usable, all_unavoided, all_open, all_apart}
use Rattle.bl_plan.proofs.laws.places_are_legal.Goals as goal

pub returns-clause-usable : goal.returns-clause-usable
returns-clause-usable c = all_usable

pub returns-clause-unavoided : goal.returns-clause-unavoided
returns-clause-unavoided c = all_unavoided

pub returns-clause-beside : goal.returns-clause-beside
returns-clause-beside c = all_open

pub returns-clause-apart : goal.returns-clause-apart
returns-clause-apart c = all_apart
