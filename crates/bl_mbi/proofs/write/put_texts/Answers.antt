use Rattle.bl_mbi.proofs.GroupLemmas.{parts_small}
use Rattle.bl_mbi.proofs.write.put_texts.Goals as goal

pub put_modules-requires-clause-small : goal.put_modules-requires-clause-small
put_modules-requires-clause-small g c = (parts_small _ c.facts.invariant).modules
