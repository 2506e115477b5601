use Rattle.std.proofs.Common.{length}
use Rattle.bl_mbi.specs.internal.BytesLeft.{rest_facts}
use Rattle.bl_mbi.proofs.ModuleLemmas.{IsOnWay}
use Rattle.bl_mbi.proofs.tag_reader.modules_at.Given as goal

abbrev pub invariant-tags : goal.invariant-tags
invariant-tags g l = IsOnWay (rest_facts l.rest) (rest_facts l.left) l.modules.items

abbrev pub decreases-tags : goal.decreases-tags
decreases-tags g l = length l.left.bytes.now
