use Rattle.std.proofs.Common.{take}
use Rattle.bl_walk.specs.Seen.{AreSeenModules}
use Rattle.bl_walk.proofs.seen_modules.modules_at.Given as goal

abbrev pub invariant-loop-told : goal.invariant-loop-told
invariant-loop-told g l = AreSeenModules l.image.parts (take l.told-index l.modules) l.seen.items
