use Rattle.std.proofs.Common.{◌≡◌, take, map}
use Rattle.bl_load.specs.PlanContents.{part_in}
use Rattle.bl_image.proofs.image.Image.of.Given as goal

-- the parts at the first places
abbrev pub invariant-loop-i : goal.invariant-loop-i
invariant-loop-i g l =
    l.parts.items ≡ map (part_in (g.M.PhysMem.bytes l.memory)) (take l.i l.handoff.places)
