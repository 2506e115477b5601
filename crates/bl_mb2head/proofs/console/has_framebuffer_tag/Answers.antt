use Rattle.std.proofs.Common.{refl, arith}
use Rattle.bl_mb2head.proofs.console.has_framebuffer_tag.Goals as goal

pub loop-tag-init : goal.loop-tag-init
loop-tag-init g c =
    record { in_reach = omega (arith, c.requires.in_order); same = (c.args.end, omega arith, refl) }
