use Rattle.std.proofs.Common.{◌+◌, ◌-◌, ◌≡◌, ◌≤◌, ℕ}
use Rattle.bl_mb2head.specs.Tags.{has_framebuffer_tag}
use Rattle.bl_mb2head.proofs.console.has_framebuffer_tag.Given as goal

-- a framebuffer tag is among all tags if it is from the place on, and there are enough tags to look at
abbrev pub invariant-loop-tag : goal.invariant-loop-tag
invariant-loop-tag g l =
    let is_met = has_framebuffer_tag (g.V.ByteView.bytes l.view) l.end in
    record {
      in_reach : l.at ≤ l.end + 8;
      same : (n : ℕ) × (l.end ≤ l.at + n) × (is_met n l.at ≡ is_met l.end l.start);
    }

abbrev pub decreases-loop-tag : goal.decreases-loop-tag
decreases-loop-tag g l = l.end + 8 - l.at
