use Rattle.std.proofs.Common.{◌+◌, ◌-◌, ◌≡◌, ◌≤◌, List}
use Rattle.bl_mb2head.specs.declared.tag.Tag.{Tag}
use Rattle.bl_mb2head.specs.Tags.{AreTags}
use Rattle.bl_mb2head.specs.internal.LastTags.{last_tags, LieBefore}
use Rattle.bl_mb2head.proofs.last_tags.last_tags.Given as goal

-- some tags stand before the place, the last of them are kept, and these have their fields
abbrev pub invariant-loop-tag : goal.invariant-loop-tag
invariant-loop-tag g l = record {
  in_reach : l.at ≤ l.end + 8;
  fits : LieBefore l.end l.last;
  before : (ts : List Tag) × AreTags l.has_console (g.V.ByteView.bytes l.view) l.end l.start l.at ts
      × (l.last ≡ last_tags ts);
}

abbrev pub decreases-loop-tag : goal.decreases-loop-tag
decreases-loop-tag g l = l.end + 8 - l.at
