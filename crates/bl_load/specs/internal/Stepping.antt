-- What the code keeps of parts that it tells as steps: no sum of theirs wraps.
use Rattle.std.specs.Prelude.{◌+◌, ◌≤◌, ◌^◌, List, length, All, AllPairs}
use Rattle.bl_mem.specs.declared.segment.Segment.{Segment}
use Rattle.bl_load.specs.declared.plan.Content.{Content}
use Rattle.bl_load.specs.declared.plan.Content.TheVariants.{Own, File, Block}
use Rattle.bl_load.specs.declared.plan.PlannedPart.{PlannedPart}
use Rattle.bl_load.specs.Loadable.{content_length, SegmentsAscend}

-- a segment has no more bytes of the file than of memory
abbrev pub HoldsNoMore : Segment → Type 0
HoldsNoMore s = s.filesz ≤ s.memsz

-- segments as those of a block: there are some, and they ascend
pub record AreInOrder (segments : List Segment) : Type 0 where
  pub some : 1 ≤ length segments
  pub fits : All HoldsNoMore segments
  pub ascending : AllPairs SegmentsAscend segments

-- the segments of a block are so
abbrev pub HasSegmentsInOrder : {A : Type 0} → Content A → Type 0
HasSegmentsInOrder (Own bytes) = Unit {0}
HasSegmentsInOrder (File file offset count) = Unit {0}
HasSegmentsInOrder (Block file segments) = AreInOrder segments.items

-- a part can be told
pub record CanBeTold {A : Type 0} (part : PlannedPart A) : Type 0 where
  pub ordered : HasSegmentsInOrder part.content
  pub short : content_length part.content ≤ part.place.length
  pub low : part.place.address + part.place.length ≤ 2 ^ 32
