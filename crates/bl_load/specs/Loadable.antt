-- Which plans can be loaded. It speaks of the files' lengths alone, and not of their bytes.
use Rattle.std.specs.Prelude.{ℕ, ◌+◌, ◌<◌, ◌≤◌, ◌^◌, List, length, map, slice_index, All, AllPairs}
use Rattle.bl_mem.specs.declared.segment.Segment.{Segment}
use Rattle.bl_load.specs.declared.plan.Content.{Content}
use Rattle.bl_load.specs.declared.plan.Content.TheVariants.{Own, File, Block}
use Rattle.bl_load.specs.declared.plan.PlannedPart.{PlannedPart}
use Rattle.bl_load.specs.declared.plan.Plan.{Plan}
use Rattle.bl_load.specs.KernelBlock.{span_of}
use Rattle.bl_load.specs.HandoffFacts.{IsWellFormedHandoff}
use Rattle.bl_load.specs.PlanContents.{places_of, handoff_by}

-- the lengths of files
abbrev pub lengths_of : List (List ℕ) → List ℕ
lengths_of texts = map (λ text. length text) texts

-- a segment that can be copied out of a file of this length into a block: its bytes are in the
-- file, and its addresses are small
pub record IsCopyable (size : ℕ) (s : Segment) : Type 0 where
  pub filled : 1 ≤ s.memsz
  pub fits : s.filesz ≤ s.memsz
  pub inside : 1 ≤ s.filesz → s.offset + s.filesz ≤ size
  pub low : s.address + s.memsz ≤ 2 ^ 62

-- the second lies after the first
abbrev pub SegmentsAscend : Segment → Segment → Type 0
SegmentsAscend s t = s.address + s.memsz ≤ t.address

-- the content is there, in files of these lengths
abbrev pub IsInFiles : {A : Type 0} → List ℕ → Content A → Type 0
IsInFiles lengths (Own bytes) = Unit {0}
IsInFiles lengths (File file offset count) =
    (file < length lengths) × (1 ≤ count → offset + count ≤ slice_index lengths file)
IsInFiles lengths (Block file segments) =
    (file < length lengths) × (1 ≤ length segments.items)
    × All (IsCopyable (slice_index lengths file)) segments.items
    × AllPairs SegmentsAscend segments.items

-- how many bytes a content has
abbrev pub content_length : {A : Type 0} → Content A → ℕ
content_length (Own bytes) = length bytes
content_length (File file offset count) = count
content_length (Block file segments) = span_of segments.items

-- the content is there and no longer than its place
pub record IsBacked {A : Type 0} (lengths : List ℕ) (part : PlannedPart A) : Type 0 where
  pub there : IsInFiles lengths part.content
  pub short : content_length part.content ≤ part.place.length

-- a plan can be loaded out of files of these lengths into memory of this size: its contents are
-- there, its places are inside it, and it is what a handoff keeps
pub record IsLoadable {A : Type 0} (lengths : List ℕ) (size : ℕ) (plan : Plan A) : Type 0 where
  pub backed : All (IsBacked lengths) plan.parts.items
  pub inside : All (λ place. place.address + place.length ≤ size) (places_of plan)
  pub kept : IsWellFormedHandoff (handoff_by plan)
