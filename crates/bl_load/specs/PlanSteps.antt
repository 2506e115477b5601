-- The steps of a plan. Own.
use Rattle.std.specs.Prelude.{◌≡◌, ℕ, zero, suc, ◌+◌, ◌-◌, List, [], ◌∷◌, ◌++◌, length}
use Rattle.std.specs.Prelude.{slice_index_or}
use Rattle.bl_mem.specs.declared.segment.Segment.{Segment}
use Rattle.bl_load.specs.declared.plan.Content.{Content}
use Rattle.bl_load.specs.declared.plan.Content.TheVariants.{Own, File, Block}
use Rattle.bl_load.specs.declared.plan.PlannedPart.{PlannedPart}
use Rattle.bl_load.specs.declared.step.Step.{Step}
use Rattle.bl_load.specs.declared.step.Steps.{Steps}
use Rattle.bl_load.specs.declared.step.StepSource.{StepSource}
use Rattle.bl_load.specs.declared.step.StepSource.TheVariants as source
use Rattle.bl_load.specs.Loadable.{content_length}
use Rattle.bl_load.specs.Parts.{no_segment}

-- a step, unless it is empty
abbrev pub one_step : ℕ → ℕ → StepSource → List Step
one_step address zero from = []
one_step address (suc n) from = record { address = address; length = suc n; source = from } ∷ []

-- a segment at an address: its bytes of the file, and zeros up to memsz
abbrev pub segment_steps : ℕ → ℕ → Segment → List Step
segment_steps at file s =
    one_step at s.filesz (source.File file s.offset)
    ++ one_step (at + s.filesz) (s.memsz - s.filesz) source.Zeros

-- segments in a block at an address, which is linked at `low` and of which `done` bytes are told:
-- each segment after the zeros of the gap before it
abbrev pub steps_in_block : ℕ → ℕ → ℕ → ℕ → List Segment → List Step
steps_in_block at file low done [] = []
steps_in_block at file low done (s ∷ segments) =
    one_step (at + done) (s.address - low - done) source.Zeros
    ++ segment_steps (at + (s.address - low)) file s
    ++ steps_in_block at file low (s.address - low + s.memsz) segments

-- a block at an address, of segments that ascend
abbrev pub block_steps : ℕ → ℕ → List Segment → List Step
block_steps at file segments =
    steps_in_block at file (slice_index_or segments 0 no_segment).address 0 segments

-- what a content holds itself
abbrev pub own_of : {A : Type 0} → Content A → List ℕ
own_of (Own bytes) = bytes
own_of (File file offset count) = []
own_of (Block file segments) = []

-- a content at an address, where the plan's own bytes before it are so many
abbrev pub content_steps : {A : Type 0} → ℕ → ℕ → Content A → List Step
content_steps before at (Own bytes) = one_step at (length bytes) (source.Own before)
content_steps before at (File file offset count) = one_step at count (source.File file offset)
content_steps before at (Block file segments) = block_steps at file segments.items

-- a part: its content, and zeros up to its length
abbrev pub part_steps : {A : Type 0} → ℕ → PlannedPart A → List Step
part_steps before part =
    content_steps before part.place.address part.content
    ++ one_step (part.place.address + content_length part.content)
    (part.place.length - content_length part.content) source.Zeros

-- parts, one after the other
abbrev pub steps_from : {A : Type 0} → ℕ → List (PlannedPart A) → List Step
steps_from before [] = []
steps_from before (part ∷ parts) =
    part_steps before part ++ steps_from (before + length (own_of part.content)) parts

-- what parts hold themselves, one after the other
abbrev pub own_bytes : {A : Type 0} → List (PlannedPart A) → List ℕ
own_bytes [] = []
own_bytes (part ∷ parts) = own_of part.content ++ own_bytes parts

-- these are the steps of parts
pub record AreStepsOf {A B : Type 0} (parts : List (PlannedPart A)) (told : Steps B) : Type 0 where
  pub steps : told.steps.items ≡ steps_from 0 parts
  pub own : told.own ≡ own_bytes parts
