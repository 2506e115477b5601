-- The steps of parts, by their places and by where their bytes come from: nothing else decides
-- which they are. Own.
use Rattle.std.specs.Prelude.{ℕ, ◌+◌, ◌-◌, List, [], ◌∷◌, ◌++◌, length}
use Rattle.bl_load.specs.declared.step.Step.{Step}
use Rattle.bl_load.specs.declared.step.StepSource.TheVariants as source
use Rattle.bl_load.specs.KernelBlock.{span_of}
use Rattle.bl_load.specs.Origins.{Origin, made, file_range, file_block, PartOrigin}
use Rattle.bl_load.specs.PlanSteps.{one_step, block_steps}

-- how many bytes come from there
abbrev pub origin_length : Origin → ℕ
origin_length (made bytes) = length bytes
origin_length (file_range file offset count) = count
origin_length (file_block file segments) = span_of segments

-- which of them are the plan's own
abbrev pub own_of_origin : Origin → List ℕ
own_of_origin (made bytes) = bytes
own_of_origin (file_range file offset count) = []
own_of_origin (file_block file segments) = []

-- the steps that bring them to an address, where the plan's own bytes before them are so many
abbrev pub origin_steps : ℕ → ℕ → Origin → List Step
origin_steps before at (made bytes) = one_step at (length bytes) (source.Own before)
origin_steps before at (file_range file offset count) = one_step at count (source.File file offset)
origin_steps before at (file_block file segments) = block_steps at file segments

-- those of a part: what comes from there, and zeros up to its length
abbrev pub steps_of_part : ℕ → PartOrigin → List Step
steps_of_part before part =
    origin_steps before part.place.address part.origin
    ++ one_step (part.place.address + origin_length part.origin)
    (part.place.length - origin_length part.origin) source.Zeros

-- those of parts, one after the other
abbrev pub steps_by : ℕ → List PartOrigin → List Step
steps_by before [] = []
steps_by before (part ∷ parts) =
    steps_of_part before part ++ steps_by (before + length (own_of_origin part.origin)) parts

-- the own bytes of parts, one after the other
abbrev pub own_by : List PartOrigin → List ℕ
own_by [] = []
own_by (part ∷ parts) = own_of_origin part.origin ++ own_by parts
