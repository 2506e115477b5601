-- The steps that are told of a part. Own.
use Rattle.std.specs.Prelude.{◌-◌, ◌&&◌, Bool, true, false, nat_le, nat_lt}
use Rattle.bl_plan.specs.declared.part.Place.{Place}
use Rattle.bl_load.specs.declared.step.Step.{Step}
use Rattle.bl_load.specs.declared.step.StepSource.{StepSource}
use Rattle.bl_load.specs.declared.step.StepSource.TheVariants.{File, Own, Zeros}

-- the bytes are not zeros
abbrev pub is_filled : StepSource → Bool
is_filled (File file offset) = true
is_filled (Own offset) = true
is_filled Zeros = false

-- a step begins at a place
abbrev pub begins_at : Place → Step → Bool
begins_at place step =
    nat_le place.address step.address && nat_lt (step.address - place.address) place.length

-- of the steps of the whole plan, those of the part at a place
abbrev pub is_told : Place → Step → Bool
is_told place step = is_filled step.source && begins_at place step
