-- What a plan holds, where the files hold these texts.
use Rattle.std.specs.Prelude.{ℕ, ◌+◌, List, map, slice_range}
use Rattle.bl_mem.specs.FileSet.{nth_file}
use Rattle.bl_plan.specs.declared.part.Place.{Place}
use Rattle.bl_load.specs.declared.plan.Content.{Content}
use Rattle.bl_load.specs.declared.plan.Content.TheVariants.{Own, File, Block}
use Rattle.bl_load.specs.declared.plan.PlannedPart.{PlannedPart}
use Rattle.bl_load.specs.declared.plan.Plan.{Plan}
use Rattle.bl_plan.specs.declared.protocol.Protocol.{Protocol}
use Rattle.bl_load.specs.declared.registers.Registers.{Registers}
use Rattle.bl_load.specs.KernelBlock.{block_of}
use Rattle.bl_load.specs.HandoffFacts.{HandoffFacts}
use Rattle.bl_load.specs.Handover.{Part, Handover, placed_part, zero_padded}

-- what a content holds
abbrev pub content_by : {A : Type 0} → List (List ℕ) → Content A → List ℕ
content_by texts (Own bytes) = bytes
content_by texts (File file offset count) =
    slice_range (nth_file texts file) offset (offset + count)
content_by texts (Block file segments) = block_of (nth_file texts file) segments.items

abbrev pub bytes_by : {A : Type 0} → List (List ℕ) → PlannedPart A → List ℕ
bytes_by texts part = zero_padded part.place.length (content_by texts part.content)

abbrev pub part_by : {A : Type 0} → List (List ℕ) → PlannedPart A → Part
part_by texts part = placed_part part.place (bytes_by texts part)

-- what a plan hands over
abbrev pub handover_by : {A : Type 0} → List (List ℕ) → Plan A → Handover
handover_by texts plan =
    record {
      protocol = plan.protocol;
      registers = plan.registers;
      parts = map (part_by texts) plan.parts.items;
    }

-- the places of a plan
abbrev pub places_of : {A : Type 0} → Plan A → List Place
places_of plan = map (λ part. part.place) plan.parts.items

-- what a handoff of a plan says
abbrev pub handoff_by : {A : Type 0} → Plan A → HandoffFacts
handoff_by plan =
    record { protocol = plan.protocol; registers = plan.registers; places = places_of plan }

-- a part as memory holds it
abbrev pub part_in : List ℕ → Place → Part
part_in bytes place =
    placed_part place (slice_range bytes place.address (place.address + place.length))

-- what memory hands over, with this protocol, these registers and places
abbrev pub handover_in : List ℕ → Protocol → Registers → List Place → Handover
handover_in bytes protocol registers places =
    record { protocol = protocol; registers = registers; parts = map (part_in bytes) places }
