-- Where the bytes of an entry's parts come from. Own.
use Rattle.std.specs.Prelude.{◌≡◌, ℕ, ◌+◌, List, [], length, map, slice_index_or, Option, Some}
use Rattle.std.specs.Prelude.{None}
use Rattle.bl_mem.specs.declared.segment.Segment.{Segment}
use Rattle.bl_map.specs.MachineFacts.{MachineFacts}
use Rattle.bl_mb2head.specs.declared.relocation.Relocation.{Relocation}
use Rattle.bl_plan.specs.AddressOrder.{places_in_order, segments_in_order}
use Rattle.bl_plan.specs.Placed.{ArePlaced}
use Rattle.bl_plan.specs.declared.part.Role.{Role}
use Rattle.bl_plan.specs.declared.part.Role.TheVariants.{Kernel, Module, Information, BootParams}
use Rattle.bl_plan.specs.declared.part.Role.TheVariants.{CommandLine, Gdt, Initrd, PageTables}
use Rattle.bl_plan.specs.declared.part.Place.{Place}
use Rattle.bl_load.specs.declared.plan.Content.{Content}
use Rattle.bl_load.specs.declared.plan.Content.TheVariants.{Own, File, Block}
use Rattle.bl_load.specs.declared.plan.PlannedPart.{PlannedPart}
use Rattle.bl_load.specs.EntryValue.{EntryValue, module_file, initrd_file}
use Rattle.bl_load.specs.KernelReading.{KernelReading, multiboot2, linux, IsKernelReading}
use Rattle.bl_load.specs.Parts.{no_segment, content_of}
use Rattle.bl_load.specs.Rows.{rows_of}

-- bytes that the loader makes; so many bytes of a file, from an offset on; the block of segments of
-- a file, which ascend
pub data Origin : Type 0 where
  made : List ℕ → Origin
  file_range : ℕ → ℕ → ℕ → Origin
  file_block : ℕ → List Segment → Origin

-- that of a content
abbrev pub origin_of : {A : Type 0} → Content A → Origin
origin_of (Own bytes) = made bytes
origin_of (File file offset count) = file_range file offset count
origin_of (Block file segments) = file_block file segments.items

-- that of a part which the entry does not have
abbrev pub no_origin : Origin
no_origin = file_range 0 0 0

-- that of the kernel's part i: its segment i of the file; with a relocatable tag the whole block
abbrev pub kernel_origin : List Segment → Option Relocation → ℕ → Origin
kernel_origin segments None i =
    file_range 0 (slice_index_or segments i no_segment).offset
    (slice_index_or segments i no_segment).filesz
kernel_origin segments (Some r) i = file_block 0 (segments_in_order segments)

-- that of the part of a role and an index, where the parts have these places: the whole file of a
-- module or an initrd, a Linux kernel's payload, and what is made of the others
abbrev pub origin_from : MachineFacts → EntryValue → KernelReading → List Place → Role → ℕ → Origin
origin_from facts value (multiboot2 kernel) places Kernel i =
    kernel_origin kernel.segments kernel.relocation i
origin_from facts value (multiboot2 kernel) places Module i =
    file_range (i + 1) 0 (length (module_file value.files i))
origin_from facts value (multiboot2 kernel) places Information i =
    made (content_of facts value (multiboot2 kernel) places Information i)
origin_from facts value (multiboot2 kernel) places BootParams i = no_origin
origin_from facts value (multiboot2 kernel) places CommandLine i = no_origin
origin_from facts value (multiboot2 kernel) places Gdt i = no_origin
origin_from facts value (multiboot2 kernel) places Initrd i = no_origin
origin_from facts value (multiboot2 kernel) places PageTables i = no_origin
origin_from facts value (linux setup) places Kernel i =
    file_range 0 setup.payload_offset setup.payload_size
origin_from facts value (linux setup) places Module i = no_origin
origin_from facts value (linux setup) places Information i = no_origin
origin_from facts value (linux setup) places BootParams i =
    made (content_of facts value (linux setup) places BootParams i)
origin_from facts value (linux setup) places CommandLine i =
    made (content_of facts value (linux setup) places CommandLine i)
origin_from facts value (linux setup) places Gdt i =
    made (content_of facts value (linux setup) places Gdt i)
origin_from facts value (linux setup) places Initrd i =
    file_range 1 0 (length (initrd_file value.files))
origin_from facts value (linux setup) places PageTables i =
    made (content_of facts value (linux setup) places PageTables i)

-- a place and where its bytes come from
pub record PartOrigin : Type 0 where
  pub place : Place
  pub origin : Origin

-- that of a plan's part
abbrev pub planned_origin : {A : Type 0} → PlannedPart A → PartOrigin
planned_origin part = record { place = part.place; origin = origin_of part.content }

-- that of the part at a place, where the parts have these places
abbrev pub origin_at : MachineFacts → EntryValue → KernelReading → List Place → Place → PartOrigin
origin_at facts value reading places place = record {
  place = place;
  origin = origin_from facts value reading places place.role place.index;
}

-- the parts of an entry of this value on a machine of these facts come from there
pub record AreOrigins (facts : MachineFacts) (value : EntryValue)
    (parts : List PartOrigin) : Type 0 where
  pub reading : KernelReading
  pub places : List Place
  pub read : IsKernelReading facts value reading
  pub placed : ArePlaced facts [] (rows_of facts value reading) places
  pub are : parts ≡ map (origin_at facts value reading places) (places_in_order places)
