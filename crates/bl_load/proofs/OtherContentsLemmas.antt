-- A value whose files after the kernel are others of the same lengths has the same handover, but for
-- their bytes.
use Rattle.std.proofs.Common.{◌≡◌, ◌+◌, ℕ, List, [], ◌∷◌, length, map, Option, Some, None}
use Rattle.std.proofs.Common.{refl, sym, ap, ap₂, subst, ◌∙◌}
use Rattle.std.specs.Prelude.{slice_range, codes}
use Rattle.bl_map.specs.MachineFacts.{MachineFacts}
use Rattle.bl_mb2head.specs.declared.relocation.Relocation.{Relocation}
use Rattle.bl_mbi.specs.InfoToWriteFacts.{InfoToWriteFacts}
use Rattle.bl_mbi.specs.Spelling.{info_spelling}
use Rattle.bl_mem.specs.FileSet.{nth_file}
use Rattle.bl_mem.specs.declared.segment.Segment.{Segment}
use Rattle.bl_params.specs.BootParams.{boot_params}
use Rattle.bl_params.specs.ParamsToWriteFacts.{ParamsToWriteFacts}
use Rattle.bl_plan.specs.AddressOrder.{places_in_order, segments_in_order}
use Rattle.bl_plan.specs.Placed.{ArePlaced}
use Rattle.bl_plan.specs.declared.part.Place.{Place}
use Rattle.bl_plan.specs.declared.part.Role.{Role}
use Rattle.bl_plan.specs.declared.part.Role.TheVariants.{Kernel, Module, Information, BootParams}
use Rattle.bl_plan.specs.declared.part.Role.TheVariants.{CommandLine, Gdt, Initrd, PageTables}
use Rattle.bl_plan.specs.declared.part.Row.{Row}
use Rattle.bl_plan.specs.declared.protocol.Protocol.{Protocol}
use Rattle.bl_load.specs.declared.plan.Content.{Content}
use Rattle.bl_load.specs.declared.plan.Content.TheVariants.{Own, File, Block}
use Rattle.bl_load.specs.declared.plan.Plan.{Plan}
use Rattle.bl_load.specs.declared.plan.PlannedPart.{PlannedPart}
use Rattle.bl_load.specs.declared.registers.Registers.{Registers}
use Rattle.bl_load.specs.EntryValue.{EntryValue, module_file, initrd_file}
use Rattle.bl_load.specs.Handover.{Part, Handover, placed_part, zero_padded}
use Rattle.bl_load.specs.KernelBlock.{block_of}
use Rattle.bl_load.specs.KernelReading.{KernelReading, multiboot2, linux}
use Rattle.bl_load.specs.Origins.{Origin, made, file_range, file_block, origin_of, kernel_origin}
use Rattle.bl_load.specs.Origins.{origin_from, PartOrigin, planned_origin, origin_at, AreOrigins}
use Rattle.bl_load.specs.Parts.{kernel_content, content_of, part_from, IsHandover}
use Rattle.bl_load.specs.PlanContents.{content_by, part_by, handover_by}
use Rattle.bl_load.proofs.FileLengthLemmas.{with_files, AreAsLong, whole_file}
use Rattle.bl_load.proofs.FileLengthLemmas.{same_information, same_params, same_rows}
use Rattle.bl_load.proofs.OtherFilesLemmas.{read_with}
use Rattle.bl_load.proofs.StepOriginLemmas.{one_origins}

-- ---- a content's bytes are a function of where they come from

bytes_from : List (List ℕ) → Origin → List ℕ
bytes_from texts (made bytes) = bytes
bytes_from texts (file_range file offset count) =
    slice_range (nth_file texts file) offset (offset + count)
bytes_from texts (file_block file segments) = block_of (nth_file texts file) segments

content_from : {A : Type 0} (texts : List (List ℕ)) (content : Content A)
    → content_by texts content ≡ bytes_from texts (origin_of content)
unfolding bytes_from
content_from texts (Own bytes) = refl
content_from texts (File file offset count) = refl
content_from texts (Block file segments) = refl

-- what comes from there is these bytes, with zeros after them
abbrev Holds : List (List ℕ) → ℕ → Origin → List ℕ → Type 0
Holds texts count origin bytes =
    zero_padded count (bytes_from texts origin) ≡ zero_padded count bytes

-- a block is of the same file: what it held of the segments as they stand, it holds now
kernel_holds : (xs ys : List (List ℕ)) → nth_file xs 0 ≡ nth_file ys 0 → (segments : List Segment)
    (relocation : Option Relocation) (i count : ℕ)
    → Holds ys count (kernel_origin segments relocation i)
    (kernel_content (nth_file ys 0) segments relocation i)
    → Holds xs count (kernel_origin segments relocation i)
    (kernel_content (nth_file xs 0) segments relocation i)
unfolding bytes_from
kernel_holds xs ys is segments None i count holds = refl
kernel_holds xs ys is segments (Some r) i count holds =
    subst (λ (file : List ℕ). zero_padded count (block_of file (segments_in_order segments))
    ≡ zero_padded count (block_of file segments)) (sym is) holds

handed : Protocol → Registers → List Part → Handover
handed protocol registers parts =
    record { protocol = protocol; registers = registers; parts = parts }

module _ (facts : MachineFacts) (value : EntryValue) (texts : List (List ℕ))
    (kernel : nth_file texts 0 ≡ nth_file value.files 0) (long : AreAsLong texts value.files) where
  -- what the loader makes depends on the other files' lengths alone, and the part of another file
  -- is the whole file
  holds_with : (reading : KernelReading) (places : List Place) (role : Role) (i count : ℕ)
      → Holds value.files count (origin_from facts value reading places role i)
      (content_of facts value reading places role i)
      → Holds texts count (origin_from facts value reading places role i)
      (content_of facts (with_files texts value) reading places role i)
  unfolding bytes_from
  holds_with (multiboot2 k) places Kernel i count holds =
      kernel_holds texts value.files kernel k.segments k.relocation i count holds
  holds_with (multiboot2 k) places Module i count holds =
      ap (zero_padded count)
      (whole_file (module_file texts i) (length (module_file value.files i)) (long (i + 1)))
  holds_with (multiboot2 k) places Information i count holds =
      ap (λ (told : InfoToWriteFacts).
      zero_padded count (info_spelling (codes "bootcore") told))
      (sym (same_information facts value texts long k.relocation places))
  holds_with (multiboot2 k) places BootParams i count holds = refl
  holds_with (multiboot2 k) places CommandLine i count holds = refl
  holds_with (multiboot2 k) places Gdt i count holds = refl
  holds_with (multiboot2 k) places Initrd i count holds = refl
  holds_with (multiboot2 k) places PageTables i count holds = refl
  holds_with (linux setup) places Kernel i count holds = refl
  holds_with (linux setup) places Module i count holds = refl
  holds_with (linux setup) places Information i count holds = refl
  holds_with (linux setup) places BootParams i count holds =
      ap (λ (told : ParamsToWriteFacts). zero_padded count (boot_params setup.header told))
      (sym (same_params facts value texts long places))
  holds_with (linux setup) places CommandLine i count holds = refl
  holds_with (linux setup) places Gdt i count holds = refl
  holds_with (linux setup) places Initrd i count holds =
      ap (zero_padded count)
      (whole_file (initrd_file texts) (length (initrd_file value.files)) (long 1))
  holds_with (linux setup) places PageTables i count holds = refl

  part_with : {A : Type 0} (reading : KernelReading) (places : List Place) (part : PlannedPart A)
      (place : Place) → planned_origin part ≡ origin_at facts value reading places place
      → part_by value.files part ≡ part_from facts value reading places place
      → part_by texts part ≡ part_from facts (with_files texts value) reading places place
  part_with reading places part place comes is =
      let at : part.place ≡ place = ap (λ (o : PartOrigin). o.place) comes in
      let from : origin_of part.content
      ≡ origin_from facts value reading places place.role place.index =
      ap (λ (o : PartOrigin). o.origin) comes in
      let held : (files : List (List ℕ)) → zero_padded part.place.length (content_by files part.content)
      ≡ zero_padded place.length
      (bytes_from files (origin_from facts value reading places place.role place.index)) =
      λ files.
      ap₂ (λ (p : Place) (bytes : List ℕ). zero_padded p.length bytes) at
      (content_from files part.content ∙ ap (bytes_from files) from) in
      let now = holds_with reading places place.role place.index place.length
      (sym (held value.files) ∙ ap (λ (p : Part). p.bytes) is) in
      ap₂ placed_part at (held texts ∙ now)

  parts_with : {A : Type 0} (reading : KernelReading) (places : List Place)
      (parts : List (PlannedPart A)) (among : List Place)
      → map planned_origin parts ≡ map (origin_at facts value reading places) among
      → map (part_by value.files) parts ≡ map (part_from facts value reading places) among
      → map (part_by texts) parts
      ≡ map (part_from facts (with_files texts value) reading places) among
  parts_with reading places [] [] come are = refl
  parts_with reading places [] (place ∷ among) come are = absurd cc
  parts_with reading places (part ∷ parts) [] come are = absurd cc
  parts_with reading places (part ∷ parts) (place ∷ among) come are =
      let comes : planned_origin part ≡ origin_at facts value reading places place = cc in
      let rest : map planned_origin parts ≡ map (origin_at facts value reading places) among =
      cc in
      let is : part_by value.files part ≡ part_from facts value reading places place = cc in
      let others : map (part_by value.files) parts
      ≡ map (part_from facts value reading places) among = cc in
      ap₂ (λ (p : Part) (ps : List Part). p ∷ ps) (part_with reading places part place comes is)
      (parts_with reading places parts among rest others)

  pub handover_with : {A : Type 0} (plan : Plan A)
      → IsHandover facts value (handover_by value.files plan)
      → AreOrigins facts value (map planned_origin plan.parts.items)
      → IsHandover facts (with_files texts value) (handover_by texts plan)
  unfolding handed
  handover_with plan h origins =
      let sorted = places_in_order h.places in
      let come : map planned_origin plan.parts.items
      ≡ map (origin_at facts value h.reading h.places) sorted =
      one_origins facts value (map planned_origin plan.parts.items)
      (map (origin_at facts value h.reading h.places) sorted) origins (record {
        reading = h.reading;
        places = h.places;
        read = h.read;
        placed = h.placed;
        are = refl;
      }) in
      let parts : map (part_by texts) plan.parts.items
      ≡ map (part_from facts (with_files texts value) h.reading h.places) sorted =
      parts_with h.reading h.places plan.parts.items sorted come
      (ap (λ (x : Handover). x.parts) h.is) in
      record {
        reading = h.reading;
        places = h.places;
        lines = h.lines;
        read = read_with facts value texts kernel long h.reading h.read;
        placed =
            subst (λ (rows : List Row). ArePlaced facts [] rows h.places)
            (sym (same_rows facts value texts long h.reading)) h.placed;
        is =
            ap₂ (λ (x : Handover) (ps : List Part). handed x.protocol x.registers ps) h.is
            parts;
      }
