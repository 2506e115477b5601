-- What was read of a kernel, by its protocol: its rows are rows and few, none overlaps another, and
-- each place has the length of what stands there.
use Rattle.std.specs.Prelude.{max, unwrap_or}
use Rattle.std.proofs.Common.{◌≡◌, ◌≢◌, ◌≤◌, ◌+◌, ℕ, List, [], length, None, arith, rules, subst}
use Rattle.std.proofs.Common.{All, get_or, refl, slice_range, nat_eq}
use Rattle.std.proofs.lemmas.Bool.{cond_both}
use Rattle.std.proofs.lemmas.List.{places}
use Rattle.bl_map.specs.MachineFacts.{MachineFacts}
use Rattle.bl_bzimage.specs.declared.setup.Setup.{Setup}
use Rattle.bl_params.proofs.Lengths.{length-boot_params}
use Rattle.bl_params.proofs.PagingLemmas.{length-paging}
use Rattle.bl_plan.specs.AddressOrder.{places_in_order}
use Rattle.bl_plan.specs.Placed.{ArePlaced, IsWellFormedRow, IsFirstPlaceFault, IsPlacingFault}
use Rattle.bl_plan.specs.declared.fault.PlanFault.{PlanFault}
use Rattle.bl_plan.specs.declared.fault.PlanFault.TheVariants.{Overlap}
use Rattle.bl_plan.specs.declared.part.Place.{Place}
use Rattle.bl_plan.specs.declared.protocol.Protocol.{Protocol}
use Rattle.bl_plan.specs.declared.part.Role.{Role}
use Rattle.bl_plan.specs.declared.part.Role.TheVariants.{Kernel, Module, Information, BootParams}
use Rattle.bl_plan.specs.declared.part.Role.TheVariants.{CommandLine, Gdt, Initrd, PageTables}
use Rattle.bl_plan.specs.declared.protocol.Protocol.{Protocol}
use Rattle.bl_plan.specs.declared.protocol.Protocol.TheVariants as protocols
use Rattle.bl_load.specs.Addresses.{address_of}
use Rattle.bl_load.specs.HandoffFacts.{IsWellFormedHandoff, IsRoleAllowed, max_parts}
use Rattle.bl_load.specs.Multiboot2Kernel.{Multiboot2KernelFacts}
use Rattle.bl_load.specs.LinuxRows.{fixed_kernel_row, relocatable_kernel_row, linux_kernel_row}
use Rattle.bl_load.specs.LinuxRows.{boot_params_facts}
use Rattle.bl_load.specs.Parts.{content_of, payload_of, registers_of}
use Rattle.bl_load.specs.internal.Placing.{HasLength, HasRowLength}
use Rattle.bl_load.specs.Protocols.{descriptors_of, is_wide}
use Rattle.bl_load.specs.KernelReading.{KernelReading, multiboot2, linux, IsKernelReading}
use Rattle.bl_load.specs.Registers.{are_wide}
use Rattle.bl_load.specs.Rows.{rows_of}
use Rattle.bl_load.specs.EntryValue.{EntryValue, kernel_file, module_file, initrd_file, line_fault}
use Rattle.bl_load.specs.EntryValue.{lines_fault, lines_of}
use Rattle.bl_load.proofs.FullLemmas.{IsFull, kernel_full, kernel_few, kernel_apart, kernel_short}
use Rattle.bl_load.proofs.InformationLemmas.{information_short}
use Rattle.bl_load.proofs.LineLemmas.{first_sound, sound_short}
use Rattle.bl_load.proofs.LinuxKernelLemmas.{setup_is}
use Rattle.bl_load.proofs.LinuxLemmas.{linux_rows_are_rows, linux_few, linux_rowed}
use Rattle.bl_load.proofs.LinuxLemmas.{linux_no_overlap}
use Rattle.bl_load.proofs.OverlapLemmas.{no_overlap}
use Rattle.bl_load.proofs.RowLemmas.{kernel_rows_are_rows, few_places, some_frames}
use Rattle.bl_load.proofs.RowPlaceLemmas.{each_rowed}
use Rattle.bl_load.proofs.PlaceBoundLemmas.{handoff_kept}

-- ---- its rows

-- each row has some bytes and a choice
pub reading_rows : (facts : MachineFacts) (value : EntryValue) (reading : KernelReading)
    → IsKernelReading facts value reading → All IsWellFormedRow (rows_of facts value reading)
reading_rows facts value (multiboot2 kernel) is =
    let full = kernel_full (kernel_file value) kernel is.1 in
    kernel_rows_are_rows facts value kernel full.0 (λ k d within. (full.1 k d within).filled)
reading_rows facts value (linux setup) is =
    linux_rows_are_rows value.protocol (kernel_file value) setup (initrd_file value.files)
    (setup_is is.1)

-- none overlaps another
pub reading_no_overlap : (facts : MachineFacts) (value : EntryValue) (reading : KernelReading)
    → IsKernelReading facts value reading → IsFirstPlaceFault facts [] (rows_of facts value reading) Overlap
    → ⊥
reading_no_overlap facts value (multiboot2 kernel) is has =
    no_overlap facts value kernel (kernel_apart (kernel_file value) kernel is.1) has
reading_no_overlap facts value (linux setup) is has = linux_no_overlap facts value setup has

pub reading_not_overlap : (facts : MachineFacts) (value : EntryValue) (reading : KernelReading)
    (fault : PlanFault) → IsKernelReading facts value reading
    → IsPlacingFault facts (rows_of facts value reading) fault → fault ≢ Overlap
reading_not_overlap facts value reading fault is has =
    λ e.
    reading_no_overlap facts value reading is
    (subst (IsPlacingFault facts (rows_of facts value reading)) e has)

-- ---- their places

-- they are few
pub reading_few : (facts : MachineFacts) (value : EntryValue) (reading : KernelReading)
    (places : List Place) → IsKernelReading facts value reading → length value.module_lines ≤ 64
    → ArePlaced facts [] (rows_of facts value reading) places
    → length places ≤ max_parts
reading_few facts value (multiboot2 kernel) places is few placed =
    let full = kernel_full (kernel_file value) kernel is.1 in
    let most =
    few_places facts value kernel [] places full.0 (kernel_few (kernel_file value) kernel is.1)
    few placed in
    omega (arith, most)
reading_few facts value (linux setup) places is few placed =
    let most = linux_few facts value.protocol setup (initrd_file value.files) [] places placed in
    omega (arith, most)

-- each has the length that its role and its index ask for
pub reading_rowed : (facts : MachineFacts) (value : EntryValue) (reading : KernelReading)
    (places : List Place) → ArePlaced facts [] (rows_of facts value reading) places
    → All (HasRowLength facts value reading) places
reading_rowed facts value (multiboot2 kernel) places placed =
    each_rowed facts value kernel [] places placed
reading_rowed facts value (linux setup) places placed =
    linux_rowed facts value setup [] places placed

-- page tables are a part of an entry that enters with 64 bits
may_stand : (facts : MachineFacts) (value : EntryValue) (reading : KernelReading) (role : Role)
    (i count : ℕ) → HasLength facts value reading role i count
    → IsRoleAllowed (is_wide value.protocol) role
may_stand facts value (multiboot2 kernel) PageTables i count has = absurd has
may_stand facts value (linux setup) PageTables i count has = has.0
may_stand facts value reading Kernel i count has = tt
may_stand facts value reading Module i count has = tt
may_stand facts value reading Information i count has = tt
may_stand facts value reading BootParams i count has = tt
may_stand facts value reading CommandLine i count has = tt
may_stand facts value reading Gdt i count has = tt
may_stand facts value reading Initrd i count has = tt

-- whose registers are those of 64 bits
width_of : (protocol : Protocol) (reading : KernelReading) (places : List Place)
    → are_wide (registers_of protocol reading places) ≡ is_wide protocol
width_of protocols.Multiboot2 reading places = refl
width_of protocols.Linux reading places = refl
width_of protocols.Linux64 reading places = refl

-- so they are what a handoff keeps
pub reading_kept : (facts : MachineFacts) (value : EntryValue) (reading : KernelReading)
    (places : List Place) → IsKernelReading facts value reading → length value.module_lines ≤ 64
    → ArePlaced facts [] (rows_of facts value reading) places
    → IsWellFormedHandoff (record {
      protocol = value.protocol;
      registers = registers_of value.protocol reading places;
      places = places_in_order places;
    })
reading_kept facts value reading places is few placed =
    let rowed = reading_rowed facts value reading places placed in
    handoff_kept facts value.protocol (registers_of value.protocol reading places)
    (rows_of facts value reading) places (reading_rows facts value reading is)
    (reading_few facts value reading places is few placed) placed
    (width_of value.protocol reading places)
    (λ k d within.
    let p = get_or places k d in
    may_stand facts value reading p.role p.index p.length (rowed k d within))

-- ---- what stands there is no longer

multiboot2_short : (facts : MachineFacts) (value : EntryValue) (kernel : Multiboot2KernelFacts)
    (places : List Place) (role : Role) (i count : ℕ) → All IsFull kernel.segments
    → HasLength facts value (multiboot2 kernel) role i count
    → length (content_of facts value (multiboot2 kernel) places role i) ≤ count
multiboot2_short facts value kernel places Kernel i count full has =
    kernel_short (kernel_file value) kernel.segments kernel.relocation i count full has
multiboot2_short facts value kernel places Information i count full has =
    information_short facts value kernel.relocation places count has
multiboot2_short facts value kernel places Module i count full has =
    let size = has.1 in
    let frames =
    some_frames (max (length (module_file value.files i)) 1) (omega arith) in omega arith
multiboot2_short facts value kernel places _ i count full has = absurd has

payload_short : (file : List ℕ) (setup : Setup)
    → length (payload_of file setup) ≤ setup.payload_size
payload_short file setup =
    let at = setup.payload_offset in
    let size = setup.payload_size in
    let most : length (slice_range file at (at + size)) ≤ size = search (rules, places) in
    omega arith

-- a kernel's part takes its payload
pub payload_fits : (setup : Setup) → setup.payload_size ≤ (linux_kernel_row setup).length
payload_fits setup =
    cond_both (nat_eq setup.relocatable_kernel 0) (fixed_kernel_row setup) (relocatable_kernel_row setup)
    (λ row. setup.payload_size ≤ row.length) (λ _. omega arith) (λ _. omega arith)

-- descriptors fit a frame
descriptors_short : (protocol : Protocol) → length (unwrap_or (descriptors_of protocol) []) ≤ 4096
descriptors_short protocols.Multiboot2 = omega arith
descriptors_short protocols.Linux = omega arith
descriptors_short protocols.Linux64 = omega arith

linux_short : (facts : MachineFacts) (value : EntryValue) (setup : Setup) (places : List Place)
    (role : Role) (i count : ℕ) → line_fault value.line ≡ None
    → HasLength facts value (linux setup) role i count
    → length (content_of facts value (linux setup) places role i) ≤ count
linux_short facts value setup places Kernel i count sound has =
    let most = payload_short (kernel_file value) setup in
    let fits = payload_fits setup in omega arith
linux_short facts value setup places BootParams i count sound has =
    let size = length-boot_params setup.header (boot_params_facts facts value places) in omega arith
linux_short facts value setup places CommandLine i count sound has =
    let short = sound_short value.line sound in omega arith
linux_short facts value setup places Gdt i count sound has =
    let size = descriptors_short value.protocol in omega arith
linux_short facts value setup places Initrd i count sound has =
    let size = has.1 in
    let frames = some_frames (length (initrd_file value.files)) has.0 in omega arith
linux_short facts value setup places PageTables i count sound has =
    let size = length-paging (address_of PageTables 0 places) in
    let room : count ≡ 0x6000 = has.1 in omega (arith, size, room)
linux_short facts value setup places _ i count sound has = absurd has

pub reading_short : (facts : MachineFacts) (value : EntryValue) (reading : KernelReading)
    (places : List Place) (place : Place) → lines_fault (lines_of value) ≡ None
    → IsKernelReading facts value reading → HasRowLength facts value reading place
    → length (content_of facts value reading places place.role place.index) ≤ place.length
reading_short facts value (multiboot2 kernel) places place sound is rowed =
    multiboot2_short facts value kernel places place.role place.index place.length
    (kernel_full (kernel_file value) kernel is.1).1 rowed
reading_short facts value (linux setup) places place sound is rowed =
    linux_short facts value setup places place.role place.index place.length
    (first_sound (line_fault value.line) (lines_fault value.module_lines) sound).0 rowed
