-- What a Multiboot2 kernel is told fits its fields, and stands in the image of its handover.
use Rattle.std.proofs.Common.{◌≡◌, ◌+◌, ◌<◌, ◌≤◌, ◌^◌, ◌∷◌, ◌++◌, ℕ, true, List, [], length, take}
use Rattle.std.proofs.Common.{Some, None, refl, arith, All, AllPairs}
use Rattle.std.specs.Prelude.{is_some, codes, option_map}
use Rattle.std.specs.List.{list_any}
use Rattle.std.proofs.lemmas.List.Elements.{All-head, All-tail}
use Rattle.bl_map.specs.MachineFacts.{MachineFacts, IsWellFormedMachine}
use Rattle.bl_mbi.specs.InfoToWriteFacts.{InfoToWriteFacts, AreBytes, FitsInfoFields}
use Rattle.bl_mbi.specs.Spelling.{info_spelling}
use Rattle.bl_mbi.proofs.Sizes.{length-spelling}
use Rattle.bl_plan.specs.Placed.{ArePlaced}
use Rattle.bl_plan.specs.declared.part.Place.{Place}
use Rattle.bl_plan.specs.declared.part.Role.{Role}
use Rattle.bl_plan.specs.declared.part.Role.TheVariants.{Kernel, Module, Information}
use Rattle.bl_plan.specs.declared.part.Row.{Row}
use Rattle.bl_load.specs.Addresses.{address_of}
use Rattle.bl_load.specs.Handover.{Part, Handover, end_of}
use Rattle.bl_load.specs.Multiboot2Kernel.{Multiboot2KernelFacts, IsMultiboot2Kernel}
use Rattle.bl_load.specs.WellFormedEntry.{IsWellFormedValue}
use Rattle.bl_load.specs.Parts.{content_of, handover_of}
use Rattle.bl_load.specs.internal.Placing.{module_tags_size}
use Rattle.bl_load.specs.KernelReading.{multiboot2, has_screen}
use Rattle.bl_load.specs.Rows.{rows_of, kernel_rows, module_rows, information_row, information_of}
use Rattle.bl_load.specs.EntryValue.{EntryValue, kernel_file, module_file, line_fault, lines_fault}
use Rattle.bl_load.specs.EntryValue.{lines_of}
use Rattle.bl_load.proofs.EntryLemmas.{small_address}
use Rattle.bl_load.proofs.FirmwareLemmas.{machine_screen, machine_efi, machine_smbios}
use Rattle.bl_load.proofs.FirmwareLemmas.{efi_map_few, smbios_few}
use Rattle.bl_load.proofs.InformationLemmas.{info_size_is, tags_small, told_below}
use Rattle.bl_load.proofs.LineLemmas.{sound_text, sound_short, first_sound}
use Rattle.bl_load.proofs.ModuleLemmas.{modules_end_low}
use Rattle.bl_load.proofs.FullLemmas.{kernel_full}
use Rattle.bl_load.proofs.RowLemmas.{kernel_rows_are_rows}
use Rattle.bl_load.proofs.RowPlaceLemmas.{each_rowed}
use Rattle.bl_load.proofs.PlaceBoundLemmas.{are_below}
use Rattle.bl_walk.specs.PartBytes.{bytes_in}
use Rattle.bl_walk.proofs.PartLemmas.{is_of, held_front}
use Rattle.bl_walk.proofs.InformationLemmas.{row_held, behind, before, module_row, modules_fit}
use Rattle.bl_walk.proofs.TextLemmas.{lines_short, base_fits}

module _ (facts : MachineFacts) (value : EntryValue) (kernel : Multiboot2KernelFacts)
    (places : List Place) where
  abbrev pub content : Role → ℕ → List ℕ
  content = content_of facts value (multiboot2 kernel) places

  abbrev pub parts : List Part
  parts = (handover_of facts value (multiboot2 kernel) places).parts

  abbrev pub told : InfoToWriteFacts
  told = information_of facts value kernel.relocation places

  abbrev pub last : List Row
  last = information_row facts value kernel.relocation ∷ []

  abbrev pub handover : Handover
  handover = handover_of facts value (multiboot2 kernel) places

  abbrev pub text : List ℕ
  text = info_spelling (codes "bootcore") told

module _ (facts : MachineFacts) (value : EntryValue) (kernel : Multiboot2KernelFacts)
    (places : List Place)
    (machine : IsWellFormedMachine facts) (offered : IsWellFormedValue value)
    (lines : lines_fault (lines_of value) ≡ None)
    (is_kernel : IsMultiboot2Kernel (has_screen facts) (kernel_file value) kernel)
    (placed : ArePlaced facts [] (rows_of facts value (multiboot2 kernel)) places)
    (apart : AllPairs (λ p q. end_of p ≤ q.address)
    (handover_of facts value (multiboot2 kernel) places).parts) where
  pub held : (role : Role) (index n : ℕ) → list_any (is_of role index) places ≡ true
      → n ≤ length (content facts value kernel places role index)
      → bytes_in (parts facts value kernel places) (address_of role index places) n
      ≡ Some (take n (content facts value kernel places role index))
  held = held_front places (content facts value kernel places) apart

  pub information_held : list_any (is_of Information 0) places ≡ true
  information_held =
      row_held facts Information 0 [] (rows_of facts value (multiboot2 kernel)) places placed
      (behind Information 0 (kernel_rows kernel.segments kernel.relocation)
      (module_rows value.files 0 value.module_lines ++ last facts value kernel places)
      (behind Information 0 (module_rows value.files 0 value.module_lines)
      (last facts value kernel places) refl))

  pub module_held : (index : ℕ) → index < length value.module_lines
      → list_any (is_of Module index) places ≡ true
  module_held index within =
      row_held facts Module index [] (rows_of facts value (multiboot2 kernel)) places placed
      (behind Module index (kernel_rows kernel.segments kernel.relocation)
      (module_rows value.files 0 value.module_lines ++ last facts value kernel places)
      (before Module index (module_rows value.files 0 value.module_lines)
      (last facts value kernel places)
      (module_row value.files 0 index value.module_lines (omega arith) (omega arith))))

  low : All (λ p. p.address + p.length ≤ 0xFFFFF000) places
  low =
      let full = kernel_full (kernel_file value) kernel is_kernel in
      are_below facts [] (rows_of facts value (multiboot2 kernel)) places placed
      (kernel_rows_are_rows facts value kernel full.0 (λ k d within. (full.1 k d within).filled))

  ends : (i : ℕ) → i < length value.module_lines
      → address_of Module i places + length (module_file value.files i) ≤ 0xFFFFF000
  ends =
      modules_end_low facts value kernel places placed
      (each_rowed facts value kernel [] places placed) low

  pub fits : FitsInfoFields (told facts value kernel places)
  fits =
      let split = first_sound (line_fault value.line) (lines_fault value.module_lines) lines in
      let base = small_address Kernel 0 places 0xFFFFF000 low in
      record {
        line =
            sound_text value.line split.0
            (All-head AreBytes value.line value.module_lines offered.lines);
        modules =
            modules_fit value.files places 0 value.module_lines
            (λ i from upto. ends i (omega arith)) split.1
            (All-tail AreBytes value.line value.module_lines offered.lines);
        mem_lower = omega arith;
        mem_upper = omega arith;
        runs = machine.runs.low;
        screen = machine_screen facts machine;
        efi = machine_efi facts machine;
        smbios = machine_smbios facts machine;
        rsdp_old = offered.rsdp_old;
        rsdp_new = offered.rsdp_new;
        load_base = base_fits kernel.relocation (address_of Kernel 0 places) (omega arith);
      }

  pub size_is : length (info_spelling (codes "bootcore") (told facts value kernel places)) < 2 ^ 32
  size_is =
      let split = first_sound (line_fault value.line) (lines_fault value.module_lines) lines in
      let short = sound_short value.line split.0 in
      let few = offered.limits.few in
      let tags = tags_small value.module_lines (lines_short value.module_lines split.1) in
      let small : module_tags_size value.module_lines < 2 ^ 20 = omega (arith, few, tags) in
      let below =
      told_below (length value.line) (length facts.runs) (is_some facts.firmware.screen)
      (option_map (λ told. length told.map) facts.firmware.efi)
      (option_map (λ told. length told.tables) facts.firmware.smbios)
      value.rsdp_old value.rsdp_new (is_some kernel.relocation) short machine.few
      (efi_map_few facts machine) (smbios_few facts machine)
      offered.limits.rsdp_old offered.limits.rsdp_new
      (module_tags_size value.module_lines) small in
      let whole = length-spelling (told facts value kernel places) in
      let sum = info_size_is facts value kernel.relocation places in
      omega (arith, below, whole, sum)

  pub long : 16 ≤ length (text facts value kernel places)
  long = let size = length-spelling (told facts value kernel places) in omega (arith, size)
