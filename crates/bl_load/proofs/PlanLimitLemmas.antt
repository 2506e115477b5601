-- A plan has at most 520 steps, and at most 400 KiB of its own.
use Rattle.std.proofs.Common.{◌≡◌, ◌≤◌, ◌+◌, ℕ, List, [], ◌∷◌, length, All, get_or}
use Rattle.std.proofs.Common.{None, Option, arith, refl, ap}
use Rattle.std.specs.Prelude.{sum_by, codes, is_some, option_map}
use Rattle.std.proofs.lemmas.List.Sums.{sum_by-le}
use Rattle.std.proofs.lemmas.List.Elements.{All-nil, All-cons}
use Rattle.bl_map.specs.MachineFacts.{MachineFacts, IsWellFormedMachine}
use Rattle.bl_mb2head.specs.declared.relocation.Relocation.{Relocation}
use Rattle.bl_mbi.specs.Spelling.{info_spelling}
use Rattle.bl_mbi.proofs.Sizes.{length-spelling}
use Rattle.bl_plan.specs.Placed.{ArePlaced}
use Rattle.bl_plan.specs.declared.part.Place.{Place}
use Rattle.bl_plan.specs.declared.part.Role.{Role}
use Rattle.bl_plan.specs.declared.part.Role.TheVariants.{Information}
use Rattle.bl_load.specs.EntryValue.{EntryValue, HasLimits, kernel_file, initrd_file, line_fault}
use Rattle.bl_load.specs.EntryValue.{lines_fault, lines_of}
use Rattle.bl_load.specs.KernelReading.{KernelReading, multiboot2, linux, IsKernelReading}
use Rattle.bl_load.specs.Origins.{PartOrigin, origin_from, origin_at, AreOrigins}
use Rattle.bl_load.specs.PlanLimits.{max_steps, max_own}
use Rattle.bl_load.specs.Rows.{rows_of, module_rows}
use Rattle.bl_load.specs.Rows.{information_of}
use Rattle.bl_load.specs.StepsByOrigins.{own_of_origin, steps_by, own_by}
use Rattle.bl_load.specs.internal.Placing.{module_tags_size}
use Rattle.bl_load.proofs.FullLemmas.{kernel_few}
use Rattle.bl_load.proofs.FirmwareLemmas.{efi_map_few, smbios_few}
use Rattle.bl_load.proofs.InformationLemmas.{info_size_is, tags_small, told_small}
use Rattle.bl_load.proofs.LineLemmas.{first_sound, sound_short}
use Rattle.bl_load.proofs.LinuxLemmas.{linux_few}
use Rattle.bl_load.proofs.PartCountLemmas.{most_steps, step_weight, own_weight, by_row, by_place}
use Rattle.bl_load.proofs.PartCountLemmas.{steps_few, own_few, placed_sum, parts_sum}
use Rattle.bl_load.proofs.RowCountLemmas.{each_module, sum_rows, kernel_steps, kernel_own}
use Rattle.bl_load.proofs.RowCountLemmas.{linux_steps, linux_own}
use Rattle.bl_load.proofs.RowLemmas.{length-module_rows}

-- ---- an entry's parts

lines_short : (lines : List (List ℕ)) → lines_fault lines ≡ None
    → All (λ line. length line ≤ 4095) lines
lines_short [] sound = All-nil (λ (line : List ℕ). length line ≤ 4095)
lines_short (line ∷ lines) sound =
    let parts = first_sound (line_fault line) (lines_fault lines) sound in
    All-cons (λ (l : List ℕ). length l ≤ 4095) line lines (sound_short line parts.0)
    (lines_short lines parts.1)

module _ (facts : MachineFacts) (value : EntryValue) (limits : HasLimits value) where
  reading_steps : (reading : KernelReading) (places : List Place)
      → IsKernelReading facts value reading
      → ArePlaced facts [] (rows_of facts value reading) places
      → sum_by (λ place. step_weight (origin_at facts value reading places place)) places ≤ 520
  reading_steps (multiboot2 kernel) places read placed =
      let w : Role → ℕ → ℕ =
      λ role i. most_steps (origin_from facts value (multiboot2 kernel) places role i) + 1 in
      let modules = module_rows value.files 0 value.module_lines in
      let same : sum_by (by_place w) places
      ≡ sum_by (by_row w) (rows_of facts value (multiboot2 kernel)) =
      placed_sum facts w [] (rows_of facts value (multiboot2 kernel)) places placed in
      let of_kernel =
      kernel_steps w kernel.segments kernel.relocation
      (kernel_few (kernel_file value) kernel read.1) (λ i. refl) in
      let of_modules =
      sum_by-le (by_row w) 2 modules
      (each_module w 2 value.files 0 value.module_lines (λ i. omega arith)) in
      let last : w Information 0 ≡ 2 = refl in
      let few = limits.few in
      omega (
        arith,
        same,
        sum_rows w facts value kernel,
        of_kernel,
        of_modules,
        length-module_rows value.files 0 value.module_lines,
        last,
        few,
      )
  reading_steps (linux setup) places read placed =
      let most =
      sum_by-le (λ place. step_weight (origin_at facts value (linux setup) places place)) 2 places
      (λ k d within.
      linux_steps facts value setup places (get_or places k d).role (get_or places k d).index) in
      let few =
      linux_few facts value.protocol setup (initrd_file value.files) [] places placed in
      omega (arith, most, few)

  pub steps_limit : (parts : List PartOrigin) → AreOrigins facts value parts
      → length (steps_by 0 parts) ≤ max_steps
  steps_limit parts are =
      let all = ap (λ (ps : List PartOrigin). sum_by step_weight ps) are.are in
      omega (
        arith,
        steps_few 0 parts,
        all,
        parts_sum facts value are.reading are.places step_weight,
        reading_steps are.reading are.places are.read are.placed,
      )

  module _ (machine : IsWellFormedMachine facts) (sound : lines_fault (lines_of value) ≡ None) where
    information_small : (relocation : Option Relocation) (places : List Place)
        → length (info_spelling (codes "bootcore") (information_of facts value relocation places))
        ≤ max_own
    information_small relocation places =
        let lines = first_sound (line_fault value.line) (lines_fault value.module_lines) sound in
        let tags = tags_small value.module_lines (lines_short value.module_lines lines.1) in
        let small =
        told_small (length value.line) (length facts.runs) (is_some facts.firmware.screen)
        (option_map (λ told. length told.map) facts.firmware.efi)
        (option_map (λ told. length told.tables) facts.firmware.smbios) value.rsdp_old
        value.rsdp_new (is_some relocation) (sound_short value.line lines.0) machine.few
        (efi_map_few facts machine) (smbios_few facts machine) limits.rsdp_old limits.rsdp_new
        (module_tags_size value.module_lines) in
        let few = limits.few in
        omega (
          arith,
          length-spelling (information_of facts value relocation places),
          info_size_is facts value relocation places,
          tags,
          small,
          few,
        )

    reading_own : (reading : KernelReading) (places : List Place)
        → IsKernelReading facts value reading
        → ArePlaced facts [] (rows_of facts value reading) places
        → sum_by (λ place. own_weight (origin_at facts value reading places place)) places
        ≤ max_own
    reading_own (multiboot2 kernel) places read placed =
        let w : Role → ℕ → ℕ =
        λ role i. length (own_of_origin (origin_from facts value (multiboot2 kernel) places role i)) in
        let modules = module_rows value.files 0 value.module_lines in
        let same : sum_by (by_place w) places
        ≡ sum_by (by_row w) (rows_of facts value (multiboot2 kernel)) =
        placed_sum facts w [] (rows_of facts value (multiboot2 kernel)) places placed in
        let of_modules =
        sum_by-le (by_row w) 0 modules
        (each_module w 0 value.files 0 value.module_lines (λ i. omega arith)) in
        let last : w Information 0 ≤ max_own = information_small kernel.relocation places in
        omega (
          arith,
          same,
          sum_rows w facts value kernel,
          kernel_own w kernel.segments kernel.relocation (λ i. refl),
          of_modules,
          last,
        )
    reading_own (linux setup) places read placed =
        let lines = first_sound (line_fault value.line) (lines_fault value.module_lines) sound in
        let short = sound_short value.line lines.0 in
        let most =
        sum_by-le (λ place. own_weight (origin_at facts value (linux setup) places place)) 24576
        places
        (λ k d within.
        linux_own facts value setup places (get_or places k d).role (get_or places k d).index
        short) in
        let few =
        linux_few facts value.protocol setup (initrd_file value.files) [] places placed in
        omega (arith, most, few)

    pub own_limit : (parts : List PartOrigin) → AreOrigins facts value parts
        → length (own_by parts) ≤ max_own
    own_limit parts are =
        let all = ap (λ (ps : List PartOrigin). sum_by own_weight ps) are.are in
        omega (
          arith,
          own_few parts,
          all,
          parts_sum facts value are.reading are.places own_weight,
          reading_own are.reading are.places are.read are.placed,
        )
