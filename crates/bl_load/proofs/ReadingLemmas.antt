-- What the code needs of an entry's rows and places, by what was read of its kernel.
use Rattle.std.proofs.Common.{ℕ, List, [], length, arith, All}
use Rattle.std.proofs.lemmas.List.{length-map}
use Rattle.bl_map.specs.MachineFacts.{MachineFacts}
use Rattle.bl_plan.specs.Placed.{ArePlaced, IsPlacingFault, IsWellFormedRow}
use Rattle.bl_plan.specs.declared.fault.PlanFault.{PlanFault}
use Rattle.bl_plan.specs.declared.fault.PlanFault.TheVariants.{NotUsable, Overlap, NoRoom, NoMemory}
use Rattle.bl_plan.specs.declared.part.Place.{Place}
use Rattle.bl_load.specs.declared.entry.Module.{Module}
use Rattle.bl_load.specs.internal.Multiboot2Entries.{lines_of_modules}
use Rattle.bl_load.specs.internal.Placing.{EndsLow, HasRowLength, ModulesEndLow, capped_rows_of}
use Rattle.bl_load.specs.KernelReading.{KernelReading, multiboot2, linux, IsKernelReading}
use Rattle.bl_load.specs.Rows.{rows_of}
use Rattle.bl_load.specs.internal.ReadKernels.{EntersBy, HasFiles, ToldFits32Bits}
use Rattle.bl_load.specs.internal.ReadKernels.{EntryPointFits32Bits}
use Rattle.bl_load.specs.EntryValue.{EntryValue, kernel_file, initrd_file}
use Rattle.bl_load.proofs.EntryLemmas.{entry_small}
use Rattle.bl_load.proofs.LinuxKernelLemmas.{setup_is}
use Rattle.bl_load.proofs.LinuxToldLemmas.{linux_as_placed, linux_as_fault, initrd_fits}
use Rattle.bl_load.proofs.LinuxToldRows.{told_linux_rows_are}
use Rattle.bl_load.proofs.PageTablesLemmas.{tables_fit}
use Rattle.bl_load.proofs.NoRoomLemmas.{as_placed, placing_fault}
use Rattle.bl_load.proofs.ModuleLemmas.{modules_end_low}
use Rattle.bl_load.proofs.RowLemmas.{told_rows_are_rows}

module _ (facts : MachineFacts) (value : EntryValue) where
  -- it is entered by the entry's protocol
  pub enters_by : (reading : KernelReading) → IsKernelReading facts value reading
      → EntersBy value.protocol reading
  enters_by (multiboot2 kernel) is = is.0
  enters_by (linux setup) is = is.0

  -- the rows as the code tells them are rows
  pub told_are_rows : (reading : KernelReading) (modules : ℕ) → IsKernelReading facts value reading
      → HasFiles value.files modules reading → All IsWellFormedRow (capped_rows_of facts value reading)
  told_are_rows (multiboot2 kernel) modules is has =
      told_rows_are_rows (kernel_file value) facts value kernel has.1
  told_are_rows (linux setup) modules is has =
      told_linux_rows_are value.protocol (kernel_file value) setup (initrd_file value.files)
      (setup_is is.1)

  -- their places are those of the entry's rows
  pub told_placed : (reading : KernelReading) (places : List Place)
      → ArePlaced facts [] (capped_rows_of facts value reading) places
      → ArePlaced facts [] (rows_of facts value reading) places
  told_placed (multiboot2 kernel) places placed = as_placed facts value kernel places placed
  told_placed (linux setup) places placed =
      linux_as_placed facts value.protocol setup (initrd_file value.files) places placed

  -- and so is their fault
  pub told_fault : (reading : KernelReading) (fault : PlanFault)
      → IsPlacingFault facts (capped_rows_of facts value reading) fault
      → IsPlacingFault facts (rows_of facts value reading) fault
  told_fault (multiboot2 kernel) fault has = placing_fault facts value kernel fault has
  told_fault (linux setup) NotUsable has =
      linux_as_fault facts value.protocol setup NotUsable (initrd_file value.files) has
  told_fault (linux setup) Overlap has =
      linux_as_fault facts value.protocol setup Overlap (initrd_file value.files) has
  told_fault (linux setup) NoRoom has =
      linux_as_fault facts value.protocol setup NoRoom (initrd_file value.files) has
  told_fault (linux setup) NoMemory has = tt

  -- what is told of the parts fits 32 bits
  pub fits_told : (reading : KernelReading) (places : List Place)
      → ArePlaced facts [] (rows_of facts value reading) places
      → All (HasRowLength facts value reading) places → All EndsLow places
      → ToldFits32Bits value reading places
  fits_told (multiboot2 kernel) places placed rowed low =
      modules_end_low facts value kernel places placed rowed low
  fits_told (linux setup) places placed rowed low = (
    initrd_fits facts value.protocol setup (initrd_file value.files) places placed low,
    tables_fit facts value.protocol setup (initrd_file value.files) places placed,
  )

  -- and so does the entry
  pub can_enter : (reading : KernelReading) (modules : ℕ) (places : List Place)
      → IsKernelReading facts value reading → HasFiles value.files modules reading
      → ArePlaced facts [] (rows_of facts value reading) places → All EndsLow places
      → EntryPointFits32Bits reading places
  can_enter (multiboot2 kernel) modules places is has placed low =
      entry_small (kernel_file value) facts value kernel places is.1 has.1 placed low
  can_enter (linux setup) modules places is has placed low = tt

-- there are as many lines as modules
pub modules_fit : {A : Type 0} (modules : List (Module A)) (texts : List (List ℕ))
    (places : List Place) → ModulesEndLow texts places (length (lines_of_modules modules))
    → ModulesEndLow texts places (length modules)
modules_fit {A = A} modules texts places ends =
    let count = length-map modules (λ (m : Module A). m.line) in
    λ k within. ends k (omega (arith, count, within))
