-- What is prepared of an entry by its lines and its kernel.
use Rattle.std.proofs.Common.{◌≡◌, ◌≤◌, ℕ, List, [], length, get_or, map, None, arith}
use Rattle.std.proofs.Common.{true, sym, subst, inl, inr}
use Rattle.std.proofs.lemmas.List.{get_or-map}
use Rattle.bl_map.specs.MachineFacts.{MachineFacts}
use Rattle.bl_mem.specs.FileSet.{nth_file}
use Rattle.bl_mem.specs.declared.byte_view.ByteView.{Ghosts}
use Rattle.bl_plan.specs.declared.protocol.Protocol.TheVariants.{Multiboot2}
use Rattle.bl_load.specs.EntryValue.{EntryValue, kernel_file, lines_fault, lines_of}
use Rattle.bl_load.specs.Handover.{Handover}
use Rattle.bl_load.specs.KernelReading.{KernelReading, has_screen, IsKernelReading}
use Rattle.bl_load.specs.Parts.{IsHandover, IsPrepFault}
use Rattle.bl_load.specs.PlanContents.{handover_by}
use Rattle.bl_load.specs.Protocols.{has_params}
use Rattle.bl_load.specs.Rows.{rows_of}
use Rattle.bl_load.specs.declared.checked_entry.CheckedEntry.{CheckedEntry}
use Rattle.bl_load.specs.declared.plan.Plan.{Plan}
use Rattle.bl_load.specs.declared.refusal.PrepFault.{PrepFault}
use Rattle.bl_load.specs.declared.refusal.PrepFault.TheVariants as prep
use Rattle.bl_load.specs.internal.CheckedEntries.{texts_in, value_of_files, IsCheckedEntry}
use Rattle.bl_load.specs.internal.CheckedEntries.{IsReadWithFiles}
use Rattle.bl_load.specs.internal.Placing.{IsPlaceFault, IsPlacedHandover}
use Rattle.bl_load.specs.internal.Plans.{IsPlanOfValue, IsPlacedPlan}
use Rattle.bl_load.specs.internal.ReadKernels.{IsKernelFault, IsLinuxFault}
use Rattle.bl_load.specs.internal.ReadMultiboot2Kernels.{IsMultiboot2Fault}

-- the kernel's file is the first
pub first_text : {V : Type 0} (bytes : V → List ℕ) (files : List V) (file : V) → 1 ≤ length files
    → bytes (get_or files 0 file) ≡ nth_file (map bytes files) 0
first_text bytes files file some = sym (get_or-map bytes files 0 file [] (omega arith))

-- a value whose lines have no fault
module _ (facts : MachineFacts) (value : EntryValue) (sound : lines_fault (lines_of value) ≡ None)
  where
    -- what its parts hand over, it hands over
    pub prepared : (reading : KernelReading) (handover : Handover) → IsKernelReading facts value reading
        → IsPlacedHandover facts value reading handover → IsHandover facts value handover
    prepared reading handover is placed = record {
      reading = reading;
      places = placed.places;
      lines = sound;
      read = is;
      placed = placed.placed;
      is = placed.is;
    }

    -- and so does a fault of its places
    pub refused_places : (reading : KernelReading) (fault : PrepFault) → IsKernelReading facts value reading
        → IsPlaceFault facts (rows_of facts value reading) fault → IsPrepFault facts value fault
    refused_places reading (prep.Refused refused) is has = inr (sound, inr (reading, is, has))
    refused_places reading prep.NoMemory is has = tt

    -- and a fault of its kernel
    pub refused_kernel : (fault : PrepFault) → IsKernelFault facts value fault
        → IsPrepFault facts value fault
    refused_kernel (prep.Refused refused) has = inr (sound, inl has)
    refused_kernel prep.NoMemory has = tt

-- a fault of a kernel's file is one of the entry's kernel, by its protocol
pub multiboot2_fault : (facts : MachineFacts) (value : EntryValue) → value.protocol ≡ Multiboot2
    → (fault : PrepFault) → IsMultiboot2Fault (has_screen facts) (kernel_file value) fault
    → IsKernelFault facts value fault
multiboot2_fault facts value is (prep.Refused refused) has = inl (is, has)
multiboot2_fault facts value is prep.NoMemory has = tt

pub linux_fault : (facts : MachineFacts) (value : EntryValue) → has_params value.protocol ≡ true
    → (fault : PrepFault)
    → IsLinuxFault value.protocol facts.runs value.line (kernel_file value) fault
    → IsKernelFault facts value fault
linux_fault facts value is (prep.Refused refused) has = inr (is, has)
linux_fault facts value is prep.NoMemory has = tt

-- what holds of an entry with its files holds of its value
module _ {A V : Type 0} {view : Ghosts V} (facts : MachineFacts) (texts : List (List ℕ))
    (value : EntryValue) (entry : CheckedEntry A V view)
    (is : IsCheckedEntry facts texts value entry) where
  pub as_value : (P : MachineFacts → EntryValue → Type 0)
      → P entry.machine.now (value_of_files entry) → P facts value
  as_value P h =
      subst (λ (f : MachineFacts). P f value) is.machine
      (subst (λ (v : EntryValue). P entry.machine.now v) is.is h)

  -- so does what is planned
  pub planned : {B : Type 0} (reading : KernelReading) (plan : Plan B)
      → IsReadWithFiles entry reading → IsPlacedPlan entry reading plan
      → IsPlanOfValue facts texts value plan
  planned reading plan read placed =
      let at_files : IsPlanOfValue entry.machine.now (texts_in entry) (value_of_files entry) plan =
      record {
        handover =
            prepared entry.machine.now (value_of_files entry) is.lines reading
            (handover_by (texts_in entry) plan) read.read placed.handover;
        loadable = placed.loadable;
        lean = placed.lean;
        origins = placed.origins;
      } in
      as_value (λ f v. IsPlanOfValue f texts v plan)
      (subst (λ (ts : List (List ℕ)).
      IsPlanOfValue entry.machine.now ts (value_of_files entry) plan) is.texts at_files)

  pub planned_fault : (reading : KernelReading) (fault : PrepFault)
      → IsReadWithFiles entry reading
      → IsPlaceFault entry.machine.now
      (rows_of entry.machine.now (value_of_files entry) reading) fault
      → IsPrepFault facts value fault
  planned_fault reading fault read has =
      as_value (λ f v. IsPrepFault f v fault)
      (refused_places entry.machine.now (value_of_files entry) is.lines reading fault read.read has)

  pub kernel_fault : (fault : PrepFault)
      → IsKernelFault entry.machine.now (value_of_files entry) fault → IsPrepFault facts value fault
  kernel_fault fault has =
      as_value (λ f v. IsPrepFault f v fault)
      (refused_kernel entry.machine.now (value_of_files entry) is.lines fault has)
