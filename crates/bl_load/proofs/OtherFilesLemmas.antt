-- A value whose files after the kernel are others of the same lengths is read and refused in the same
-- way, and its parts come from the same.
use Rattle.std.proofs.Common.{◌≡◌, ◌+◌, ℕ, List, [], ◌∷◌, map}
use Rattle.std.proofs.Common.{true, refl, sym, ap, ap₂, subst, ◌∙◌, ◌⊎◌, inl, inr, Option}
use Rattle.std.specs.Prelude.{codes}
use Rattle.bl_map.specs.MachineFacts.{MachineFacts}
use Rattle.bl_mbi.specs.InfoToWriteFacts.{InfoToWriteFacts}
use Rattle.bl_mbi.specs.Spelling.{info_spelling}
use Rattle.bl_mem.specs.FileSet.{nth_file}
use Rattle.bl_params.specs.BootParams.{boot_params}
use Rattle.bl_params.specs.ParamsToWriteFacts.{ParamsToWriteFacts}
use Rattle.bl_plan.specs.AddressOrder.{places_in_order}
use Rattle.bl_plan.specs.Placed.{ArePlaced}
use Rattle.bl_plan.specs.declared.part.Place.{Place}
use Rattle.bl_plan.specs.declared.part.Role.{Role}
use Rattle.bl_plan.specs.declared.part.Role.TheVariants.{Kernel, Module, Information, BootParams}
use Rattle.bl_plan.specs.declared.part.Role.TheVariants.{CommandLine, Gdt, Initrd, PageTables}
use Rattle.bl_plan.specs.declared.part.Row.{Row}
use Rattle.bl_plan.specs.declared.protocol.Protocol.TheVariants as protocols
use Rattle.bl_load.specs.declared.refusal.PrepFault.{PrepFault}
use Rattle.bl_load.specs.declared.refusal.PrepFault.TheVariants as prep
use Rattle.bl_load.specs.declared.refusal.Refusal.{Refusal}
use Rattle.bl_load.specs.EntryValue.{EntryValue}
use Rattle.bl_load.specs.KernelReading.{KernelReading, multiboot2, linux, IsKernelReading}
use Rattle.bl_load.specs.KernelReading.{has_screen, HasKernelFileFault}
use Rattle.bl_load.specs.LinuxKernel.{IsLinuxKernel, HasLinuxFault}
use Rattle.bl_load.specs.Multiboot2Kernel.{IsMultiboot2Kernel, HasMultiboot2Fault}
use Rattle.bl_load.specs.Origins.{Origin, made, file_range}
use Rattle.bl_load.specs.Origins.{origin_from, PartOrigin, origin_at, AreOrigins}
use Rattle.bl_load.specs.Parts.{HasRowFault, IsRefusal, IsPrepFault}
use Rattle.bl_load.specs.Protocols.{has_params}
use Rattle.bl_load.specs.Unplaced.{IsUnplacedOf, IsUnplaced, IsFaultBeforePlacing}
use Rattle.bl_load.proofs.FileLengthLemmas.{with_files, AreAsLong}
use Rattle.bl_load.proofs.FileLengthLemmas.{same_information, same_params, same_rows}

map_same : {X Y : Type 0} (f g : X → Y) → ((x : X) → f x ≡ g x) → (xs : List X)
    → map f xs ≡ map g xs
map_same f g is [] = refl
map_same {Y = Y} f g is (x ∷ xs) =
    ap₂ (λ (y : Y) (ys : List Y). y ∷ ys) (is x) (map_same f g is xs)

origin_on : Place → Origin → PartOrigin
origin_on place origin = record { place = place; origin = origin }

module _ (facts : MachineFacts) (value : EntryValue) (texts : List (List ℕ))
    (kernel : nth_file texts 0 ≡ nth_file value.files 0) (long : AreAsLong texts value.files) where
  -- ---- the kernel is read so, and refused so

  pub read_with : (reading : KernelReading) → IsKernelReading facts value reading
      → IsKernelReading facts (with_files texts value) reading
  read_with (multiboot2 k) is =
      (is.0, subst (λ (file : List ℕ). IsMultiboot2Kernel (has_screen facts) file k) (sym kernel) is.1)
  read_with (linux setup) is = (
    is.0,
    subst (λ (file : List ℕ). IsLinuxKernel value.protocol facts.runs value.line file setup)
        (sym kernel) is.1,
  )

  file_fault_with : (r : Refusal) → HasKernelFileFault facts value r
      → HasKernelFileFault facts (with_files texts value) r
  file_fault_with r has =
      subst (λ (file : List ℕ).
      ((value.protocol ≡ protocols.Multiboot2) × HasMultiboot2Fault (has_screen facts) file r)
      ⊎ ((has_params value.protocol ≡ true)
      × HasLinuxFault value.protocol facts.runs value.line file r)) (sym kernel) has

  refused_with : (r : Refusal) → IsRefusal facts value r
      → IsRefusal facts (with_files texts value) r
  refused_with r (inl lines) = inl lines
  refused_with r (inr (lines, inl file)) = inr (lines, inl (file_fault_with r file))
  refused_with r (inr (lines, inr (reading, is, has))) =
      inr (
        lines,
        inr (
          reading,
          read_with reading is,
          subst (λ (rows : List Row). HasRowFault facts rows r)
              (sym (same_rows facts value texts long reading)) has,
        ),
      )

  pub fault_with : (fault : PrepFault) → IsPrepFault facts value fault
      → IsPrepFault facts (with_files texts value) fault
  fault_with (prep.Refused r) is = refused_with r is
  fault_with prep.NoMemory is = tt

  -- ---- its first part without a place is told so

  pub unplaced_with : (which : Option Row) → IsUnplaced facts value which
      → IsUnplaced facts (with_files texts value) which
  unplaced_with which is = record {
    reading = is.reading;
    lines = is.lines;
    read = read_with is.reading is.read;
    is =
        subst (λ (rows : List Row). IsUnplacedOf facts [] rows which)
        (sym (same_rows facts value texts long is.reading)) is.is;
  }

  pub early_fault_with : (fault : PrepFault) → IsFaultBeforePlacing facts value fault
      → IsFaultBeforePlacing facts (with_files texts value) fault
  early_fault_with (prep.Refused r) (inl lines) = inl lines
  early_fault_with (prep.Refused r) (inr (lines, file)) = inr (lines, file_fault_with r file)
  early_fault_with prep.NoMemory is = tt

  -- ---- its parts come from the same

  origin_with : (reading : KernelReading) (places : List Place) (role : Role) (i : ℕ)
      → origin_from facts value reading places role i
      ≡ origin_from facts (with_files texts value) reading places role i
  origin_with (multiboot2 k) places Kernel i = refl
  origin_with (multiboot2 k) places Module i = ap (file_range (i + 1) 0) (sym (long (i + 1)))
  origin_with (multiboot2 k) places Information i =
      ap (λ (told : InfoToWriteFacts). made (info_spelling (codes "bootcore") told))
      (sym (same_information facts value texts long k.relocation places))
  origin_with (multiboot2 k) places BootParams i = refl
  origin_with (multiboot2 k) places CommandLine i = refl
  origin_with (multiboot2 k) places Gdt i = refl
  origin_with (multiboot2 k) places Initrd i = refl
  origin_with (multiboot2 k) places PageTables i = refl
  origin_with (linux setup) places Kernel i = refl
  origin_with (linux setup) places Module i = refl
  origin_with (linux setup) places Information i = refl
  origin_with (linux setup) places BootParams i =
      ap (λ (told : ParamsToWriteFacts). made (boot_params setup.header told))
      (sym (same_params facts value texts long places))
  origin_with (linux setup) places CommandLine i = refl
  origin_with (linux setup) places Gdt i = refl
  origin_with (linux setup) places Initrd i = ap (file_range 1 0) (sym (long 1))
  origin_with (linux setup) places PageTables i = refl

  pub origins_with : (parts : List PartOrigin) → AreOrigins facts value parts
      → AreOrigins facts (with_files texts value) parts
  unfolding origin_on
  origins_with parts are =
      record {
        reading = are.reading;
        places = are.places;
        read = read_with are.reading are.read;
        placed =
            subst (λ (rows : List Row). ArePlaced facts [] rows are.places)
            (sym (same_rows facts value texts long are.reading)) are.placed;
        are =
            are.are
            ∙ map_same (origin_at facts value are.reading are.places)
            (origin_at facts (with_files texts value) are.reading are.places)
            (λ place. ap (origin_on place)
            (origin_with are.reading are.places place.role place.index))
            (places_in_order are.places);
      }
