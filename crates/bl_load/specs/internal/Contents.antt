-- What the code keeps of the contents of parts, where the parts have their places.
use Rattle.std.specs.Prelude.{◌≡◌, ◌+◌, ◌≤◌, ◌^◌, ℕ, List, All, map, length}
use Rattle.bl_mem.specs.declared.byte_view.ByteView.{Ghosts}
use Rattle.bl_plan.specs.declared.part.Place.{Place}
use Rattle.bl_plan.specs.declared.part.Role.{Role}
use Rattle.bl_plan.specs.declared.part.Role.TheVariants.{Kernel, Module}
use Rattle.bl_mem.specs.FileSet.{nth_file}
use Rattle.bl_load.specs.declared.checked_entry.CheckedEntry.{CheckedEntry}
use Rattle.bl_load.specs.declared.plan.Content.{Content}
use Rattle.bl_load.specs.declared.plan.PlannedPart.{PlannedPart}
use Rattle.bl_load.specs.KernelReading.{KernelReading}
use Rattle.bl_load.specs.Loadable.{lengths_of, content_length, IsInFiles, IsBacked}
use Rattle.bl_load.specs.LeanPlans.{IsLeanContent, IsLean}
use Rattle.bl_load.specs.Origins.{Origin, origin_of, planned_origin, origin_at, origin_from}
use Rattle.bl_load.specs.EntryValue.{module_file}
use Rattle.bl_load.specs.Origins.{file_range, kernel_origin}
use Rattle.bl_load.specs.Multiboot2Kernel.{Multiboot2KernelFacts}
use Rattle.bl_load.specs.Parts.{part_from, content_of, kernel_content}
use Rattle.bl_load.specs.PlanContents.{content_by, part_by}
use Rattle.bl_load.specs.PlannedPlaces.{planned_place}
use Rattle.bl_load.specs.internal.CheckedEntries.{texts_in, value_of_files, IsReadWithFiles}
use Rattle.bl_load.specs.internal.Placing.{HasRowLength, HasKernelLength, EndsLow}
use Rattle.bl_load.specs.internal.ReadKernels.{ToldFits32Bits}
use Rattle.bl_load.specs.internal.ReadMultiboot2Kernels.{AreLoadable}

-- the kernel was read so, the parts have these places, and one of them is this place
pub record IsPlacedAmong {A : Type 0} {V : Type 0} {view : Ghosts V} (entry : CheckedEntry A V view)
    (reading : KernelReading) (places : List Place) (place : Place) : Type 0 where
  pub ready : IsReadWithFiles entry reading
  pub fits : ToldFits32Bits (value_of_files entry) reading places
  pub low : All EndsLow places
  pub rowed : HasRowLength entry.machine.now (value_of_files entry) reading place
  pub small : place.length ≤ 2 ^ 32

-- the content of a part of this role is these bytes, and comes from there: they are there, at most
-- so many, and stay in the files but for what the loader makes
pub record IsContentOf {A : Type 0} (texts : List (List ℕ)) (role : Role) (bytes : List ℕ)
    (origin : Origin) (most : ℕ) (content : Content A) : Type 0 where
  pub is : content_by texts content ≡ bytes
  pub comes : origin_of content ≡ origin
  pub there : IsInFiles (lengths_of texts) content
  pub short : content_length content ≤ most
  pub lean : IsLeanContent role content

-- the place is one of a Multiboot2 kernel's parts, and the kernel can be loaded out of the first of
-- these files
pub record IsPlaceOfKernel (texts : List (List ℕ)) (kernel : Multiboot2KernelFacts) (place : Place)
    : Type 0 where
  pub file : 1 ≤ length texts
  pub loadable : AreLoadable (nth_file texts 0) kernel.segments
  pub long : HasKernelLength kernel.segments kernel.relocation place.index place.length
  pub small : place.length ≤ 2 ^ 32

-- the content of the kernel's part at a place, where its file is the first of these
abbrev pub IsKernelContent : {A : Type 0} → List (List ℕ) → Multiboot2KernelFacts → Place
    → Content A → Type 0
IsKernelContent texts kernel place content =
    IsContentOf texts Kernel
    (kernel_content (nth_file texts 0) kernel.segments kernel.relocation place.index)
    (kernel_origin kernel.segments kernel.relocation place.index) place.length content

-- the content of a module's part at a place: its whole file
abbrev pub IsModuleContent : {A : Type 0} → List (List ℕ) → Place → Content A → Type 0
IsModuleContent texts place content =
    IsContentOf texts Module (module_file texts place.index)
    (file_range (place.index + 1) 0 (length (module_file texts place.index))) place.length content

-- the content of the part at a place, where the parts have these places
abbrev pub IsContentAt : {A B V : Type 0} → {view : Ghosts V} → CheckedEntry B V view
    → KernelReading → List Place → Place → Content A → Type 0
IsContentAt entry reading places place content =
    IsContentOf (texts_in entry) place.role
    (content_of entry.machine.now (value_of_files entry) reading places place.role place.index)
    (origin_from entry.machine.now (value_of_files entry) reading places place.role place.index)
    place.length content

-- these are the parts at the places `sorted`, where all parts have the places `all`
pub record ArePartsAt {A : Type 0} {B : Type 0} {V : Type 0} {view : Ghosts V}
    (entry : CheckedEntry B V view) (reading : KernelReading) (all : List Place)
    (sorted : List Place) (items : List (PlannedPart A)) : Type 0 where
  pub parts : map (part_by (texts_in entry)) items
      ≡ map (part_from entry.machine.now (value_of_files entry) reading all) sorted
  pub backed : All (IsBacked (lengths_of (texts_in entry))) items
  pub lean : IsLean items
  pub places : map planned_place items ≡ sorted
  pub origins : map planned_origin items
      ≡ map (origin_at entry.machine.now (value_of_files entry) reading all) sorted
