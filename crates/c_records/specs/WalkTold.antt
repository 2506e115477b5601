-- What C is told of a walk. Own.
use Rattle.std.specs.Prelude.{◌≡◌, ◌≤◌, ℕ, List, ◌++◌, length, drop, Result, Ok, Err}
use Rattle.bl_image.specs.FaultNumbers.{image_fault_number}
use Rattle.bl_image.specs.declared.fault.ImageFault.{ImageFault}
use Rattle.bl_image.specs.declared.fault.ImageFault.TheVariants as image_faults
use Rattle.bl_walk.specs.Faults.{walk_fault_number}
use Rattle.bl_walk.specs.declared.fault.WalkFault.{WalkFault}
use Rattle.bl_walk.specs.declared.fault.WalkFault.TheVariants as walk_faults
use Rattle.c_records.specs.SeenTold.{WalkRecordsFacts}
use Rattle.c_records.specs.Status.{done_status, misuse_status}
use Rattle.c_records.specs.declared.misuse.Misuse.TheVariants.{SmallRoom}
use Rattle.c_records.specs.declared.given_records.RegionRecord.{RegionRecord}
use Rattle.c_records.specs.declared.end_records.RefusalRecord.{RefusalRecord}
use Rattle.c_records.specs.declared.seen_firmware_records.SeenFirmwareRecord.{SeenFirmwareRecord}
use Rattle.c_records.specs.declared.seen_records.SeenModuleRecord.{SeenModuleRecord}
use Rattle.c_records.specs.declared.seen_records.SeenPartRecord.{SeenPartRecord}
use Rattle.c_records.specs.declared.seen_records.SeenRecord.{SeenRecord}
use Rattle.c_records.specs.declared.seen_records.WalkStop.{WalkStop}
use Rattle.c_records.specs.declared.seen_records.WalkStop.TheVariants.{NoImage, NotWalked}

-- what stands in the records and the text
abbrev pub walk_telling : SeenRecord → List SeenPartRecord → List SeenModuleRecord
    → List RegionRecord → List ℕ → SeenFirmwareRecord → WalkRecordsFacts
walk_telling seen kernel modules runs text firmware = record {
  seen = seen;
  kernel = kernel;
  modules = modules;
  runs = runs;
  text = text;
  firmware = firmware;
}

-- ---- why nothing is seen

-- the part that an image's fault is found at
abbrev pub part_of_fault : ImageFault → ℕ
part_of_fault image_faults.BadMagic = 0
part_of_fault image_faults.BadVersion = 0
part_of_fault image_faults.BadHeader = 0
part_of_fault (image_faults.BadPart index) = index
part_of_fault image_faults.WrongLength = 0
part_of_fault image_faults.DeviceFault = 0
part_of_fault image_faults.NoMemory = 0

abbrev pub stop_told : WalkStop → RefusalRecord
stop_told (NoImage fault) = record {
  entry = 0;
  number = image_fault_number fault;
  first = part_of_fault fault;
  second = 0;
  reserved = 0;
}
stop_told (NotWalked fault) =
    record { entry = 0; number = walk_fault_number fault; first = 0; second = 0; reserved = 0 }

abbrev pub image_status : ImageFault → ℕ
image_status image_faults.BadMagic = 1
image_status image_faults.BadVersion = 1
image_status image_faults.BadHeader = 1
image_status (image_faults.BadPart index) = 1
image_status image_faults.WrongLength = 1
image_status image_faults.DeviceFault = 1
image_status image_faults.NoMemory = 4

abbrev pub walk_status : WalkFault → ℕ
walk_status walk_faults.OutsideImage = 1
walk_status walk_faults.BadInfo = 1
walk_status walk_faults.BadState = 1
walk_status walk_faults.NoMemory = 4

abbrev pub stop_status : WalkStop → ℕ
stop_status (NoImage fault) = image_status fault
stop_status (NotWalked fault) = walk_status fault

-- ---- the summary alone

-- the status, and the summary or the fault; the other record is as it was
abbrev pub TellsWalk : Result WalkRecordsFacts WalkStop → ℕ → (seen_old seen : SeenRecord)
    → (fault_old fault : RefusalRecord) → Type 0
TellsWalk (Ok told) status seen_old seen fault_old fault =
    (status ≡ done_status) × (seen ≡ told.seen) × (fault ≡ fault_old)
TellsWalk (Err stop) status seen_old seen fault_old fault =
    (status ≡ stop_status stop) × (seen ≡ seen_old) × (fault ≡ stop_told stop)

-- ---- all

-- each array has room for the elements that are told
pub record FitsInto (told : WalkRecordsFacts) (kernel : List SeenPartRecord)
    (modules : List SeenModuleRecord) (runs : List RegionRecord) (text : List ℕ) : Type 0 where
  pub kernel_fits : length told.kernel ≤ length kernel
  pub modules_fit : length told.modules ≤ length modules
  pub runs_fit : length told.runs ≤ length runs
  pub text_fits : length told.text ≤ length text

-- an array whose first elements are told, the others as they were
abbrev pub told_over : {X : Type 0} → List X → List X → List X
told_over told old = told ++ drop (length told) old

abbrev pub all_told : WalkRecordsFacts → WalkRecordsFacts → WalkRecordsFacts
all_told told old = record {
  seen = told.seen;
  kernel = told_over told.kernel old.kernel;
  modules = told_over told.modules old.modules;
  runs = told_over told.runs old.runs;
  text = told_over told.text old.text;
  firmware = told.firmware;
}

-- all is told if there is room for it, and else the summary, which has the numbers of elements
pub data TellsSeen (told : WalkRecordsFacts) (status : ℕ) (old new : WalkRecordsFacts) :
    Type 0 where
  tells_all : FitsInto told old.kernel old.modules old.runs old.text → status ≡ done_status
      → new ≡ all_told told old → TellsSeen told status old new
  tells_summary : ¬ FitsInto told old.kernel old.modules old.runs old.text
      → status ≡ misuse_status SmallRoom → new ≡ record old { seen = told.seen }
      → TellsSeen told status old new

-- the status, and what is seen or the fault; the other is as it was
abbrev pub TellsWalkAll : Result WalkRecordsFacts WalkStop → ℕ → (old new : WalkRecordsFacts)
    → (fault_old fault : RefusalRecord) → Type 0
TellsWalkAll (Ok told) status old new fault_old fault =
    TellsSeen told status old new × (fault ≡ fault_old)
TellsWalkAll (Err stop) status old new fault_old fault =
    (status ≡ stop_status stop) × (new ≡ old) × (fault ≡ stop_told stop)
