-- Memory once the steps of a plan are carried out, and which steps can be. Own.
use Rattle.std.specs.Prelude.{ℕ, ◌+◌, ◌<◌, ◌≤◌, List, [], ◌∷◌, length, replicate}
use Rattle.std.specs.Prelude.{slice_index, slice_range}
use Rattle.bl_mem.specs.FileSet.{nth_file}
use Rattle.bl_mem.specs.Memory.{overwrite}
use Rattle.bl_load.specs.declared.plan.Plan.{Plan}
use Rattle.bl_load.specs.declared.step.Step.{Step}
use Rattle.bl_load.specs.declared.step.StepSource.{StepSource}
use Rattle.bl_load.specs.declared.step.StepSource.TheVariants.{File, Own, Zeros}
use Rattle.bl_load.specs.Loadable.{IsLoadable}

-- so many bytes of a source, where the plan holds these bytes itself and the files hold these texts
abbrev pub source_bytes : List ℕ → List (List ℕ) → StepSource → ℕ → List ℕ
source_bytes own texts (File file offset) count =
    slice_range (nth_file texts file) offset (offset + count)
source_bytes own texts (Own offset) count = slice_range own offset (offset + count)
source_bytes own texts Zeros count = replicate count 0

-- memory once these steps are carried out, one after the other
abbrev pub carry_out : List Step → List ℕ → List (List ℕ) → List ℕ → List ℕ
carry_out [] own texts memory = memory
carry_out (step ∷ steps) own texts memory =
    carry_out steps own texts
    (overwrite memory step.address (source_bytes own texts step.source step.length))

-- the source has so many bytes, where files have these lengths and the plan so many bytes itself
abbrev pub IsThere : List ℕ → ℕ → StepSource → ℕ → Type 0
IsThere lengths own (File file offset) count =
    (file < length lengths) × (offset + count ≤ slice_index lengths file)
IsThere lengths own (Own offset) count = offset + count ≤ own
IsThere lengths own Zeros count = Unit {0}

-- a step that can be carried out: it is not empty, its source has its bytes, and it lies in memory
-- of this size
pub record IsStep (lengths : List ℕ) (own size : ℕ) (step : Step) : Type 0 where
  pub filled : 1 ≤ step.length
  pub there : IsThere lengths own step.source step.length
  pub inside : step.address + step.length ≤ size

-- the second step lies after the first
abbrev pub StepsAscend : Step → Step → Type 0
StepsAscend s t = s.address + s.length ≤ t.address

-- there are lengths of files and a size of memory with which the plan can be loaded
abbrev pub CanBeLoaded : {A : Type 0} → Plan A → Type 0
CanBeLoaded plan = (lengths : List ℕ) × (size : ℕ) × IsLoadable lengths size plan
