-- What the steps of a handover need and leave: whole files, a plan, its parts in memory.
use Rattle.std.specs.Prelude.{◌≡◌, ◌<◌, ◌^◌, ℕ, List, length, map}
use Rattle.bl_map.specs.MachineFacts.{MachineFacts}
use Rattle.bl_mem.specs.FileSet.{AreAddressesBelow, AllApartFrom}
use Rattle.bl_mem.specs.Memory.{HasRoom, AllHaveRoom}
use Rattle.bl_plan.specs.Placed.{place_range}
use Rattle.bl_stage.specs.Staged.{Staging, AllCame, HasPool, IsStagedOn, staged_texts}
use Rattle.bl_load.specs.MemoryAfter.{IsMemoryAfter}
use Rattle.bl_load.specs.HandoffFacts.{HandoffFacts}
use Rattle.bl_load.specs.Loadable.{lengths_of, IsLoadable}
use Rattle.bl_load.specs.Parts.{IsHandover}
use Rattle.bl_load.specs.PlanContents.{handover_by, handover_in, places_of}
use Rattle.bl_load.specs.EntryValue.{value_of, file_count, IsWithinLimits}
use Rattle.bl_load.specs.declared.entry.Entry.{Entry}
use Rattle.bl_load.specs.declared.plan.Plan.{Plan}

-- what is loaded for an entry whose files hold these bytes
pub record IsPlanFor {A : Type 0} (facts : MachineFacts) (entry : Entry A) (texts : List (List ℕ))
    (plan : Plan A) : Type 0 where
  -- it loads what the definition hands over
  pub handover : IsHandover facts (value_of texts entry) (handover_by texts plan)
  -- it can be loaded into memory of the machine's size
  pub loadable : IsLoadable (lengths_of texts) facts.size plan

-- the files of a stage are whole, lie in memory of these bytes, and can be counted in 32 bits
pub record AreFilesWhole (bytes : List ℕ) (stage : Staging) : Type 0 where
  pub few : length stage.sizes < 2 ^ 32
  pub complete : AllCame stage
  pub inside : HasPool bytes stage.pool

-- a stage has a file for each of those of an entry, which is within its limits
pub record HasFilesOf {A : Type 0} (entry : Entry A) (stage : Staging) : Type 0 where
  pub files : length stage.sizes ≡ file_count entry
  pub limits : IsWithinLimits entry

-- a plan can be loaded out of the files of a stage, and the rest of the pool be cleared
pub record CanHandOver {A : Type 0} (facts : MachineFacts) (stage : Staging) (plan : Plan A)
    (bytes : List ℕ) (has_room : ℕ → Type 0) : Type 0 where
  -- the files lie in memory
  pub held : AreAddressesBelow (λ a. IsStagedOn stage a) (length bytes)
  -- they have what the plan loads, and memory its places
  pub loadable : IsLoadable (lengths_of (staged_texts bytes stage)) (length bytes) plan
  -- each place has room
  pub room : AllHaveRoom has_room (map place_range (places_of plan))
  -- no file lies in a place
  pub beside : AllApartFrom (λ a. IsStagedOn stage a) (map place_range (places_of plan))
  -- the pool lies in memory
  pub inside : HasPool bytes facts.pool
  -- it has room
  pub pool_room : HasRoom has_room facts.pool.start facts.pool.end

-- a plan was loaded out of the files of a stage, and the rest of the pool cleared
pub record HasLoadedPlan {A : Type 0} (facts : MachineFacts) (stage : Staging) (plan : Plan A)
    (handoff : HandoffFacts) (before after : List ℕ) : Type 0 where
  -- the places are those of the plan
  pub places : handoff.places ≡ places_of plan
  -- memory holds there what the plan hands over
  pub held :
      handover_in after handoff.protocol handoff.registers handoff.places
      ≡ handover_by (staged_texts before stage) plan
  -- each byte is what it is after a handover
  pub memory :
      IsMemoryAfter facts.pool (handover_by (staged_texts before stage) plan).parts before after
