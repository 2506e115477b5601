-- An entry that is loaded by steps. Own.
use Rattle.std.specs.Prelude.{◌≡◌, ◌≤◌, ℕ, List, length}
use Rattle.bl_map.specs.MachineFacts.{MachineFacts}
use Rattle.bl_load.specs.declared.step.Step.{Step}
use Rattle.bl_load.specs.EntryValue.{EntryValue}
use Rattle.bl_load.specs.Handover.{Handover, overwrite_parts}
use Rattle.bl_load.specs.Parts.{IsHandover}
use Rattle.bl_load.specs.Steps.{carry_out}

-- carried out over memory with any bytes, these steps write what the entry hands over and nothing
-- else
pub record LoadsEntry (facts : MachineFacts) (value : EntryValue) (steps : List Step)
    (own : List ℕ) : Type 0 where
  pub handover : Handover
  pub handed : IsHandover facts value handover
  pub written :
      (memory : List ℕ) → facts.size ≤ length memory
      → carry_out steps own value.files memory ≡ overwrite_parts handover.parts memory
