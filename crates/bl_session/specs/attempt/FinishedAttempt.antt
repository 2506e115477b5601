-- What memory holds once an attempt whose files are whole has ended. Own.
use Rattle.std.specs.Prelude.{◌≡◌, ◌+◌, ◌≤◌, ℕ, List, length, All}
use Rattle.bl_map.specs.MachineFacts.{MachineFacts}
use Rattle.bl_stage.specs.Ranges.{IsSameOutside}
use Rattle.bl_stage.specs.Staged.{Staging, staged_texts}
use Rattle.bl_load.specs.MemoryAfter.{IsMemoryAfter}
use Rattle.bl_load.specs.HandoffFacts.{HandoffFacts}
use Rattle.bl_load.specs.Handover.{Handover}
use Rattle.bl_load.specs.PlanContents.{handover_in}
use Rattle.bl_load.specs.EntryValue.{EntryValue}
use Rattle.bl_load.specs.declared.refusal.PrepFault.{PrepFault}
use Rattle.bl_load.specs.declared.refusal.PrepFault.TheVariants.{Refused, NoMemory}
use Rattle.bl_session.specs.attempt.AttemptResult.{HasWholeFilesResult, handed, refused}

-- the entry is handed over: memory holds it at the handoff's places, and each of its bytes is what
-- it is after a handover
pub record IsHandedOver (facts : MachineFacts) (value : EntryValue) (handoff : HandoffFacts)
    (old new : List ℕ) : Type 0 where
  pub handover : Handover
  pub ends : HasWholeFilesResult facts value (handed handover)
  pub held : handover_in new handoff.protocol handoff.registers handoff.places ≡ handover
  pub inside : All (λ place. place.address + place.length ≤ length new) handoff.places
  pub after : IsMemoryAfter facts.pool handover.parts old new

-- the entry is not handed over: it is refused, and no byte changed; or memory ran out, and none
-- outside the pool changed
abbrev pub IsNotHandedOver : MachineFacts → EntryValue → PrepFault → (old new : List ℕ)
    → Type 0
IsNotHandedOver facts value (Refused refusal) old new =
    HasWholeFilesResult facts value (refused refusal) × (new ≡ old)
IsNotHandedOver facts value NoMemory old new = IsSameOutside facts.pool old new

-- what is left of the entry's staged files then, where memory had and has these bytes: after a
-- refusal the stage is as before; after want of memory each file reads as before
abbrev pub IsStageAfterFault : PrepFault → (old new : Staging) → (before after : List ℕ) → Type 0
IsStageAfterFault (Refused refusal) old new before after = new ≡ old
IsStageAfterFault NoMemory old new before after = staged_texts after new ≡ staged_texts before old
