-- What an attempt ends in, by its plan and the room beside it.
use Rattle.std.proofs.Common.{◌≡◌, ℕ, List, map, refl, inl, inr, All}
use Rattle.std.proofs.Common.{Result, Ok, Err, IfOk}
use Rattle.bl_map.specs.MachineFacts.{MachineFacts}
use Rattle.bl_map.specs.PoolFrames.{HasFramesFor}
use Rattle.bl_plan.specs.Placed.{place_range}
use Rattle.bl_load.specs.declared.entry.Entry.{Entry}
use Rattle.bl_load.specs.declared.entry.Entry.TheVariants.{Multiboot2, Linux}
use Rattle.bl_load.specs.declared.plan.Plan.{Plan}
use Rattle.bl_load.specs.declared.refusal.PrepFault.{PrepFault}
use Rattle.bl_load.specs.declared.refusal.PrepFault.TheVariants.{Refused, NoMemory}
use Rattle.bl_load.specs.declared.refusal.Refusal.TheVariants.{NoPool}
use Rattle.bl_load.specs.Loadable.{lengths_of, IsBacked, IsLoadable}
use Rattle.bl_load.specs.Parts.{IsHandover, IsPrepFault}
use Rattle.bl_load.specs.PlanContents.{handover_by, places_of}
use Rattle.bl_load.specs.EntryValue.{EntryValue, value_of}
use Rattle.bl_session.specs.attempt.AttemptResult.{HasWholeFilesResult, HasFramesBeside, refused}
use Rattle.bl_stage.specs.Staged.{Staging}
use Rattle.bl_session.specs.attempt.FinishedAttempt.{IsNotHandedOver, IsStageAfterFault}
use Rattle.bl_session.specs.internal.attempt.HandoverSteps.{IsPlanFor}
use Rattle.bl_session.proofs.attempt_lemmas.AfterLemmas.{ranges_are}

-- what preparing ensures of a plan
pub plan_for : {A : Type 0} (facts : MachineFacts) (entry : Entry A) (texts : List (List ℕ))
    (result : Result (Plan A) PrepFault)
    → IfOk result (λ plan. IsHandover facts (value_of texts entry) (handover_by texts plan))
    → IfOk result (λ plan. IsLoadable (lengths_of texts) facts.size plan)
    → IfOk result (IsPlanFor facts entry texts)
plan_for facts entry texts (Ok plan) handover loadable = record {
  handover = handover;
  loadable = loadable;
}
plan_for facts entry texts (Err fault) handover loadable = tt

-- a fault of preparing changed nothing
pub unprepared : (facts : MachineFacts) (value : EntryValue) (fault : PrepFault) (old : List ℕ)
    → IsPrepFault facts value fault → IsNotHandedOver facts value fault old old
unprepared facts value (Refused refusal) old is = (inl is, refl)
unprepared facts value NoMemory old is = λ a out. refl

pub left_same : (fault : PrepFault) (stage : Staging) (bytes : List ℕ)
    → IsStageAfterFault fault stage stage bytes bytes
left_same (Refused refusal) stage bytes = refl
left_same NoMemory stage bytes = refl

files_are : {A : Type 0} (texts : List (List ℕ)) (entry : Entry A)
    → (value_of texts entry).files ≡ texts
files_are texts (Multiboot2 kernel line modules rsdp_old rsdp_new) = refl
files_are texts (Linux kernel line initrd wide) = refl

module _ {A : Type 0} (facts : MachineFacts) (texts : List (List ℕ)) (entry : Entry A)
    (plan : Plan A) (is : IsHandover facts (value_of texts entry) (handover_by texts plan))
    (backed : All (IsBacked (lengths_of texts)) plan.parts.items) where
  pub has_room : HasFramesFor facts.pool (map place_range (places_of plan)) texts
      → HasFramesBeside facts (value_of texts entry) (handover_by texts plan)
  has_room room = rw (files_are texts entry, ranges_are texts plan.parts.items backed) room

  pub lacks_room : ¬ HasFramesFor facts.pool (map place_range (places_of plan)) texts
      → HasWholeFilesResult facts (value_of texts entry) (refused NoPool)
  lacks_room full =
      inr (
        record {
          handover = handover_by texts plan;
          is = is;
          lacking =
              λ room.
              full
              (rw (files_are texts entry, ranges_are texts plan.parts.items backed) at
              room);
        },
        refl,
      )
