-- Each attempt has exactly one end.
use Rattle.std.proofs.Common.{◌≡◌, ℕ, List, Option, Some, None, ◌⊎◌, inl, inr, sym, ap, subst, ◌∙◌}
use Rattle.std.proofs.Common.{refl, option_map, arith, map, length}
use Rattle.std.proofs.lemmas.Bool.{cases_lt}
use Rattle.bl_map.specs.MachineFacts.{MachineFacts}
use Rattle.bl_map.specs.PoolFrames.{frames_for, open_frames}
use Rattle.bl_load.specs.declared.refusal.Refusal.{Refusal}
use Rattle.bl_load.specs.declared.refusal.Refusal.TheVariants.{FileFault, NoPool}
use Rattle.bl_load.specs.EntryValue.{EntryValue}
use Rattle.bl_load.specs.Handover.{Handover}
use Rattle.bl_load.proofs.HandoverLaws.{one_handover, one_refusal, not_both}
use Rattle.bl_load.proofs.TotalLaws.{handover_or_refusal}
use Rattle.bl_session.specs.attempt.AttemptResult.{AttemptResult, handed, refused, HasFramesBeside}
use Rattle.bl_session.specs.attempt.AttemptResult.{LacksFrames}
use Rattle.bl_session.specs.attempt.AttemptResult.{HasWholeFilesResult, part_range, UnlessRefused}
use Rattle.bl_session.specs.attempt.AttemptResult.{AttemptHasResult}
use Rattle.bl_session.specs.attempt.AttemptResult.{size_refusal}

-- an entry whose parts leave no room is not handed over
no_room : (facts : MachineFacts) (value : EntryValue) (handover : Handover)
    → LacksFrames facts value
    → HasWholeFilesResult facts value (handed handover) → ⊥
no_room facts value handover lacks (is, room) =
    lacks.lacking
    (subst (λ (h : Handover). HasFramesBeside facts value h)
    (one_handover facts value handover lacks.handover is lacks.is) room)

never_both : (facts : MachineFacts) (value : EntryValue) (handover : Handover) (refusal : Refusal)
    → HasWholeFilesResult facts value (handed handover) → HasWholeFilesResult facts value (refused refusal) → ⊥
never_both facts value handover refusal (is, room) (inl other) =
    not_both facts value handover refusal is other
never_both facts value handover refusal is (inr (lacks, no_pool)) =
    no_room facts value handover lacks is

one_refused : (facts : MachineFacts) (value : EntryValue) (r s : Refusal)
    → HasWholeFilesResult facts value (refused r) → HasWholeFilesResult facts value (refused s) → r ≡ s
one_refused facts value r s (inl a) (inl b) = one_refusal facts value r s a b
one_refused facts value r s (inl a) (inr (lacks, no_pool)) =
    absurd (not_both facts value lacks.handover r lacks.is a)
one_refused facts value r s (inr (lacks, no_pool)) (inl b) =
    absurd (not_both facts value lacks.handover s lacks.is b)
one_refused facts value r s (inr (lacks, a)) (inr (lacking, b)) = a ∙ sym b

pub one_end_in : (facts : MachineFacts) (value : EntryValue) (e f : AttemptResult)
    → HasWholeFilesResult facts value e → HasWholeFilesResult facts value f → e ≡ f
one_end_in facts value (handed h) (handed k) a b = ap handed (one_handover facts value h k a.0 b.0)
one_end_in facts value (handed h) (refused s) a b = absurd (never_both facts value h s a b)
one_end_in facts value (refused r) (handed k) a b = absurd (never_both facts value k r b a)
one_end_in facts value (refused r) (refused s) a b = ap refused (one_refused facts value r s a b)

pub some_end_in : (facts : MachineFacts) (value : EntryValue)
    → (end : AttemptResult) × HasWholeFilesResult facts value end
some_end_in facts value =
    elim (handover_or_refusal facts value) [
      | inl (handover, is) ↦ elim (room_or_none facts value handover) [
        | inl room ↦ (handed handover, (is, room))
        | inr lacking ↦
            (refused NoPool, inr (record { handover = handover; is = is; lacking = lacking }, refl))
      ]
      | inr (refusal, is) ↦ (refused refusal, inl is)
    ]
  where
    room_or_none : (facts : MachineFacts) (value : EntryValue) (handover : Handover)
        → HasFramesBeside facts value handover ⊎ (¬ HasFramesBeside facts value handover)
    room_or_none facts value handover =
        elim (cases_lt (open_frames facts.pool (map part_range handover.parts))
        (frames_for (map length value.files))) [
          | inl less ↦ inr (λ room. omega (arith, room, less))
          | inr room ↦ inl room
        ]

-- a check before one end
one_behind : (first : Option Refusal) (rest : AttemptResult → Type 0)
    → ((e f : AttemptResult) → rest e → rest f → e ≡ f) → (e f : AttemptResult)
    → UnlessRefused first rest e → UnlessRefused first rest f
    → e ≡ f
one_behind None rest one e f a b = one e f a b
one_behind (Some refusal) rest one e f a b = a ∙ sym b

some_behind : (first : Option Refusal) (rest : AttemptResult → Type 0)
    → (end : AttemptResult) × rest end
    → (end : AttemptResult) × UnlessRefused first rest end
some_behind None rest some = some
some_behind (Some refusal) rest some = (refused refusal, refl)

pub one_end : (facts : MachineFacts) (sizes : List (Option ℕ)) (fault : Option ℕ)
    (value : EntryValue) (e f : AttemptResult) → AttemptHasResult facts sizes fault value e
    → AttemptHasResult facts sizes fault value f → e ≡ f
one_end facts sizes fault value =
    one_behind (size_refusal facts sizes)
    (UnlessRefused (option_map FileFault fault) (HasWholeFilesResult facts value))
    (one_behind (option_map FileFault fault) (HasWholeFilesResult facts value) (one_end_in facts value))

pub some_end : (facts : MachineFacts) (sizes : List (Option ℕ)) (fault : Option ℕ)
    (value : EntryValue) → (end : AttemptResult) × AttemptHasResult facts sizes fault value end
some_end facts sizes fault value =
    some_behind (size_refusal facts sizes)
    (UnlessRefused (option_map FileFault fault) (HasWholeFilesResult facts value))
    (some_behind (option_map FileFault fault) (HasWholeFilesResult facts value) (some_end_in facts value))
