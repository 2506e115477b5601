-- What a plan's steps read is there; and what can be loaded can be told as steps.
use Rattle.std.proofs.Common.{◌≡◌, ℕ, ◌+◌, ◌-◌, ◌<◌, ◌≤◌, List, [], ◌∷◌, ◌++◌, length}
use Rattle.std.proofs.Common.{zero, suc, ◌^◌, arith, All, AllPairs, slice_index, length-append}
use Rattle.std.proofs.lemmas.List.Elements.{All-nil, All-cons, All-append}
use Rattle.std.specs.List.{sum_by}
use Rattle.bl_mem.specs.declared.segment.Segment.{Segment}
use Rattle.bl_plan.specs.declared.part.Place.{Place}
use Rattle.bl_load.specs.declared.plan.Content.{Content}
use Rattle.bl_load.specs.declared.plan.Content.TheVariants.{Own, File, Block}
use Rattle.bl_load.specs.declared.plan.PlannedPart.{PlannedPart}
use Rattle.bl_load.specs.declared.plan.Plan.{Plan}
use Rattle.bl_load.specs.declared.step.Step.{Step}
use Rattle.bl_load.specs.declared.step.StepSource.{StepSource}
use Rattle.bl_load.specs.declared.step.StepSource.TheVariants as source
use Rattle.bl_load.specs.HandoffFacts.{Ascends}
use Rattle.bl_load.specs.Loadable.{IsCopyable, IsInFiles, IsBacked, IsLoadable}
use Rattle.bl_load.specs.Loadable.{content_length}
use Rattle.bl_load.specs.PlannedPlaces.{planned_place}
use Rattle.bl_load.specs.PlanSteps.{one_step, segment_steps, steps_in_block, own_of}
use Rattle.bl_load.specs.PlanSteps.{content_steps, part_steps, steps_from, own_bytes}
use Rattle.bl_load.specs.Steps.{IsThere, IsStep, StepsAscend}
use Rattle.bl_load.specs.internal.Stepping.{HasSegmentsInOrder, CanBeTold}
use Rattle.bl_load.proofs.HeldLemmas.{all_under, pairs_under}
use Rattle.bl_load.proofs.StepOrderLemmas.{Climb, climb_parts, climb_within, climb_ascends}
use Rattle.bl_load.proofs.StepOrderLemmas.{sum_parts}

-- the bytes of a step are there
abbrev ReadsThere : List ℕ → ℕ → Step → Type 0
ReadsThere lengths own step = IsThere lengths own step.source step.length

-- in files of these lengths, with so many bytes of the plan's own
module _ (lengths : List ℕ) (own : ℕ) where
  there_one : (at n : ℕ) (from : StepSource) → (1 ≤ n → IsThere lengths own from n)
      → All (ReadsThere lengths own) (one_step at n from)
  there_one at zero from is = All-nil (ReadsThere lengths own)
  there_one at (suc n) from is =
      let step : Step = record { address = at; length = suc n; source = from } in
      All-cons (ReadsThere lengths own) step [] (is (omega arith))
      (All-nil (ReadsThere lengths own))

  there_segment : (at file : ℕ) (s : Segment) → file < length lengths
      → IsCopyable (slice_index lengths file) s
      → All (ReadsThere lengths own) (segment_steps at file s)
  there_segment at file s some copied =
      All-append (ReadsThere lengths own) (one_step at s.filesz (source.File file s.offset))
      (one_step (at + s.filesz) (s.memsz - s.filesz) source.Zeros)
      (there_one at s.filesz (source.File file s.offset) (λ any. (some, copied.inside any)))
      (there_one (at + s.filesz) (s.memsz - s.filesz) source.Zeros (λ any. tt))

  there_block : (at file low done : ℕ) (segments : List Segment) → file < length lengths
      → All (IsCopyable (slice_index lengths file)) segments
      → All (ReadsThere lengths own) (steps_in_block at file low done segments)
  there_block at file low done [] some copied = All-nil (ReadsThere lengths own)
  there_block at file low done (s ∷ segments) some copied =
      let start : ℕ = s.address - low in
      let gap : ℕ = s.address - low - done in
      let zeros : List Step = one_step (at + done) gap source.Zeros in
      let this : List Step = segment_steps (at + start) file s in
      All-append (ReadsThere lengths own) (zeros ++ this)
      (steps_in_block at file low (start + s.memsz) segments)
      (All-append (ReadsThere lengths own) zeros this
      (there_one (at + done) gap source.Zeros (λ any. tt))
      (there_segment (at + start) file s some (copied 0 s (omega arith))))
      (there_block at file low (start + s.memsz) segments some
      (λ k d h. copied (suc k) d (omega arith)))

  there_content : {A : Type 0} (before at : ℕ) (content : Content A) → IsInFiles lengths content
      → before + length (own_of content) ≤ own
      → All (ReadsThere lengths own) (content_steps before at content)
  there_content before at (Own bytes) is fits =
      there_one at (length bytes) (source.Own before) (λ any. fits)
  there_content before at (File file offset count) is fits =
      there_one at count (source.File file offset) (λ any. (is.0, is.1 any))
  there_content before at (Block file segments) is fits =
      there_block at file _ 0 segments.items is.0 is.2

  pub there_parts : {A : Type 0} (before : ℕ) (parts : List (PlannedPart A))
      → All (IsBacked lengths) parts → before + length (own_bytes parts) ≤ own
      → All (ReadsThere lengths own) (steps_from before parts)
  there_parts before [] backed fits = All-nil (ReadsThere lengths own)
  there_parts before (part ∷ parts) backed fits =
      let at : ℕ = part.place.address in
      let count : ℕ = content_length part.content in
      let mine : List ℕ = own_of part.content in
      let this = backed 0 part (omega arith) in
      let both : length (mine ++ own_bytes parts) ≡ length mine + length (own_bytes parts) =
      length-append mine (own_bytes parts) in
      let tail : List Step = one_step (at + count) (part.place.length - count) source.Zeros in
      All-append (ReadsThere lengths own) (part_steps before part)
      (steps_from (before + length mine) parts)
      (All-append (ReadsThere lengths own) (content_steps before at part.content) tail
      (there_content before at part.content this.there (omega arith))
      (there_one (at + count) (part.place.length - count) source.Zeros (λ any. tt)))
      (there_parts (before + length mine) parts (λ k d h. backed (suc k) d (omega arith))
      (omega arith))

ordered_in : {A : Type 0} (lengths : List ℕ) (content : Content A) → IsInFiles lengths content
    → HasSegmentsInOrder content
ordered_in lengths (Own bytes) is = tt
ordered_in lengths (File file offset count) is = tt
ordered_in lengths (Block file segments) is = record {
  some = is.1;
  fits = λ k d h. (is.2 k d h).fits;
  ascending = is.3;
}

module _ {A : Type 0} (lengths : List ℕ) (size : ℕ) (plan : Plan A)
    (loadable : IsLoadable lengths size plan) where
  -- what can be loaded can be told
  pub can_be_told : All CanBeTold plan.parts.items
  can_be_told k d h =
      let backed = loadable.backed k d h in
      record {
        ordered = ordered_in lengths _ backed.there;
        short = backed.short;
        low =
            all_under (λ (place : Place). place.address + place.length ≤ 2 ^ 32) planned_place
            plan.parts.items loadable.kept.below k d h;
      }

  climbs : Climb 0 (steps_from 0 plan.parts.items) size
  climbs =
      climb_parts 0 0 size plan.parts.items can_be_told
      (pairs_under Ascends planned_place plan.parts.items loadable.kept.ascending)
      (λ k d h. omega arith)
      (all_under (λ (place : Place). place.address + place.length ≤ size) planned_place
      plan.parts.items loadable.inside) (omega arith)

  pub plan_ascends : AllPairs StepsAscend (steps_from 0 plan.parts.items)
  plan_ascends = climb_ascends 0 size (steps_from 0 plan.parts.items) climbs

  pub plan_sound : All (IsStep lengths (length (own_bytes plan.parts.items)) size)
      (steps_from 0 plan.parts.items)
  plan_sound k d h =
      let lies = climb_within 0 size (steps_from 0 plan.parts.items) climbs k d h in
      let own : ℕ = length (own_bytes plan.parts.items) in
      record {
        filled = lies.1;
        there = there_parts lengths own 0 plan.parts.items loadable.backed (omega arith) k d h;
        inside = lies.2;
      }

  pub plan_whole : sum_by (λ step. step.length) (steps_from 0 plan.parts.items)
      ≡ sum_by (λ part. part.place.length) plan.parts.items
  plan_whole = sum_parts 0 plan.parts.items can_be_told
