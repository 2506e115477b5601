-- A digest under way, from its beginning to its end.
use Rattle.std.proofs.Common.{◌≡◌, ℕ, ◌+◌, ◌-◌, ◌<◌, ◌≤◌, ◌%◌, ◌^◌, List, [], ◌∷◌, ◌++◌, length}
use Rattle.std.proofs.Common.{drop, map, All, arith, refl, sym, ap, ◌∙◌, subst}
use Rattle.std.proofs.Common.{append_assoc, length-append, add_assoc, add-zero}
use Rattle.std.proofs.Common.{Option, Some, None, inl, inr}
use Rattle.std.proofs.lemmas.List.{append-nil, drop_all}
use Rattle.std.proofs.lemmas.List.Sums.{sum_by-cons}
use Rattle.std.proofs.lemmas.Bool.{cases_lt}
use Rattle.std.specs.List.{sum_by}
use Rattle.std.proofs.Math.Nat.{mod-eq_of_lt}
use Rattle.bl_plan.specs.declared.part.Place.{Place}
use Rattle.bl_plan.specs.declared.protocol.Protocol.{Protocol}
use Rattle.bl_load.specs.declared.plan.Plan.{Plan}
use Rattle.bl_load.specs.declared.plan.PlannedPart.{PlannedPart}
use Rattle.bl_load.specs.declared.registers.Registers.{Registers}
use Rattle.bl_load.specs.declared.step.Step.{Step}
use Rattle.bl_load.specs.declared.step.StepSource.{StepSource}
use Rattle.bl_load.specs.declared.step.StepSource.TheVariants.{File, Own, Zeros}
use Rattle.bl_load.specs.Handover.{Handover}
use Rattle.bl_load.specs.PlanContents.{places_of}
use Rattle.bl_load.specs.PlannedPlaces.{planned_place}
use Rattle.bl_load.specs.PlanSteps.{steps_from, own_bytes}
use Rattle.bl_load.specs.Steps.{IsThere, IsStep}
use Rattle.bl_image.specs.ImageHandover.{part_place}
use Rattle.bl_digest.specs.declared.file_range.FileRange.{FileRange}
use Rattle.bl_digest.specs.Digests.{digests_of}
use Rattle.bl_digest.specs.PlanInSteps.{PlanInSteps, plan_in_steps, bytes_of_steps}
use Rattle.bl_digest.specs.PlanInSteps.{handover_in_steps, handover_fed, parts_along}
use Rattle.bl_digest.specs.Ranges.{ranges_of, bytes_of_ranges, range_behind, wanted_after}
use Rattle.bl_digest.specs.Ranges.{IsWithinWanted}
use Rattle.bl_digest.specs.internal.Coming.{length_of_ranges}
use Rattle.bl_digest.specs.PlanInSteps.{filled}
use Rattle.bl_digest.specs.internal.Filling.{filled_behind, length_of_steps, IsFrontOf}
use Rattle.bl_digest.specs.internal.Filling.{TakesUpTo, IsFed, IsUnderWay, TakesWhatIsThere, HasOwn}
use Rattle.bl_digest.specs.internal.Filling.{plan_kept}
use Rattle.bl_digest.specs.internal.Hashing.{total_of, digests_along}
use Rattle.bl_digest.proofs.FillingLemmas.{wanted_here, wanted_more, wanted_empty, filled_more}
use Rattle.bl_digest.proofs.RangeLemmas.{none_wanted, filled_by_files}
use Rattle.bl_digest.proofs.TableLemmas.{digests_are, along_places, along_bytes}

-- nothing came of a range yet
range_begun : (range : FileRange) → range.offset < 2 ^ 64 → range_behind range 0 ≡ range
range_begun range small =
    let offset : (range.offset + 0) % 2 ^ 64 ≡ range.offset =
    ap (λ (n : ℕ). n % 2 ^ 64) (add-zero range.offset) ∙ mod-eq_of_lt small in
    let length_is : range.length - 0 ≡ range.length = omega arith in
    ap (λ (n : ℕ). record { file = range.file; offset = n; length = range.length - 0 }) offset
    ∙ ap (λ (n : ℕ). record { file = range.file; offset = range.offset; length = n }) length_is

-- before the first byte comes
pub fed_first : (plan : PlanInSteps) (front old taken : List ℕ) (range : FileRange) (next : ℕ)
    → IsFrontOf plan front → old ≡ []
    → TakesUpTo plan.own plan.steps old taken range (drop next plan.steps)
    → length_of_steps plan.steps ≡ total_of plan.places
    → All (TakesWhatIsThere (length plan.own)) plan.steps
    → IsFed plan [] front taken range next
fed_first plan front old taken range next fronted none on all held = record {
  fronted = fronted;
  filling = λ more.
      ap (λ (l : List ℕ). l ++ filled plan.own plan.steps more) (sym none) ∙ on.filling more;
  wanting = λ count.
      ap (wanted_after (ranges_of plan.steps)) (omega arith) ∙ on.wanting count;
  count = let size = ap length none in omega (arith, on.count, size);
  held = held;
}

module _ (plan : PlanInSteps) (fed front taken : List ℕ) (range : FileRange) (next : ℕ)
    (is : IsFed plan fed front taken range next) where
  -- what is taken next has its room
  pub has_room : (n : ℕ) → n ≤ range.length → length taken + n ≤ total_of plan.places
  has_room n within = omega (arith, is.count)

  -- bytes of the range came
  pub fed_more : (bytes : List ℕ) → length bytes ≤ range.length
      → IsFed plan (fed ++ bytes) front (taken ++ bytes) (range_behind range (length bytes)) next
  fed_more bytes within =
      let rest : List Step = drop next plan.steps in
      record {
        fronted = is.fronted;
        filling = λ more.
            ap (filled plan.own plan.steps) (append_assoc fed bytes more)
            ∙ is.filling (bytes ++ more)
            ∙ ap (λ (l : List ℕ). taken ++ l)
            (filled_more plan.own range.length rest bytes more within)
            ∙ sym
            (append_assoc taken bytes
            (filled_behind plan.own (range.length - length bytes) rest more));
        wanting = λ count.
            ap (λ (n : ℕ). wanted_after (ranges_of plan.steps) (n + count))
            (length-append fed bytes)
            ∙ ap (wanted_after (ranges_of plan.steps)) (add_assoc (length fed) (length bytes) count)
            ∙ is.wanting (length bytes + count)
            ∙ wanted_more range (ranges_of rest) (length bytes) count within;
        count = omega (arith, is.count, length-append taken bytes);
        held = is.held;
      }

  -- the range came whole, and steps that read no file follow
  pub fed_on : (taken' : List ℕ) (range' : FileRange) (next' : ℕ) → range.length ≡ 0
      → TakesUpTo plan.own (drop next plan.steps) taken taken' range' (drop next' plan.steps)
      → IsFed plan fed front taken' range' next'
  fed_on taken' range' next' whole on =
      let rest : List Step = drop next plan.steps in
      record {
        fronted = is.fronted;
        filling = λ more.
            is.filling more
            ∙ ap (λ (n : ℕ). taken ++ filled_behind plan.own n rest more) whole
            ∙ on.filling more;
        wanting = λ count.
            is.wanting count ∙ wanted_empty range (ranges_of rest) count whole ∙ on.wanting count;
        count = omega (arith, is.count, on.count);
        held = is.held;
      }

  wanted_now : wanted_after (ranges_of plan.steps) (length fed)
      ≡ wanted_after (range ∷ ranges_of (drop next plan.steps)) 0
  wanted_now =
      ap (wanted_after (ranges_of plan.steps)) (sym (add-zero (length fed))) ∙ is.wanting 0

module _ (plan : PlanInSteps) (fed front taken : List ℕ) (range : FileRange) (next : ℕ)
    (is : IsUnderWay plan fed front taken range next) where
  none_left : range.length ≡ 0 → drop next plan.steps ≡ []
  none_left none = drop_all next plan.steps (is.last none)

  pub wants_none : range.length ≡ 0 → wanted_after (ranges_of plan.steps) (length fed) ≡ None
  wants_none none =
      wanted_now plan fed front taken range next is.is_fed
      ∙ wanted_empty range (ranges_of (drop next plan.steps)) 0 none
      ∙ ap (λ (l : List Step). wanted_after (ranges_of l) 0) (none_left none)

  pub wants_some : 0 < range.length → wanted_after (ranges_of plan.steps) (length fed) ≡ Some range
  wants_some some =
      wanted_now plan fed front taken range next is.is_fed
      ∙ wanted_here range (ranges_of (drop next plan.steps)) 0 some
      ∙ ap Some (range_begun range is.small)

  -- no more bytes are fed than are left of the range
  pub is_within : (n : ℕ)
      → IsWithinWanted (wanted_after (ranges_of plan.steps) (length fed)) n → n ≤ range.length
  is_within n within =
      elim (cases_lt 0 range.length) [
        | inl some ↦
            subst (λ (o : Option FileRange). IsWithinWanted o n) (wants_some some) within
        | inr empty ↦
            let none : n ≡ 0 =
            subst (λ (o : Option FileRange). IsWithinWanted o n) (wants_none (omega arith)) within
            in omega arith
      ]

  module _ (ended : wanted_after (ranges_of plan.steps) (length fed) ≡ None) where
    empty : range.length ≡ 0
    empty =
        elim (cases_lt 0 range.length) [
          | inl some ↦ let here = wants_some some in cc
          | inr none ↦ omega arith
        ]

    all_filled : filled plan.own plan.steps fed ≡ taken
    all_filled =
        let rest : List Step = drop next plan.steps in
        ap (filled plan.own plan.steps) (sym (append-nil fed))
        ∙ is.is_fed.filling []
        ∙ ap (λ (n : ℕ). taken ++ filled_behind plan.own n rest []) empty
        ∙ ap (λ (l : List Step). taken ++ filled_behind plan.own 0 l []) (none_left empty)
        ∙ append-nil taken

    -- once nothing is wanted all was taken
    pub all_taken : length taken ≡ total_of plan.places
    all_taken =
        let none : length_of_steps (drop next plan.steps) ≡ 0 =
        ap length_of_steps (none_left empty) in
        omega (arith, is.is_fed.count, empty, none)

    -- where the bytes of the parts are these, it is digested as the parts of these bytes
    digests_of_bytes : (bytes : List ℕ) → taken ≡ bytes
        → digests_along (record { front = front; places = plan.places; taken = taken })
        ≡ digests_of
        (record {
          protocol = plan.protocol;
          registers = plan.registers;
          parts = parts_along plan.places bytes;
        })
    digests_of_bytes bytes taken_is =
        let all : length bytes ≡ total_of plan.places = ap length (sym taken_is) ∙ all_taken in
        let h : Handover =
        record {
          protocol = plan.protocol;
          registers = plan.registers;
          parts = parts_along plan.places bytes;
        }
        in
        let places_are : map part_place h.parts ≡ plan.places = along_places plan.places bytes all in
        let front_is =
        is.is_fed.fronted h
        (ap
        (λ (l : List Place).
        record { protocol = plan.protocol; registers = plan.registers; places = l })
        places_are) in
        digests_are h front plan.places taken front_is (sym places_are)
        (taken_is ∙ sym (along_bytes plan.places bytes all))

    -- it is digested as what the plan hands over by the bytes that came
    pub came_digests : digests_along (record { front = front; places = plan.places; taken = taken })
        ≡ digests_of (handover_fed (record { plan = plan; fed = fed }))
    came_digests = digests_of_bytes (filled plan.own plan.steps fed) (sym all_filled)

    -- and so as what it hands over out of all files that have these bytes
    pub fed_digests : (texts : List (List ℕ))
        → fed ≡ bytes_of_ranges texts (ranges_of plan.steps)
        → digests_along (record { front = front; places = plan.places; taken = taken })
        ≡ digests_of (handover_in_steps texts plan)
    fed_digests texts are =
        let ranges : List FileRange = ranges_of plan.steps in
        let size = ap length are in
        let whole : length_of_ranges ranges ≤ length (bytes_of_ranges texts ranges) =
        omega (arith, none_wanted ranges (length fed) ended, size) in
        digests_of_bytes (bytes_of_steps plan.own texts plan.steps)
        (sym all_filled ∙ ap (filled plan.own plan.steps) are
        ∙ filled_by_files plan.own texts plan.steps whole)

-- as the code has it
pub under_way : (protocol : Protocol) (registers : Registers) (places places' : List Place)
    (steps : List Step) (own fed fed' front front' taken : List ℕ) (range : FileRange) (next : ℕ)
    → places' ≡ places → fed' ≡ fed → front' ≡ front
    → IsFed (plan_kept protocol registers places steps own) fed front taken range next
    → range.offset < 2 ^ 64 → (range.length ≡ 0 → length steps ≤ next)
    → IsUnderWay (plan_kept protocol registers places' steps own) fed' front' taken range next
under_way protocol registers places places' steps own fed fed' front front' taken range next
    places_are fed_is front_is is small last =
    rw (places_are, fed_is, front_is) (record { is_fed = is; small = small; last = last })

-- ---- a plan in steps

pub steps_long : (steps : List Step) → length_of_steps steps ≡ sum_by (λ step. step.length) steps
steps_long [] = refl
steps_long (step ∷ steps) =
    ap (λ (n : ℕ). step.length + n) (steps_long steps)
    ∙ sym (sum_by-cons (λ (s : Step). s.length) step steps)

pub parts_long : {A : Type 0} (parts : List (PlannedPart A))
    → total_of (map planned_place parts) ≡ sum_by (λ part. part.place.length) parts
parts_long [] = refl
parts_long {A = A} (part ∷ parts) =
    ap (λ (n : ℕ). part.place.length + n) (parts_long parts)
    ∙ sym (sum_by-cons (λ (p : PlannedPart A). p.place.length) part parts)

has_own : (lengths : List ℕ) (own : ℕ) (source : StepSource) (count : ℕ)
    → IsThere lengths own source count → HasOwn own source count
has_own lengths own (File file offset) count there = tt
has_own lengths own (Own offset) count there = there
has_own lengths own Zeros count there = tt

-- what can be loaded can be taken
pub takes_there : (lengths : List ℕ) (own size : ℕ) (steps : List Step)
    → All (IsStep lengths own size) steps → All (TakesWhatIsThere own) steps
takes_there lengths own size steps sound k d h =
    let step = sound k d h in (step.filled, has_own lengths own _ _ step.there)

pub same_plan : {A : Type 0} (plan : Plan A) (places : List Place) (steps : List Step)
    (own : List ℕ) → places ≡ places_of plan → steps ≡ steps_from 0 plan.parts.items
    → own ≡ own_bytes plan.parts.items
    → plan_kept plan.protocol plan.registers places steps own ≡ plan_in_steps plan
same_plan plan places steps own places_are steps_are own_is =
    ap (λ (l : List Place). plan_kept plan.protocol plan.registers l steps own) places_are
    ∙ ap (λ (l : List Step). plan_kept plan.protocol plan.registers (places_of plan) l own) steps_are
    ∙ ap
    (λ (l : List ℕ).
    plan_kept plan.protocol plan.registers (places_of plan) (steps_from 0 plan.parts.items) l)
    own_is
