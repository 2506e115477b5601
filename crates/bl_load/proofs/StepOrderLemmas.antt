-- The steps of a plan ascend, none is empty, and they are as long as the parts.
use Rattle.std.proofs.Common.{◌≡◌, ℕ, ◌+◌, ◌-◌, ◌≤◌, List, [], ◌∷◌, ◌++◌, length}
use Rattle.std.proofs.Common.{zero, suc, max, arith, refl, sym, ap, ◌∙◌, subst, All, AllPairs}
use Rattle.std.proofs.Common.{add-zero, get_or}
use Rattle.std.specs.List.{sum_by}
use Rattle.std.proofs.lemmas.List.Sums.{sum_by-cons, sum_by-append}
use Rattle.std.proofs.lemmas.List.Elements.{All-cons}
use Rattle.bl_mem.specs.declared.segment.Segment.{Segment}
use Rattle.bl_load.specs.declared.plan.Content.{Content}
use Rattle.bl_load.specs.declared.plan.Content.TheVariants.{Own, File, Block}
use Rattle.bl_load.specs.declared.plan.PlannedPart.{PlannedPart}
use Rattle.bl_load.specs.declared.step.Step.{Step}
use Rattle.bl_load.specs.declared.step.StepSource.{StepSource}
use Rattle.bl_load.specs.declared.step.StepSource.TheVariants as source
use Rattle.bl_load.specs.KernelBlock.{low_of, high_of, span_of}
use Rattle.bl_load.specs.Loadable.{content_length, SegmentsAscend}
use Rattle.bl_load.specs.Parts.{no_segment}
use Rattle.bl_load.specs.PlanSteps.{one_step, segment_steps, steps_in_block, block_steps, own_of}
use Rattle.bl_load.specs.PlanSteps.{content_steps, part_steps, steps_from}
use Rattle.bl_load.specs.Steps.{StepsAscend}
use Rattle.bl_load.specs.internal.Stepping.{HoldsNoMore, HasSegmentsInOrder, CanBeTold}
use Rattle.bl_load.proofs.BlockStepLemmas.{low_first, first_below}

-- steps from one address up to another, none empty, each where the one before it ends
abbrev pub Adjoin : ℕ → List Step → ℕ → Type 0
Adjoin start [] end = start ≡ end
Adjoin start (step ∷ steps) end =
    (step.address ≡ start) × (1 ≤ step.length) × Adjoin (start + step.length) steps end

-- steps between two addresses, none empty, each behind the one before it
abbrev pub Climb : ℕ → List Step → ℕ → Type 0
Climb start [] end = start ≤ end
Climb start (step ∷ steps) end =
    (start ≤ step.address) × (1 ≤ step.length) × Climb (step.address + step.length) steps end

-- a step that is not empty and lies between two addresses
abbrev pub LiesIn : ℕ → ℕ → Step → Type 0
LiesIn start end step =
    (start ≤ step.address) × (1 ≤ step.length) × (step.address + step.length ≤ end)

adjoin_append : (start middle end : ℕ) (xs ys : List Step) → Adjoin start xs middle
    → Adjoin middle ys end → Adjoin start (xs ++ ys) end
adjoin_append start middle end [] ys first rest = rw first rest
adjoin_append start middle end (x ∷ xs) ys first rest =
    (first.0, first.1, adjoin_append (start + x.length) middle end xs ys first.2 rest)

adjoin_one : (start n end : ℕ) (from : StepSource) → start + n ≡ end
    → Adjoin start (one_step start n from) end
adjoin_one start zero end from is = omega arith
adjoin_one start (suc n) end from is = (refl, omega arith, is)

adjoin_climb : (start end : ℕ) (steps : List Step) → Adjoin start steps end → Climb start steps end
adjoin_climb start end [] all = omega arith
adjoin_climb start end (step ∷ steps) all =
    let same : step.address ≡ start = all.0 in
    (omega arith, all.1, rw same (adjoin_climb (start + step.length) end steps all.2))

adjoin_sum : (start end : ℕ) (steps : List Step) → Adjoin start steps end
    → start + sum_by (λ step. step.length) steps ≡ end
adjoin_sum start end [] all = add-zero start ∙ all
adjoin_sum start end (step ∷ steps) all =
    let rest = adjoin_sum (start + step.length) end steps all.2 in
    let more : start + (step.length + sum_by (λ (s : Step). s.length) steps) ≡ end =
    omega (arith, rest) in
    ap (λ (n : ℕ). start + n) (sum_by-cons (λ (s : Step). s.length) step steps) ∙ more

climb_from : (start next end : ℕ) (steps : List Step) → start ≤ next → Climb next steps end
    → Climb start steps end
climb_from start next end [] low all = omega arith
climb_from start next end (step ∷ steps) low all =
    let first : next ≤ step.address = all.0 in (omega arith, all.1, all.2)

climb_append : (start middle next end : ℕ) (xs ys : List Step) → Climb start xs middle
    → middle ≤ next → Climb next ys end → Climb start (xs ++ ys) end
climb_append start middle next end [] ys first gap rest =
    climb_from start next end ys (omega arith) rest
climb_append start middle next end (x ∷ xs) ys first gap rest = (
  first.0,
  first.1,
  climb_append (x.address + x.length) middle next end xs ys first.2 gap rest,
)

climb_ends : (start end : ℕ) (steps : List Step) → Climb start steps end → start ≤ end
climb_ends start end [] all = all
climb_ends start end (step ∷ steps) all =
    let rest = climb_ends (step.address + step.length) end steps all.2 in
    let first : start ≤ step.address = all.0 in omega (arith, rest)

pub climb_within : (start end : ℕ) (steps : List Step) → Climb start steps end
    → All (LiesIn start end) steps
climb_within start end [] all = λ k d h. absurd (omega arith)
climb_within start end (step ∷ steps) all =
    let first : start ≤ step.address = all.0 in
    let rest = climb_within (step.address + step.length) end steps all.2 in
    let last = climb_ends (step.address + step.length) end steps all.2 in
    All-cons (LiesIn start end) step steps (first, all.1, last)
    (λ k d h. let this = rest k d h in
    let low = this.0 in (omega (arith, low), this.1, this.2))

pub climb_ascends : (start end : ℕ) (steps : List Step) → Climb start steps end
    → AllPairs StepsAscend steps
climb_ascends start end [] all i j d ij h = absurd (omega arith)
climb_ascends start end (step ∷ steps) all zero zero d ij h = absurd (omega arith)
climb_ascends start end (step ∷ steps) all zero (suc j) d ij h =
    (climb_within (step.address + step.length) end steps all.2 j d (omega arith)).0
climb_ascends start end (step ∷ steps) all (suc i) zero d ij h = absurd (omega arith)
climb_ascends start end (step ∷ steps) all (suc i) (suc j) d ij h =
    climb_ascends (step.address + step.length) end steps all.2 i j d (omega arith) (omega arith)

-- ---- a part's steps fill its place

-- the first of segments that ascend is the lowest
pub first_is_low : (segments : List Segment) (d : Segment) → 1 ≤ length segments
    → AllPairs SegmentsAscend segments → low_of segments ≡ (get_or segments 0 d).address
first_is_low [] d some ascend = absurd (omega arith)
first_is_low (s ∷ segments) d some ascend = low_first s segments ascend

adjoin_segment : (at file end : ℕ) (s : Segment) → HoldsNoMore s → at + s.memsz ≡ end
    → Adjoin at (segment_steps at file s) end
adjoin_segment at file end s fits is =
    adjoin_append at (at + s.filesz) end (one_step at s.filesz (source.File file s.offset))
    (one_step (at + s.filesz) (s.memsz - s.filesz) source.Zeros)
    (adjoin_one at s.filesz (at + s.filesz) (source.File file s.offset) refl)
    (adjoin_one (at + s.filesz) (s.memsz - s.filesz) end source.Zeros (omega arith))

-- up to the end of the last segment
adjoin_in_block : (at file low done end : ℕ) (segments : List Segment) → All HoldsNoMore segments
    → AllPairs SegmentsAscend segments → All (λ s. low + done ≤ s.address) segments
    → at + (max (low + done) (high_of segments) - low) ≡ end
    → Adjoin (at + done) (steps_in_block at file low done segments) end
adjoin_in_block at file low done end [] fits ascend above is = omega arith
adjoin_in_block at file low done end (s ∷ segments) fits ascend above is =
    let start : ℕ = s.address - low in
    let gap : ℕ = s.address - low - done in
    let next : ℕ = at + (start + s.memsz) in
    let up : low + done ≤ s.address = above 0 s (omega arith) in
    let zeros : List Step = one_step (at + done) gap source.Zeros in
    let this : List Step = segment_steps (at + start) file s in
    adjoin_append (at + done) next end (zeros ++ this)
    (steps_in_block at file low (start + s.memsz) segments)
    (adjoin_append (at + done) (at + start) next zeros this
    (adjoin_one (at + done) gap (at + start) source.Zeros (omega arith))
    (adjoin_segment (at + start) file next s (fits 0 s (omega arith)) (omega arith)))
    (adjoin_in_block at file low (start + s.memsz) end segments
    (λ k d h. fits (suc k) d (omega arith))
    (λ i j d ij h. ascend (suc i) (suc j) d (omega arith) (omega arith))
    (λ k d h. let after = ascend 0 (suc k) d (omega arith) (omega arith) in omega arith)
    (omega arith))

adjoin_block : (at file : ℕ) (segments : List Segment) → 1 ≤ length segments
    → All HoldsNoMore segments → AllPairs SegmentsAscend segments
    → Adjoin at (block_steps at file segments) (at + span_of segments)
adjoin_block at file [] some fits ascend = absurd (omega arith)
adjoin_block at file (s ∷ segments) some fits ascend =
    let low = low_first s segments ascend in
    let all : List Segment = s ∷ segments in
    subst
    (λ (n : ℕ). Adjoin n (steps_in_block at file s.address 0 all) (at + span_of all)) (add-zero at)
    (adjoin_in_block at file s.address 0 (at + span_of all) all fits ascend
    (λ k d h. let up = first_below all no_segment ascend k d h in omega arith) (omega arith))

adjoin_content : {A : Type 0} (before at : ℕ) (content : Content A) → HasSegmentsInOrder content
    → Adjoin at (content_steps before at content) (at + content_length content)
adjoin_content before at (Own bytes) ordered =
    adjoin_one at (length bytes) (at + length bytes) (source.Own before) refl
adjoin_content before at (File file offset count) ordered =
    adjoin_one at count (at + count) (source.File file offset) refl
adjoin_content before at (Block file segments) ordered =
    adjoin_block at file segments.items ordered.some ordered.fits ordered.ascending

adjoin_part : {A : Type 0} (before : ℕ) (part : PlannedPart A) → CanBeTold part
    → Adjoin part.place.address (part_steps before part) (part.place.address + part.place.length)
adjoin_part before part can =
    let at : ℕ = part.place.address in
    let count : ℕ = content_length part.content in
    let short : count ≤ part.place.length = can.short in
    adjoin_append at (at + count) (at + part.place.length) (content_steps before at part.content)
    (one_step (at + count) (part.place.length - count) source.Zeros)
    (adjoin_content before at part.content can.ordered)
    (adjoin_one (at + count) (part.place.length - count) (at + part.place.length) source.Zeros
    (omega arith))

-- ---- the steps of parts that ascend

pub climb_parts : {A : Type 0} (before start end : ℕ) (parts : List (PlannedPart A))
    → All CanBeTold parts
    → AllPairs (λ p q. p.place.address + p.place.length ≤ q.place.address) parts
    → All (λ p. start ≤ p.place.address) parts
    → All (λ p. p.place.address + p.place.length ≤ end) parts → start ≤ end
    → Climb start (steps_from before parts) end
climb_parts before start end [] can ascend above below forward = forward
climb_parts before start end (part ∷ parts) can ascend above below forward =
    let after : ℕ = part.place.address + part.place.length in
    let first : List Step = part_steps before part in
    let up : start ≤ part.place.address = above 0 part (omega arith) in
    climb_append start after after end first
    (steps_from (before + length (own_of part.content)) parts)
    (climb_from start part.place.address after first up
    (adjoin_climb part.place.address after first
    (adjoin_part before part (can 0 part (omega arith))))) (omega arith)
    (climb_parts (before + length (own_of part.content)) after end parts
    (λ k d h. can (suc k) d (omega arith))
    (λ i j d ij h. ascend (suc i) (suc j) d (omega arith) (omega arith))
    (λ k d h. ascend 0 (suc k) d (omega arith) (omega arith))
    (λ k d h. below (suc k) d (omega arith)) (below 0 part (omega arith)))

-- together they are as long as the parts
pub sum_parts : {A : Type 0} (before : ℕ) (parts : List (PlannedPart A)) → All CanBeTold parts
    → sum_by (λ step. step.length) (steps_from before parts)
    ≡ sum_by (λ part. part.place.length) parts
sum_parts before [] can = refl
sum_parts {A = A} before (part ∷ parts) can =
    let first : List Step = part_steps before part in
    let rest : List Step = steps_from (before + length (own_of part.content)) parts in
    let this =
    adjoin_sum part.place.address (part.place.address + part.place.length) first
    (adjoin_part before part (can 0 part (omega arith))) in
    let others =
    sum_parts (before + length (own_of part.content)) parts
    (λ k d h. can (suc k) d (omega arith)) in
    let both : sum_by (λ (s : Step). s.length) first + sum_by (λ (s : Step). s.length) rest
    ≡ part.place.length + sum_by (λ (p : PlannedPart A). p.place.length) parts =
    omega (arith, this, others) in
    sum_by-append (λ (s : Step). s.length) first rest ∙ both
    ∙ sym (sum_by-cons (λ (p : PlannedPart A). p.place.length) part parts)
