-- How many steps and own bytes parts have, as sums over their rows.
use Rattle.std.proofs.Common.{◌≡◌, ◌≤◌, ◌+◌, ◌-◌, ◌*◌, ℕ, zero, suc, List, [], ◌∷◌, ◌++◌, length, map}
use Rattle.std.proofs.Common.{arith, refl, ap, ap₂, ◌∙◌, length-append}
use Rattle.std.specs.Prelude.{sum_by}
use Rattle.std.specs.declared.ops.Range.{Range}
use Rattle.std.proofs.lemmas.List.Sums.{sum_by-cons}
use Rattle.bl_map.specs.MachineFacts.{MachineFacts}
use Rattle.bl_mem.specs.declared.segment.Segment.{Segment}
use Rattle.bl_plan.specs.AddressOrder.{places_in_order, place_key}
use Rattle.bl_plan.specs.Placed.{ArePlaced, place_range}
use Rattle.bl_plan.specs.PlannerFacts.{put_in}
use Rattle.bl_plan.specs.declared.part.Place.{Place}
use Rattle.bl_plan.specs.declared.part.Role.{Role}
use Rattle.bl_plan.specs.declared.part.Row.{Row}
use Rattle.bl_plan.proofs.OrderCountLemmas.{sum_by-in_order}
use Rattle.bl_load.specs.declared.step.StepSource.{StepSource}
use Rattle.bl_load.specs.declared.step.StepSource.TheVariants as source
use Rattle.bl_load.specs.EntryValue.{EntryValue}
use Rattle.bl_load.specs.KernelReading.{KernelReading}
use Rattle.bl_load.specs.Origins.{Origin, made, file_range, file_block, PartOrigin, origin_at}
use Rattle.bl_load.specs.PlanSteps.{one_step, segment_steps, steps_in_block}
use Rattle.bl_load.specs.StepsByOrigins.{origin_length, own_of_origin, origin_steps, steps_of_part}
use Rattle.bl_load.specs.StepsByOrigins.{steps_by, own_by}

-- ---- the steps of one part

one_few : (at n : ℕ) (from : StepSource) → length (one_step at n from) ≤ 1
one_few at zero from = omega arith
one_few at (suc n) from = omega arith

segment_few : (at file : ℕ) (s : Segment) → length (segment_steps at file s) ≤ 2
segment_few at file s =
    let bytes = source.File file s.offset in
    let both =
    length-append (one_step at s.filesz bytes)
    (one_step (at + s.filesz) (s.memsz - s.filesz) source.Zeros) in
    omega (
      arith,
      both,
      one_few at s.filesz bytes,
      one_few (at + s.filesz) (s.memsz - s.filesz) source.Zeros,
    )

block_few : (at file low done : ℕ) (segments : List Segment)
    → length (steps_in_block at file low done segments) ≤ 3 * length segments
block_few at file low done [] = omega arith
block_few at file low done (s ∷ segments) =
    let gap = one_step (at + done) (s.address - low - done) source.Zeros in
    let here = segment_steps (at + (s.address - low)) file s in
    let rest = steps_in_block at file low (s.address - low + s.memsz) segments in
    omega (
      arith,
      length-append (gap ++ here) rest,
      length-append gap here,
      one_few (at + done) (s.address - low - done) source.Zeros,
      segment_few (at + (s.address - low)) file s,
      block_few at file low (s.address - low + s.memsz) segments,
    )

-- the most steps that bring what comes from there
abbrev pub most_steps : Origin → ℕ
most_steps (made bytes) = 1
most_steps (file_range file offset count) = 1
most_steps (file_block file segments) = 3 * length segments

origin_few : (before at : ℕ) (from : Origin)
    → length (origin_steps before at from) ≤ most_steps from
origin_few before at (made bytes) = one_few at (length bytes) (source.Own before)
origin_few before at (file_range file offset count) = one_few at count (source.File file offset)
origin_few before at (file_block file segments) = block_few at file _ 0 segments

abbrev pub step_weight : PartOrigin → ℕ
step_weight part = most_steps part.origin + 1

abbrev pub own_weight : PartOrigin → ℕ
own_weight part = length (own_of_origin part.origin)

pub steps_few : (before : ℕ) (parts : List PartOrigin)
    → length (steps_by before parts) ≤ sum_by step_weight parts
steps_few before [] = omega arith
steps_few before (p ∷ parts) =
    let behind = before + length (own_of_origin p.origin) in
    let first = origin_steps before p.place.address p.origin in
    let at = p.place.address + origin_length p.origin in
    let left = p.place.length - origin_length p.origin in
    omega (
      arith,
      length-append (steps_of_part before p) (steps_by behind parts),
      length-append first (one_step at left source.Zeros),
      origin_few before p.place.address p.origin,
      one_few at left source.Zeros,
      steps_few behind parts,
      sum_by-cons step_weight p parts,
    )

pub own_few : (parts : List PartOrigin) → length (own_by parts) ≡ sum_by own_weight parts
own_few [] = refl
own_few (p ∷ parts) =
    omega (
      arith,
      length-append (own_of_origin p.origin) (own_by parts),
      own_few parts,
      sum_by-cons own_weight p parts,
    )

-- ---- sums over parts are sums over rows

sum_map : {X Y : Type 0} (f : Y → ℕ) (g : X → Y) (xs : List X)
    → sum_by f (map g xs) ≡ sum_by (λ x. f (g x)) xs
sum_map f g [] = refl
sum_map f g (x ∷ xs) =
    omega (
      arith,
      sum_by-cons f (g x) (map g xs),
      sum_by-cons (λ x. f (g x)) x xs,
      sum_map f g xs,
    )

abbrev pub by_row : (Role → ℕ → ℕ) → Row → ℕ
by_row w row = w row.role row.index

abbrev pub by_place : (Role → ℕ → ℕ) → Place → ℕ
by_place w place = w place.role place.index

pub placed_sum : (facts : MachineFacts) (w : Role → ℕ → ℕ) (taken : List (Range ℕ)) (rows : List Row)
    (places : List Place) → ArePlaced facts taken rows places
    → sum_by (by_place w) places ≡ sum_by (by_row w) rows
placed_sum facts w taken [] [] placed = refl
placed_sum facts w taken [] (p ∷ places) placed = absurd placed
placed_sum facts w taken (row ∷ rows) [] placed = absurd placed
placed_sum facts w taken (row ∷ rows) (p ∷ places) placed =
    let role : p.role ≡ row.role = ap (λ (q : Place). q.role) placed.1 in
    let index : p.index ≡ row.index = ap (λ (q : Place). q.index) placed.1 in
    let same : w p.role p.index ≡ w row.role row.index = ap₂ w role index in
    omega (
      arith,
      sum_by-cons (by_place w) p places,
      sum_by-cons (by_row w) row rows,
      same,
      placed_sum facts w (put_in (place_range p) taken) rows places placed.2,
    )

-- what is summed over the parts at these places, where one of a role and an index has this weight
pub parts_sum : (facts : MachineFacts) (value : EntryValue) (reading : KernelReading)
    (places : List Place) (f : PartOrigin → ℕ)
    → sum_by f (map (origin_at facts value reading places) (places_in_order places))
    ≡ sum_by (λ place. f (origin_at facts value reading places place)) places
parts_sum facts value reading places f =
    sum_map f (origin_at facts value reading places) (places_in_order places)
    ∙ sum_by-in_order place_key (λ place. f (origin_at facts value reading places place)) places
