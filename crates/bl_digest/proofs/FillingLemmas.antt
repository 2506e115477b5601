-- What steps write, as the bytes of files come.
use Rattle.std.proofs.Common.{◌≡◌, ℕ, ◌+◌, ◌-◌, ◌<◌, ◌≤◌, ◌%◌, ◌^◌, List, [], ◌∷◌, ◌++◌, length}
use Rattle.std.proofs.Common.{take, drop, arith, refl, sym, ap, ◌∙◌, replicate}
use Rattle.std.proofs.Common.{append_assoc, length-append}
use Rattle.std.proofs.Common.{add_assoc, Some, inl, inr, nat_lt, true, false}
use Rattle.std.proofs.lemmas.List.{take-replicate, replicate-append-replicate}
use Rattle.std.proofs.lemmas.Bool.{cases_lt}
use Rattle.std.proofs.lemmas.Bool.Decides.{nat_tests}
use Rattle.std.proofs.Math.Nat.{mod-add-mod}
use Rattle.std.proofs.Math.Seq.{take-append-add, drop-append-add}
use Rattle.bl_load.specs.declared.step.Step.{Step}
use Rattle.bl_load.specs.declared.step.StepSource.{StepSource}
use Rattle.bl_load.specs.declared.step.StepSource.TheVariants.{File}
use Rattle.bl_digest.specs.declared.file_range.FileRange.{FileRange}
use Rattle.bl_digest.specs.Ranges.{ranges_of, source_ranges, range_behind, wanted_after}
use Rattle.bl_digest.specs.PlanInSteps.{filled, source_fill, fed_behind}
use Rattle.bl_digest.specs.internal.Filling.{filled_behind}
use Rattle.bl_digest.specs.internal.Filling.{length_of_steps, TakesUpTo}
use Rattle.bl_digest.specs.internal.Hashing.{HashedFacts}

-- ---- what is wanted

-- the range that is next came to so many bytes
pub wanted_here : (range : FileRange) (ranges : List FileRange) (count : ℕ) → count < range.length
    → wanted_after (range ∷ ranges) count ≡ Some (range_behind range count)
wanted_here range ranges count h =
    let e : nat_lt count range.length ≡ true = grind (arith, nat_tests) in rw e refl

pub wanted_later : (range : FileRange) (ranges : List FileRange) (count : ℕ) → range.length ≤ count
    → wanted_after (range ∷ ranges) count ≡ wanted_after ranges (count - range.length)
wanted_later range ranges count h =
    let e : nat_lt count range.length ≡ false = grind (arith, nat_tests) in rw e refl

-- nothing is wanted of a range that is empty
pub wanted_empty : (range : FileRange) (ranges : List FileRange) (count : ℕ) → range.length ≡ 0
    → wanted_after (range ∷ ranges) count ≡ wanted_after ranges count
wanted_empty range ranges count h =
    wanted_later range ranges count (omega arith)
    ∙ ap (wanted_after ranges) (omega arith)

same_offset : (offset n count : ℕ)
    → (offset + (n + count)) % 2 ^ 64 ≡ ((offset + n) % 2 ^ 64 + count) % 2 ^ 64
same_offset offset n count =
    ap (λ (m : ℕ). m % 2 ^ 64) (sym (add_assoc offset n count))
    ∙ sym (mod-add-mod (offset + n) (2 ^ 64) count)

same_range : (range : FileRange) (n count : ℕ)
    → range_behind range (n + count) ≡ range_behind (range_behind range n) count
same_range range n count =
    let offset = same_offset range.offset n count in
    let left : range.length - (n + count) ≡ range.length - n - count = omega arith in
    rw (offset, left) refl

-- some bytes of a range came, and then others
pub wanted_more : (range : FileRange) (ranges : List FileRange) (n count : ℕ) → n ≤ range.length
    → wanted_after (range ∷ ranges) (n + count) ≡ wanted_after (range_behind range n ∷ ranges) count
wanted_more range ranges n count within =
    elim (cases_lt (n + count) range.length) [
      | inl here ↦
          wanted_here range ranges (n + count) here
          ∙ ap Some (same_range range n count)
          ∙ sym (wanted_here (range_behind range n) ranges count (omega arith))
      | inr later ↦
          wanted_later range ranges (n + count) later
          ∙ ap (wanted_after ranges) (omega arith)
          ∙ sym (wanted_later (range_behind range n) ranges count (omega arith))
    ]

-- ---- what is filled

-- the first bytes of a range came
pub filled_more : (own : List ℕ) (count : ℕ) (steps : List Step) (bytes more : List ℕ)
    → length bytes ≤ count
    → filled_behind own count steps (bytes ++ more)
    ≡ bytes ++ filled_behind own (count - length bytes) steps more
filled_more own count steps bytes more within =
    let left : ℕ = count - length bytes in
    let all : count ≡ length bytes + left = omega arith in
    rw all
    (ap (λ (l : List ℕ). l ++ filled own steps (drop (length bytes + left) (bytes ++ more)))
    (take-append-add bytes more left)
    ∙ ap (λ (l : List ℕ). (bytes ++ take left more) ++ filled own steps l)
    (drop-append-add bytes more left)
    ∙ append_assoc bytes (take left more) (filled own steps (drop left more))
    ∙ ap (λ (n : ℕ). bytes ++ filled_behind own n steps more) (omega arith))

-- what stands at some step: what was taken before it, and what it and the others still give
pub record StandsAt (own : List ℕ) (steps rest : List Step) (old new : List ℕ) : Type 0 where
  pub filling : (more : List ℕ) → old ++ filled own steps more ≡ new ++ filled own rest more
  pub ranges : ranges_of steps ≡ ranges_of rest
  pub count : length old + length_of_steps steps ≡ length new + length_of_steps rest

pub stands_first : (own : List ℕ) (steps : List Step) (old : List ℕ)
    → StandsAt own steps steps old old
stands_first own steps old = record { filling = λ more. refl; ranges = refl; count = refl }

-- one step more is taken, which reads no file
pub stands_more : (own : List ℕ) (steps rest : List Step) (old new bytes : List ℕ) (step : Step)
    → StandsAt own steps (step ∷ rest) old new
    → ((more : List ℕ) → source_fill own step.source step.length more ≡ bytes)
    → ((more : List ℕ) → fed_behind step.source step.length more ≡ more)
    → source_ranges step.source step.length ≡ [] → length bytes ≡ step.length
    → StandsAt own steps rest old (new ++ bytes)
stands_more own steps rest old new bytes step at fill behind none size = record {
  filling = λ more.
      at.filling more
      ∙ ap (λ (l : List ℕ). new ++ (l ++ filled own rest (fed_behind step.source step.length more)))
      (fill more)
      ∙ ap (λ (l : List ℕ). new ++ (bytes ++ filled own rest l)) (behind more)
      ∙ sym (append_assoc new bytes (filled own rest more));
  ranges = at.ranges ∙ ap (λ (l : List FileRange). l ++ ranges_of rest) none;
  count = omega (arith, at.count, length-append new bytes);
}

-- at a step that reads a file, its range is wanted
pub stops_at_file : (own : List ℕ) (steps rest : List Step) (old new : List ℕ) (step : Step)
    (file offset : ℕ) → step.source ≡ File file offset
    → StandsAt own steps (step ∷ rest) old new
    → TakesUpTo own steps old new (record { file = file; offset = offset; length = step.length }) rest
stops_at_file own steps rest old new step file offset is at = record {
  filling = λ more.
      at.filling more
      ∙ ap
      (λ (from : StepSource).
      new
      ++ (source_fill own from step.length more
      ++ filled own rest (fed_behind from step.length more)))
      is;
  wanting = λ count.
      ap (λ (l : List FileRange). wanted_after l count) at.ranges
      ∙ ap
      (λ (from : StepSource). wanted_after (source_ranges from step.length ++ ranges_of rest) count)
      is;
  count = at.count;
}

-- behind the last step nothing is wanted
pub stops_behind : (own : List ℕ) (steps rest : List Step) (old new : List ℕ) (range : FileRange)
    → range.length ≡ 0 → StandsAt own steps rest old new → TakesUpTo own steps old new range rest
stops_behind own steps rest old new range none at = record {
  filling = λ more.
      at.filling more
      ∙ ap (λ (n : ℕ). new ++ filled_behind own n rest more) (sym none);
  wanting = λ count.
      ap (λ (l : List FileRange). wanted_after l count) at.ranges
      ∙ sym (wanted_empty range (ranges_of rest) count none);
  count = omega (arith, at.count);
}

-- zeros more are taken, out of a block of zeros
pub zeros_more : (hasher first : HashedFacts) (count left next block : ℕ)
    → hasher ≡ record {
      front = first.front;
      places = first.places;
      taken = first.taken ++ replicate (count - left) 0;
    }
    → next ≤ block → next ≤ left → left ≤ count
    → ◌≡◌ {A = HashedFacts}
    (record {
      front = hasher.front;
      places = hasher.places;
      taken = hasher.taken ++ take next (replicate block 0);
    })
    (record {
      front = first.front;
      places = first.places;
      taken = first.taken ++ replicate (count - (left - next)) 0;
    })
zeros_more hasher first count left next block is fits here within =
    let made : List ℕ → HashedFacts =
    λ l. record { front = first.front; places = first.places; taken = l } in
    ap
    (λ (h : HashedFacts).
    record {
      front = h.front;
      places = h.places;
      taken = h.taken ++ take next (replicate block 0);
    })
    is
    ∙ ap (λ (l : List ℕ). made ((first.taken ++ replicate (count - left) 0) ++ l))
    (take-replicate next block 0 fits)
    ∙ ap made (append_assoc first.taken (replicate (count - left) 0) (replicate next 0))
    ∙ ap (λ (l : List ℕ). made (first.taken ++ l))
    (replicate-append-replicate (count - left) next 0)
    ∙ ap (λ (n : ℕ). made (first.taken ++ replicate n 0)) (omega arith)
