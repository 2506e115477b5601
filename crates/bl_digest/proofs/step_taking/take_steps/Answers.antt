use Rattle.std.proofs.Common.{ℕ, List, ◌∷◌, ◌++◌, drop, slice_range, replicate, rules, ◌≡◌, ◌+◌}
use Rattle.std.proofs.Common.{◌<◌, ◌≤◌, length, ap, sym, ◌∙◌, subst, arith}
use Rattle.std.proofs.lemmas.List.{drop_more, places, length-replicate}
use Rattle.bl_load.specs.declared.step.Step.{Step}
use Rattle.bl_load.specs.declared.step.StepSource.{StepSource}
use Rattle.bl_digest.specs.declared.file_range.FileRange.{FileRange}
use Rattle.bl_digest.specs.PlanInSteps.{source_fill, fed_behind}
use Rattle.bl_digest.specs.internal.Filling.{TakesWhatIsThere, HasOwn}
use Rattle.bl_digest.specs.internal.Hashing.{HashedFacts, total_of}
use Rattle.bl_digest.specs.Ranges.{source_ranges}
use Rattle.bl_load.specs.declared.step.StepSource.TheVariants.{Own, Zeros}
use Rattle.bl_digest.proofs.FillingLemmas.{StandsAt, stands_more, stops_at_file}
use Rattle.bl_digest.proofs.step_taking.take_steps.Goals as goal

pub returns-in-File-clause-last : goal.returns-in-File-clause-last
returns-in-File-clause-last g c = λ none.
    let steps = c.args.told.now.steps in
    let own = length c.args.told.now.own in
    let inside : c.loop-at.at < length steps.items = omega (arith, c.loop-at-test.true, c.len.ensures, steps.ok.0) in
    let takes : TakesWhatIsThere own c.index-step.result.now =
    subst (TakesWhatIsThere own) (sym c.index-step.ensures)
    (c.requires.held c.loop-at.at c.index-step.result.now inside) in
    let empty : c.index-step.result.now.length ≡ 0 =
    sym (ap (λ (r : FileRange). r.length) c.range_at-range.ensures.range) ∙ none in
    absurd (omega (arith, takes.0))

pub overflow_add-end : goal.overflow_add-end
overflow_add-end g c =
    let steps = c.args.told.now.steps in
    let own = length c.args.told.now.own in
    let inside : c.loop-at.at < length steps.items = omega (arith, c.loop-at-test.true, c.len.ensures, steps.ok.0) in
    let step = c.index-step.result.now in
    let takes : TakesWhatIsThere own step =
    subst (TakesWhatIsThere own) (sym c.index-step.ensures)
    (c.requires.held c.loop-at.at step inside) in
    let there : c.in-Own.offset + step.length ≤ own =
    subst (λ (s : StepSource). HasOwn own s step.length) c.in-Own.is takes.1 in
    omega (arith, there, ap length c.as_slice-own.ensures, c.as_slice-own.type_inv.0)

-- a step of the plan's own bytes is taken
own_taken : (own : List ℕ) (steps rest : List Step) (old new : List ℕ) (step : Step) (offset : ℕ)
    → step.source ≡ Own offset → offset + step.length ≤ length own
    → StandsAt own steps (step ∷ rest) old new
    → StandsAt own steps rest old (new ++ slice_range own offset (offset + step.length))
own_taken own steps rest old new step offset is there at =
    stands_more own steps rest old new (slice_range own offset (offset + step.length)) step at
    (λ more. ap (λ (from : StepSource). source_fill own from step.length more) is)
    (λ more. ap (λ (from : StepSource). fed_behind from step.length more) is)
    (ap (λ (from : StepSource). source_ranges from step.length) is) (search (rules, places))

-- a step of zeros is taken
zeros_taken : (own : List ℕ) (steps rest : List Step) (old new : List ℕ) (step : Step)
    → step.source ≡ Zeros → StandsAt own steps (step ∷ rest) old new
    → StandsAt own steps rest old (new ++ replicate step.length 0)
zeros_taken own steps rest old new step is at =
    stands_more own steps rest old new (replicate step.length 0) step at
    (λ more. ap (λ (from : StepSource). source_fill own from step.length more) is)
    (λ more. ap (λ (from : StepSource). fed_behind from step.length more) is)
    (ap (λ (from : StepSource). source_ranges from step.length) is)
    (length-replicate step.length 0)

pub returns-in-File-clause-goes_on : goal.returns-in-File-clause-goes_on
returns-in-File-clause-goes_on g c =
    let steps = c.args.told.now.steps in
    let inside : c.loop-at.at < length steps.items = omega (arith, c.loop-at-test.true, c.len.ensures, steps.ok.0) in
    let step = c.index-step.result.now in
    let stands =
    rw (drop_more steps.items c.loop-at.at step inside, ← c.index-step.ensures) at
    c.loop-at.invariant.stands in
    rw c.range_at-range.ensures.range
    (stops_at_file c.args.told.now.own (drop c.args.from steps.items)
    (drop (c.loop-at.at + 1) steps.items) c.args.hasher.now.taken c.loop-at.hasher.taken step
    c.in-File.file c.in-File.offset c.in-File.is stands)

pub take_zeros-requires : goal.take_zeros-requires
take_zeros-requires g c =
    let steps = c.args.told.now.steps in
    let inside : c.loop-at.at < length steps.items = omega (arith, c.loop-at-test.true, c.len.ensures, steps.ok.0) in
    let step = c.index-step.result.now in
    let stands =
    rw (drop_more steps.items c.loop-at.at step inside, ← c.index-step.ensures) at
    c.loop-at.invariant.stands in
    omega (arith, stands.count, c.requires.room, ap total_of c.loop-at.invariant.places)

pub loop-at-preserved : goal.loop-at-preserved
loop-at-preserved g c =
    let steps = c.args.told.now.steps in
    let inside : c.loop-at.at < length steps.items = omega (arith, c.loop-at-test.true, c.len.ensures, steps.ok.0) in
    let step = c.index-step.result.now in
    let stands =
    rw (drop_more steps.items c.loop-at.at step inside, ← c.index-step.ensures) at
    c.loop-at.invariant.stands in
    record {
      stands =
          rw c.take_zeros.ensures
          (zeros_taken c.args.told.now.own (drop c.args.from steps.items)
          (drop (c.loop-at.at + 1) steps.items) c.args.hasher.now.taken c.loop-at.hasher.taken
          step c.in-Zeros.is stands);
      front = ap (λ (h : HashedFacts). h.front) c.take_zeros.ensures ∙ c.loop-at.invariant.front;
      places = ap (λ (h : HashedFacts). h.places) c.take_zeros.ensures ∙ c.loop-at.invariant.places;
    }

pub take-requires : goal.take-requires
take-requires g c =
    let steps = c.args.told.now.steps in
    let own = c.args.told.now.own in
    let inside : c.loop-at.at < length steps.items = omega (arith, c.loop-at-test.true, c.len.ensures, steps.ok.0) in
    let step = c.index-step.result.now in
    let takes : TakesWhatIsThere (length own) step =
    subst (TakesWhatIsThere (length own)) (sym c.index-step.ensures)
    (c.requires.held c.loop-at.at step inside) in
    let there : c.in-Own.offset + step.length ≤ length own =
    subst (λ (s : StepSource). HasOwn (length own) s step.length) c.in-Own.is takes.1 in
    let stands =
    rw (drop_more steps.items c.loop-at.at step inside, ← c.index-step.ensures) at
    c.loop-at.invariant.stands in
    let size : length (slice_range own c.in-Own.offset (c.in-Own.offset + step.length)) ≡ step.length =
    search (rules, places) in
    rw c.as_slice-own.ensures
    (omega (arith, size, stands.count, c.requires.room, ap total_of c.loop-at.invariant.places))

pub loop-at-preserved-in-Own : goal.loop-at-preserved-in-Own
loop-at-preserved-in-Own g c =
    let steps = c.args.told.now.steps in
    let own = c.args.told.now.own in
    let inside : c.loop-at.at < length steps.items = omega (arith, c.loop-at-test.true, c.len.ensures, steps.ok.0) in
    let step = c.index-step.result.now in
    let takes : TakesWhatIsThere (length own) step =
    subst (TakesWhatIsThere (length own)) (sym c.index-step.ensures)
    (c.requires.held c.loop-at.at step inside) in
    let there : c.in-Own.offset + step.length ≤ length own =
    subst (λ (s : StepSource). HasOwn (length own) s step.length) c.in-Own.is takes.1 in
    let stands =
    rw (drop_more steps.items c.loop-at.at step inside, ← c.index-step.ensures) at
    c.loop-at.invariant.stands in
    record {
      stands =
          rw (c.take.ensures, c.as_slice-own.ensures)
          (own_taken own (drop c.args.from steps.items) (drop (c.loop-at.at + 1) steps.items)
          c.args.hasher.now.taken c.loop-at.hasher.taken step c.in-Own.offset c.in-Own.is there
          stands);
      front = ap (λ (h : HashedFacts). h.front) c.take.ensures ∙ c.loop-at.invariant.front;
      places = ap (λ (h : HashedFacts). h.places) c.take.ensures ∙ c.loop-at.invariant.places;
    }
