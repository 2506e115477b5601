use Rattle.std.proofs.Common.{◌≡◌, ◌≤◌, ℕ, List, ◌-◌, length, replicate, take, ap, rules}
use Rattle.std.proofs.Common.{length-append, ◌∙◌, arith}
use Rattle.std.proofs.lemmas.List.{places, length-replicate}
use Rattle.bl_digest.specs.internal.Hashing.{HashedFacts, total_of}
use Rattle.bl_digest.proofs.FillingLemmas.{zeros_more}
use Rattle.bl_digest.proofs.step_taking.take_zeros.Goals as goal

pub loop-left-preserved : goal.loop-left-preserved
loop-left-preserved g c =
    let next = c.min-next.result in
    let before = c.loop-left.invariant.taken in
    let within = c.loop-left.invariant.within in
    record {
      taken =
          c.take.ensures
          ∙ zeros_more c.loop-left.hasher c.args.hasher.now c.args.count c.loop-left.left next 4096
          before (omega (arith, c.min-next.ensures)) (omega (arith, c.min-next.ensures)) within;
      within = omega arith;
    }

pub take-requires : goal.take-requires
take-requires g c =
    let next = c.min-next.result in
    let before = c.loop-left.invariant.taken in
    let few : next ≤ 4096 = omega (arith, c.min-next.ensures) in
    let block : List ℕ = replicate 4096 0 in
    let size : length (take next block) ≡ next = search (rules, places) in
    let done = c.args.count - c.loop-left.left in
    let zeros : List ℕ = replicate done 0 in
    let count : length zeros ≡ done = length-replicate done 0 in
    omega (
      arith,
      size,
      ap (λ (h : HashedFacts). length h.taken) before,
      ap (λ (h : HashedFacts). total_of h.places) before,
      length-append c.args.hasher.now.taken zeros,
      count,
      c.min-next.ensures,
      c.loop-left.invariant.within,
      c.requires,
    )
