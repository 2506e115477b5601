-- The ranges of parts.
use Rattle.std.proofs.Common.{◌≤◌, map, arith}
use Rattle.std.proofs.lemmas.List.Elements.{All-map}
use Rattle.bl_map.specs.PoolFrames.{AreAscending}
use Rattle.bl_plan.specs.Placed.{place_range}
use Rattle.bl_load.specs.HandoffFacts.{HandoffFacts, IsWellFormedHandoff}
use Rattle.bl_load.proofs.HeldLemmas.{AllPairs-map}

-- parts ascend
pub ascending_parts : (handoff : HandoffFacts) → IsWellFormedHandoff handoff
    → AreAscending (map place_range handoff.places)
ascending_parts handoff h = record {
  forward = All-map (λ range. range.start ≤ range.end) place_range handoff.places
      (λ k d within. omega arith);
  in_order = AllPairs-map (λ p q. p.end ≤ q.start) place_range handoff.places h.ascending;
}
