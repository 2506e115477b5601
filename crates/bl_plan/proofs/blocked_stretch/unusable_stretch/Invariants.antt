use Rattle.std.proofs.Common.{◌≡◌, ℕ, ◌<◌, ◌≤◌, slice_index_or}
use Rattle.bl_map.specs.NormalMap.{kind_at, region_end}
use Rattle.bl_map.specs.declared.kind.Kind.TheVariants.{Usable}
use Rattle.bl_map.specs.declared.region.Region.{Region}
use Rattle.bl_plan.proofs.blocked_stretch.unusable_stretch.Given as goal

-- the usable runs so far end at `from` or below, and hold each of the bytes that lies below it
abbrev pub invariant-loop-run : goal.invariant-loop-run
invariant-loop-run l = record {
  before : (j : ℕ) (d : Region) → j < l.run-index → (slice_index_or l.runs j d).kind ≡ Usable
      → region_end (slice_index_or l.runs j d) ≤ l.from;
  usable : (a : ℕ) → l.start ≤ a → a < l.end → a < l.from → kind_at l.runs a ≡ 1;
}
