-- Memory after parts were loaded and the rest of the pool was cleared.
use Rattle.std.proofs.Common.{◌≡◌, ℕ, suc, ◌+◌, ◌-◌, ◌<◌, ◌≤◌, ◌⊎◌, inl, inr, List, [], ◌∷◌, length}
use Rattle.std.proofs.Common.{map, get_or, slice_range, slice_index, arith, rules, refl, sym, ap}
use Rattle.std.proofs.Common.{◌∙◌, Bool, true, false, ◌&&◌, All}
use Rattle.std.specs.Prelude.{nat_le, nat_lt, not}
use Rattle.std.specs.declared.ops.Range.{Range}
use Rattle.std.proofs.Math.ListN.{get_or-map}
use Rattle.std.proofs.lemmas.Bool.{cases_lt, true≢false}
use Rattle.std.proofs.lemmas.Bool.Decides.{nat_tests}
use Rattle.std.proofs.lemmas.List.{places as places_, same_lists, length-map}
use Rattle.std.proofs.lemmas.List.Folds.{list_any_at, list_any_none}
use Rattle.std.proofs.lemmas.List.Elements.{All-map}
use Rattle.bl_mem.specs.Memory.{IsIn}
use Rattle.bl_plan.specs.declared.part.Place.{Place}
use Rattle.bl_plan.specs.Placed.{place_range}
use Rattle.bl_stage.specs.Ranges.{is_in_ranges, scrubbed_byte, IsSameOutside}
use Rattle.bl_load.specs.declared.plan.PlannedPart.{PlannedPart}
use Rattle.bl_load.specs.Handover.{Part, placed_part}
use Rattle.bl_load.specs.Loadable.{lengths_of, IsBacked}
use Rattle.bl_load.specs.PlanContents.{part_by, part_in}
use Rattle.bl_load.specs.MemoryAfter.{Spans, IsMemoryAfter}
use Rattle.bl_load.proofs.HeldLemmas.{length-bytes_by, map_same}
use Rattle.bl_session.specs.attempt.AttemptResult.{part_range}

-- the ranges of what a plan hands over are those of its places
pub ranges_are : {A : Type 0} (texts : List (List ℕ)) (parts : List (PlannedPart A))
    → All (IsBacked (lengths_of texts)) parts
    → map part_range (map (part_by texts) parts) ≡ map place_range (map (λ part. part.place) parts)
ranges_are texts [] backed = refl
ranges_are texts (p ∷ parts) backed =
    let size = length-bytes_by texts p (backed 0 p (omega arith)) in
    let here : part_range (part_by texts p) ≡ place_range p.place =
    ap (λ n. let r : Range ℕ = record { start = p.place.address; end = p.place.address + n } in r)
    size in
    ap (λ (r : Range ℕ). r ∷ map part_range (map (part_by texts) parts)) here
    ∙ ap (λ (rs : List (Range ℕ)). place_range p.place ∷ rs)
    (ranges_are texts parts (λ k d within. backed (suc k) d (omega arith)))

-- ---- a test of ranges

-- an address of one of them is kept
has_one : (ranges : List (Range ℕ)) (k a : ℕ) (d : Range ℕ) → k < length ranges
    → (get_or ranges k d).start ≤ a → a < (get_or ranges k d).end → is_in_ranges ranges a ≡ true
has_one ranges k a d within low high =
    list_any_at (λ r. nat_le r.start a && nat_lt a r.end) ranges k d within
    (grind (arith, nat_tests))

misses : (r : Range ℕ) (a : ℕ) → ¬ IsIn r a → (nat_le r.start a && nat_lt a r.end) ≡ false
misses r a out =
    elim (cases_lt a r.start) [
      | inl below ↦ grind (arith, nat_tests)
      | inr at_least ↦ elim (cases_lt a r.end) [
        | inl within ↦ absurd (out (at_least, within))
        | inr past ↦ grind (arith, nat_tests)
      ]
    ]

-- one of none is not
has_none : (ranges : List (Range ℕ)) (a : ℕ) → All (λ r. ¬ IsIn r a) ranges
    → is_in_ranges ranges a ≡ false
has_none ranges a out =
    list_any_none (λ r. nat_le r.start a && nat_lt a r.end) ranges
    (λ k d within. misses (get_or ranges k d) a (out k d within))

-- ---- the pool

last_fails : (b c : Bool) → (b && (c && false)) ≡ false
last_fails true true = refl
last_fails true false = refl
last_fails false c = refl

first_fail : (b c d : Bool) → (b && c) ≡ false → (b && (c && d)) ≡ false
first_fail true true d fails = absurd (true≢false fails)
first_fail true false d fails = refl
first_fail false c d fails = refl

scrubbed_kept : (pool : Range ℕ) (keep : List (Range ℕ)) (bytes : List ℕ) (a : ℕ)
    → is_in_ranges keep a ≡ true → scrubbed_byte pool keep bytes a ≡ slice_index bytes a
scrubbed_kept pool keep bytes a kept =
    rw (kept, last_fails (nat_le pool.start a) (nat_lt a pool.end)) refl

scrubbed_away : (pool : Range ℕ) (keep : List (Range ℕ)) (bytes : List ℕ) (a : ℕ) → ¬ IsIn pool a
    → scrubbed_byte pool keep bytes a ≡ slice_index bytes a
scrubbed_away pool keep bytes a away =
    rw (first_fail (nat_le pool.start a) (nat_lt a pool.end) (not (is_in_ranges keep a))
    (misses pool a away)) refl

scrubbed_cleared : (pool : Range ℕ) (keep : List (Range ℕ)) (bytes : List ℕ) (a : ℕ) → IsIn pool a
    → is_in_ranges keep a ≡ false → scrubbed_byte pool keep bytes a ≡ 0
scrubbed_cleared pool keep bytes a here lost =
    let low = here.0 in
    let high = here.1 in
    rw lost (grind (arith, nat_tests))

-- parts that were loaded are kept when the rest of the pool is cleared
pub after_scrub : (pool : Range ℕ) (parts : List Part) (old loaded new : List ℕ)
    → All
    (λ part. (a : ℕ) → part.address ≤ a → a < part.address + length part.bytes
    → slice_index loaded a ≡ slice_index part.bytes (a - part.address)) parts
    → ((a : ℕ) → All (λ part. ¬ Spans part a) parts → slice_index loaded a ≡ slice_index old a)
    → ((a : ℕ) → slice_index new a ≡ scrubbed_byte pool (map part_range parts) loaded a)
    → IsMemoryAfter pool parts old new
after_scrub pool parts old loaded new in_parts elsewhere after =
    let keep : List (Range ℕ) = map part_range parts in
    record {
      in_parts = λ k d within a span.
          let this : get_or keep k (part_range d) ≡ part_range (get_or parts k d) =
          get_or-map part_range parts k d in
          let kept : is_in_ranges keep a ≡ true =
          has_one keep k a (part_range d) (rw length-map within) (rw this span.0)
          (rw this span.1) in
          after a ∙ scrubbed_kept pool keep loaded a kept ∙ in_parts k d within a span.0 span.1;
      in_pool =
          λ a out here.
          after a
          ∙ scrubbed_cleared pool keep loaded a here
          (has_none keep a (All-map (λ (r : Range ℕ). ¬ IsIn r a) part_range parts out));
      elsewhere = λ a out away. after a ∙ scrubbed_away pool keep loaded a away ∙ elsewhere a out;
    }

-- so memory reads back there as before
pub held_on : (pool : Range ℕ) (places : List Place) (loaded new : List ℕ)
    → length new ≡ length loaded
    → ((a : ℕ) → slice_index new a ≡ scrubbed_byte pool (map place_range places) loaded a)
    → All (λ place. place.address + place.length ≤ length loaded) places
    → map (part_in new) places ≡ map (part_in loaded) places
held_on pool places loaded new size after inside =
    map_same (part_in new) (part_in loaded) places (λ k d within.
    let keep : List (Range ℕ) = map place_range places in
    let place = get_or places k d in
    let here = inside k d within in
    let this : get_or keep k (place_range d) ≡ place_range place =
    get_or-map place_range places k d in
    let read : List ℕ = slice_range new place.address (place.address + place.length) in
    let was : List ℕ = slice_range loaded place.address (place.address + place.length) in
    let wide : length read ≡ place.length = search (rules, places_) in
    let long : length was ≡ place.length = search (rules, places_) in
    ap (placed_part place)
    (same_lists read was (wide ∙ sym long) (λ (j e : ℕ) (below : j < length read).
    let kept : is_in_ranges keep (place.address + j) ≡ true =
    has_one keep k (place.address + j) (place_range d) (rw length-map within)
    (rw this (omega arith)) (rw this (omega arith)) in
    let same =
    after (place.address + j) ∙ scrubbed_kept pool keep loaded (place.address + j) kept in
    grind (arith, places_))))

-- what memory was before its pool changed does not count
pub after_before : (pool : Range ℕ) (parts : List Part) (first old new : List ℕ)
    → IsSameOutside pool first old → IsMemoryAfter pool parts old new → IsMemoryAfter pool parts first new
after_before pool parts first old new outside after = record {
  in_parts = after.in_parts;
  in_pool = after.in_pool;
  elsewhere = λ a out away. after.elsewhere a out away ∙ outside a (beside pool a away);
}
  where
    beside : (pool : Range ℕ) (a : ℕ) → ¬ IsIn pool a → (a < pool.start) ⊎ (pool.end ≤ a)
    beside pool a away = elim (cases_lt a pool.start) [
      | inl below ↦ inl below
      | inr at_least ↦ elim (cases_lt a pool.end) [
        | inl within ↦ absurd (away (at_least, within))
        | inr past ↦ inr past
      ]
    ]
