-- What memory holds at the places of a plan once it is loaded.
use Rattle.std.proofs.Common.{◌≡◌, ℕ, ◌+◌, ◌<◌, ◌≤◌, inl, inr, slice_index, List, [], ◌∷◌, length}
use Rattle.std.proofs.Common.{get_or, arith, rules, refl, subst, sym, ap, ◌∙◌, suc, All, AllPairs}
use Rattle.std.proofs.Common.{map, slice_range, length-append}
use Rattle.std.proofs.Math.ListN.{get_or-map}
use Rattle.std.proofs.lemmas.List.{places, same_lists, length-map, length-replicate}
use Rattle.std.proofs.lemmas.List.{get_or-map as get_or-map_at}
use Rattle.std.proofs.lemmas.List.Elements.{All-map}
use Rattle.std.proofs.lemmas.Bool.{cases_lt}
use Rattle.std.proofs.lemmas.Simd.{map-map}
use Rattle.std.specs.declared.ops.Range.{Range}
use Rattle.bl_mem.specs.FileSet.{AllApartFrom, IsApartFrom, nth_file}
use Rattle.bl_mem.specs.Memory.{AllHaveRoom, HasRoom}
use Rattle.bl_plan.specs.declared.part.Place.{Place}
use Rattle.bl_plan.specs.Placed.{Covers, place_range}
use Rattle.bl_load.specs.declared.plan.Content.{Content}
use Rattle.bl_load.specs.declared.plan.Content.TheVariants.{Own, File, Block}
use Rattle.bl_load.specs.declared.plan.PlannedPart.{PlannedPart}
use Rattle.bl_load.specs.declared.plan.Plan.{Plan}
use Rattle.bl_load.specs.Handover.{placed_part, overwrite_parts}
use Rattle.bl_load.specs.PlannedPlaces.{planned_place}
use Rattle.bl_load.specs.PlanContents.{content_by, bytes_by, part_by, part_in, places_of}
use Rattle.bl_load.specs.HandoffFacts.{Ascends}
use Rattle.bl_load.specs.internal.Loading.{CanLoad}
use Rattle.bl_load.specs.Loadable.{lengths_of, content_length, IsInFiles, IsBacked, IsLoadable}
use Rattle.bl_load.proofs.BlockLemmas.{length-block_of}
use Rattle.bl_load.proofs.WrittenLemmas.{EndsWithin, IsBefore, Has, length-written, written_in}
use Rattle.bl_load.proofs.WrittenLemmas.{written_elsewhere}

-- two functions that agree on a list
pub map_same : {X Y : Type 0} (f g : X → Y) (xs : List X)
    → ((k : ℕ) (d : X) → k < length xs → f (get_or xs k d) ≡ g (get_or xs k d))
    → map f xs ≡ map g xs
map_same f g [] h = refl
map_same {Y = Y} f g (x ∷ xs) h =
    ap (λ (y : Y). y ∷ map f xs) (h 0 x (omega arith))
    ∙ ap (λ (ys : List Y). g x ∷ ys) (map_same f g xs (λ k d within. h (suc k) d (omega arith)))

-- what holds of each element of a map
pub all_under : {X Y : Type 0} (P : Y → Type 0) (f : X → Y) (xs : List X) → All P (map f xs)
    → All (λ x. P (f x)) xs
all_under P f xs h k d within = subst P (get_or-map f xs k d) (h k (f d) (rw length-map within))

pub pairs_under : {X Y : Type 0} (R : Y → Y → Type 0) (f : X → Y) (xs : List X)
    → AllPairs R (map f xs) → AllPairs (λ x y. R (f x) (f y)) xs
pairs_under R f xs h i j d ij within =
    subst (λ y. R (f (get_or xs i d)) y) (get_or-map f xs j d)
    (subst (λ x. R x (get_or (map f xs) j (f d))) (get_or-map f xs i d)
    (h i j (f d) ij (rw length-map within)))

pub AllPairs-map : {X Y : Type 0} (R : Y → Y → Type 0) (f : X → Y) (xs : List X)
    → AllPairs (λ x y. R (f x) (f y)) xs → AllPairs R (map f xs)
AllPairs-map R f [] h i j d ij within = absurd (omega arith)
AllPairs-map R f (x ∷ xs) h i j d ij within =
    let count : length (map f (x ∷ xs)) ≡ length (x ∷ xs) = length-map (x ∷ xs) f in
    subst (λ y. R y (get_or (map f (x ∷ xs)) j d))
    (sym (get_or-map_at f (x ∷ xs) i x d (omega arith)))
    (subst (λ y. R (f (get_or (x ∷ xs) i x)) y) (sym (get_or-map_at f (x ∷ xs) j x d (omega arith)))
    (h i j x ij (omega arith)))

-- a file's length, by the list of lengths
pub length_at : (texts : List (List ℕ)) (file : ℕ)
    → slice_index (lengths_of texts) file ≡ length (nth_file texts file)
length_at texts file = get_or-map (λ (text : List ℕ). length text) texts file []

-- a file of the list of lengths is one of the texts
pub within_texts : (texts : List (List ℕ)) (file : ℕ) → file < length (lengths_of texts)
    → file < length texts
within_texts texts file h =
    let e = length-map texts (λ (text : List ℕ). length text) in omega (arith, h, e)

-- a content that is there has as many bytes as it says
pub length-content_by : {A : Type 0} (texts : List (List ℕ)) (content : Content A)
    → IsInFiles (lengths_of texts) content
    → length (content_by texts content) ≡ content_length content
length-content_by texts (Own bytes) there = refl
length-content_by texts (File file offset count) there =
    let size = length_at texts file in
    elim (cases_lt 0 count) [
      | inl some ↦ let inside = there.1 (omega arith) in search (rules, places)
      | inr none ↦ search (rules, places)
    ]
length-content_by texts (Block file segments) there =
    length-block_of (nth_file texts file) segments.items

-- a part has as many bytes as its place
pub length-bytes_by : {A : Type 0} (texts : List (List ℕ)) (part : PlannedPart A)
    → IsBacked (lengths_of texts) part → length (bytes_by texts part) ≡ part.place.length
length-bytes_by texts part backed =
    let own = length-content_by texts part.content backed.there in
    let short = backed.short in
    rw (length-append, length-replicate) (omega arith)

module _ {A : Type 0} (texts : List (List ℕ)) (size : ℕ) (plan : Plan A)
    (loadable : IsLoadable (lengths_of texts) size plan) where
  -- a loadable plan can be loaded once its places have room
  pub can_load : (room holds : ℕ → Type 0) → AllHaveRoom room (map place_range (places_of plan))
      → AllApartFrom holds (map place_range (places_of plan))
      → All (CanLoad (lengths_of texts) size room holds) plan.parts.items
  can_load room holds has beside k d within =
      let backed = loadable.backed k d within in
      record {
        there = backed.there;
        short = backed.short;
        inside =
            all_under (λ (place : Place). place.address + place.length ≤ size) planned_place
            plan.parts.items loadable.inside k d within;
        writable =
            all_under
            (λ (place : Place). HasRoom room (place_range place).start (place_range place).end)
            planned_place plan.parts.items
            (all_under (λ (r : Range ℕ). HasRoom room r.start r.end) place_range
            (places_of plan) has)
            k d within;
        beside =
            all_under
            (λ (place : Place). IsApartFrom holds (place_range place).start (place_range place).end)
            planned_place plan.parts.items
            (all_under (λ (r : Range ℕ). IsApartFrom holds r.start r.end) place_range (places_of plan)
            beside) k d within;
      }

  pub all_end_within : All (EndsWithin size) (map (part_by texts) plan.parts.items)
  all_end_within = All-map (EndsWithin size) (part_by texts) plan.parts.items (λ k d within.
      let inside =
      all_under (λ (place : Place). place.address + place.length ≤ size) planned_place
      plan.parts.items loadable.inside k d within in
      let count =
      length-bytes_by texts (get_or plan.parts.items k d) (loadable.backed k d within) in
      omega arith)

  pub all_are_before : AllPairs IsBefore (map (part_by texts) plan.parts.items)
  all_are_before = AllPairs-map IsBefore (part_by texts) plan.parts.items (λ i j d ij within.
      let up =
      pairs_under Ascends planned_place plan.parts.items loadable.kept.ascending i j d ij
      within in
      let count =
      length-bytes_by texts (get_or plan.parts.items i d) (loadable.backed i d (omega arith)) in
      omega arith)

  -- memory reads back as each part
  held_at : (m : List ℕ) (k : ℕ) (d : PlannedPart A) → length m ≡ size → k < length plan.parts.items
      → part_in (overwrite_parts (map (part_by texts) plan.parts.items) m)
      (get_or plan.parts.items k d).place ≡ part_by texts (get_or plan.parts.items k d)
  held_at m k d is within =
      let parts = map (part_by texts) plan.parts.items in
      let part = get_or plan.parts.items k d in
      let inside =
      all_under (λ (place : Place). place.address + place.length ≤ size) planned_place
      plan.parts.items loadable.inside k d within in
      let count = length-bytes_by texts part (loadable.backed k d within) in
      let total = length-written size parts m is all_end_within in
      let read : List ℕ =
      slice_range (overwrite_parts parts m) part.place.address
      (part.place.address + part.place.length) in
      let wide : length read ≡ part.place.length = search (rules, places) in
      let this : get_or parts k (part_by texts d) ≡ part_by texts part =
      get_or-map (part_by texts) plan.parts.items k d in
      ap (placed_part part.place)
      (same_lists read (bytes_by texts part) (omega arith)
      (λ (j e : ℕ) (below : j < length read).
      let there =
      written_in size parts m k (part.place.address + j) (part_by texts d) is all_end_within
      all_are_before (rw length-map within) (rw this (omega arith, omega arith)) in
      let here = rw this at there in
      grind (arith, places)))

  -- memory reads back as the parts
  pub held : (m : List ℕ) → length m ≡ size
      → map (part_in (overwrite_parts (map (part_by texts) plan.parts.items) m)) (places_of plan)
      ≡ map (part_by texts) plan.parts.items
  held m is =
      map-map (part_in (overwrite_parts (map (part_by texts) plan.parts.items) m)) planned_place plan.parts.items
      ∙ map_same (λ part. part_in (overwrite_parts (map (part_by texts) plan.parts.items) m) part.place)
      (part_by texts) plan.parts.items (λ k d within. held_at m k d is within)

  -- memory keeps what is in no place
  pub held_elsewhere : (m : List ℕ) (a : ℕ) → length m ≡ size
      → All (λ place. ¬ Covers place a) (places_of plan)
      → get_or (overwrite_parts (map (part_by texts) plan.parts.items) m) a 0 ≡ get_or m a 0
  held_elsewhere m a is out =
      written_elsewhere size (map (part_by texts) plan.parts.items) m a is all_end_within
      (All-map (λ p. Has p a → ⊥) (part_by texts) plan.parts.items (λ k d within. λ has.
      let count =
      length-bytes_by texts (get_or plan.parts.items k d) (loadable.backed k d within) in
      all_under (λ (place : Place). ¬ Covers place a) planned_place plan.parts.items out k d within
      (has.0, omega arith)))
