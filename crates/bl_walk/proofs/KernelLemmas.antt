-- The kernel's parts among an entry's parts.
use Rattle.std.proofs.Common.{◌≡◌, ◌≤◌, ◌++◌, ◌∷◌, ℕ, Bool, true, false, List, [], map, length}
use Rattle.std.proofs.Common.{nat_eq, nat_lt, cond, None, get_or, refl, ap, ◌∙◌, arith, All}
use Rattle.std.proofs.Common.{length-append}
use Rattle.std.specs.List.{filter}
use Rattle.std.proofs.lemmas.Bool.{cond_both}
use Rattle.std.proofs.lemmas.List.{length-replicate}
use Rattle.std.proofs.lemmas.List.Elements.{All-head, All-tail}
use Rattle.std.specs.declared.ops.Range.{Range}
use Rattle.bl_map.specs.MachineFacts.{MachineFacts}
use Rattle.bl_plan.specs.AddressOrder.{insert_sorted, places_in_order, in_order_among, place_key}
use Rattle.bl_plan.specs.Placed.{ArePlaced, place_range}
use Rattle.bl_plan.specs.PlannerFacts.{put_in}
use Rattle.bl_plan.specs.RoleNumbers.{role_number}
use Rattle.bl_plan.specs.declared.part.Place.{Place}
use Rattle.bl_plan.specs.declared.part.Role.{Role}
use Rattle.bl_plan.specs.declared.part.Role.TheVariants.{Kernel}
use Rattle.bl_plan.specs.declared.part.Row.{Row}
use Rattle.bl_plan.proofs.OrderLemmas.{in_order_all}
use Rattle.bl_load.specs.Handover.{zero_padded}
use Rattle.bl_load.specs.Parts.{content_of, handover_of}
use Rattle.bl_load.specs.internal.Placing.{HasRowLength}
use Rattle.bl_load.specs.KernelReading.{KernelReading, IsKernelReading}
use Rattle.bl_load.specs.Rows.{rows_of}
use Rattle.bl_load.specs.EntryValue.{EntryValue, lines_fault, lines_of}
use Rattle.bl_load.proofs.ReadingLaws.{reading_rowed, reading_short}
use Rattle.bl_load.proofs.RowPlaceLemmas.{Anywhere, each_place}
use Rattle.bl_walk.specs.Seen.{kernel_in}
use Rattle.bl_walk.specs.declared.seen.SeenPart.{SeenPart}
use Rattle.bl_walk.proofs.PartLemmas.{part_of}

abbrev pub is_kernel_place : Place → Bool
is_kernel_place place = nat_eq (role_number place.role) (role_number Kernel)

abbrev pub IsOfKernel : Place → Type 0
IsOfKernel place = is_kernel_place place ≡ true

abbrev pub IsOther : Place → Type 0
IsOther place = is_kernel_place place ≡ false

abbrev pub seen_place : Place → SeenPart
seen_place place = record { address = place.address; length = place.length }

-- ---- the kernel's parts stand at its places

abbrev IsSized : (Role → ℕ → List ℕ) → Place → Type 0
IsSized content place = length (part_of content place).bytes ≡ place.length

kernel_parts : (content : Role → ℕ → List ℕ) (places : List Place) → All (IsSized content) places
    → kernel_in (map (part_of content) places) ≡ map seen_place (filter is_kernel_place places)
kernel_parts content [] sized = refl
kernel_parts content (p ∷ places) sized =
    let rest = kernel_parts content places (All-tail (IsSized content) p places sized) in
    let size = All-head (IsSized content) p places sized in
    elim (is_kernel_place p) as (λ b.
    map
    (λ part.
    (let s : SeenPart = record { address = part.address; length = length part.bytes } in
    s))
    (cond b
    (part_of content p
    ∷ filter
    (λ part. nat_eq (role_number part.role) (role_number Kernel))
    (map (part_of content) places))
    (filter
    (λ part.
    nat_eq (role_number part.role) (role_number Kernel))
    (map (part_of content) places)))
    ≡ map seen_place (cond b (p ∷ filter is_kernel_place places) (filter is_kernel_place places))) [
      | true ↦ (λ i. record { address = p.address; length = size i } ∷ rest i)
      | false ↦ rest
    ]

filled_length : (count : ℕ) (content : List ℕ) → length content ≤ count
    → length (zero_padded count content) ≡ count
filled_length count content short = rw (length-append, length-replicate) (omega arith)

module _ (facts : MachineFacts) (value : EntryValue) (reading : KernelReading) (places : List Place)
    (lines : lines_fault (lines_of value) ≡ None)
    (read : IsKernelReading facts value reading)
    (placed : ArePlaced facts [] (rows_of facts value reading) places) where
  all_sized : All (IsSized (content_of facts value reading places)) (places_in_order places)
  all_sized k d within =
      let rowed =
      in_order_all place_key (HasRowLength facts value reading) places
      (reading_rowed facts value reading places placed) k d within in
      filled_length
      _ _ (reading_short facts value reading places (get_or (places_in_order places) k d) lines read
      rowed)

  pub kernel_shown : kernel_in (handover_of facts value reading places).parts
      ≡ map seen_place (filter is_kernel_place (places_in_order places))
  kernel_shown = kernel_parts (content_of facts value reading places) (places_in_order places) all_sized

-- ---- the kernel's places come first among the rows

put_other : (p : Place) (places : List Place) → IsOther p
    → filter is_kernel_place (insert_sorted place_key p places) ≡ filter is_kernel_place places
put_other p [] other = rw other
put_other p (next ∷ places) other =
    cond_both (nat_lt p.address next.address) (p ∷ next ∷ places)
    (next ∷ insert_sorted place_key p places)
    (λ ys. filter is_kernel_place ys ≡ filter is_kernel_place (next ∷ places))
    (λ e. rw other refl)
    (λ e.
    ap (λ (rest : List Place). cond (is_kernel_place next) (next ∷ rest) rest)
    (put_other p places other))

among_others : (sorted others : List Place) → All IsOther others
    → filter is_kernel_place (in_order_among place_key sorted others)
    ≡ filter is_kernel_place sorted
among_others sorted [] all = refl
among_others sorted (p ∷ others) all =
    among_others (insert_sorted place_key p sorted) others (All-tail IsOther p others all)
    ∙ put_other p sorted (All-head IsOther p others all)

among_both : (sorted first others : List Place)
    → in_order_among place_key sorted (first ++ others)
    ≡ in_order_among place_key (in_order_among place_key sorted first) others
among_both sorted [] others = refl
among_both sorted (p ∷ first) others = among_both (insert_sorted place_key p sorted) first others

all_of_kernel : (places : List Place) → All IsOfKernel places
    → filter is_kernel_place places ≡ places
all_of_kernel [] all = refl
all_of_kernel (p ∷ places) all =
    let here = All-head IsOfKernel p places all in
    rw here
    (ap (λ (rest : List Place). p ∷ rest)
    (all_of_kernel places (All-tail IsOfKernel p places all)))

pub kernel_places : (first others : List Place) → All IsOfKernel first → All IsOther others
    → filter is_kernel_place (places_in_order (first ++ others)) ≡ places_in_order first
kernel_places first others of_kernel other =
    ap (filter is_kernel_place) (among_both [] first others)
    ∙ among_others (places_in_order first) others other
    ∙ all_of_kernel (places_in_order first) (in_order_all place_key IsOfKernel first of_kernel)

-- places of rows and of the rows after them
pub record AreSplit (facts : MachineFacts) (taken : List (Range ℕ)) (first rest : List Row)
    (places : List Place) : Type 0 where
  pub places_first : List Place
  pub places_rest : List Place
  pub taken_then : List (Range ℕ)
  pub both : places ≡ places_first ++ places_rest
  pub placed_first : ArePlaced facts taken first places_first
  pub placed_rest : ArePlaced facts taken_then rest places_rest

pub are_split : (facts : MachineFacts) (taken : List (Range ℕ)) (first rest : List Row)
    (places : List Place) → ArePlaced facts taken (first ++ rest) places
    → AreSplit facts taken first rest places
are_split facts taken [] rest places placed =
    record {
      places_first = [];
      places_rest = places;
      taken_then = taken;
      both = refl;
      placed_first = tt;
      placed_rest = placed;
    }
are_split facts taken (row ∷ first) rest [] placed = absurd placed
are_split facts taken (row ∷ first) rest (p ∷ places) placed =
    let later = are_split facts (put_in (place_range p) taken) first rest places placed.2 in
    record {
      places_first = p ∷ later.places_first;
      places_rest = later.places_rest;
      taken_then = later.taken_then;
      both = ap (λ (ps : List Place). p ∷ ps) later.both;
      placed_first = (placed.0, placed.1, later.placed_first);
      placed_rest = later.placed_rest;
    }

-- so those of the first rows are the kernel's, if each of them is one and no other is
pub first_places : (facts : MachineFacts) (first rest : List Row) (places : List Place)
    (split : AreSplit facts [] first rest places)
    → All (Anywhere IsOfKernel) first → All (Anywhere IsOther) rest
    → filter is_kernel_place (places_in_order places) ≡ places_in_order split.places_first
first_places facts first rest places split of_kernel other =
    ap (λ (ps : List Place). filter is_kernel_place (places_in_order ps)) split.both
    ∙ kernel_places split.places_first split.places_rest
    (each_place facts IsOfKernel [] first split.places_first of_kernel split.placed_first)
    (each_place facts IsOther split.taken_then rest split.places_rest other split.placed_rest)
