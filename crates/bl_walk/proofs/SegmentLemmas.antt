-- Segments in address order are the kernel's parts that are seen.
use Rattle.std.proofs.Common.{◌≡◌, ◌++◌, ◌∷◌, ℕ, suc, true, false, List, [], map, nat_lt, cond}
use Rattle.std.proofs.Common.{Some, None, Option, refl, sym, ap, ◌∙◌, All}
use Rattle.std.proofs.lemmas.List.Elements.{All-cons, All-nil}
use Rattle.std.specs.declared.ops.Range.{Range}
use Rattle.bl_map.specs.MachineFacts.{MachineFacts}
use Rattle.bl_mb2head.specs.declared.relocation.Relocation.{Relocation}
use Rattle.bl_mem.specs.declared.segment.Segment.{Segment}
use Rattle.bl_plan.specs.AddressOrder.{insert_sorted, places_in_order, in_order_among, in_order_by}
use Rattle.bl_plan.specs.AddressOrder.{segments_in_order}
use Rattle.bl_plan.specs.Placed.{ArePlaced, place_range}
use Rattle.bl_plan.specs.PlannerFacts.{put_in}
use Rattle.bl_plan.specs.declared.part.Place.{Place}
use Rattle.bl_plan.specs.declared.part.Role.TheVariants.{Kernel}
use Rattle.bl_load.specs.Addresses.{address_of}
use Rattle.bl_load.specs.KernelBlock.{span_of}
use Rattle.bl_load.specs.Parts.{entered_at}
use Rattle.bl_load.specs.Rows.{segment_rows, kernel_rows}
use Rattle.bl_load.proofs.RowPlaceLemmas.{Anywhere}
use Rattle.bl_walk.specs.SeenFacts.{SeenFacts}
use Rattle.bl_walk.specs.EntryShown.{ShowsSegments, segment_part}
use Rattle.bl_walk.specs.declared.seen.SeenPart.{SeenPart}
use Rattle.bl_walk.proofs.KernelLemmas.{IsOfKernel, seen_place}

-- ---- segments in address order

seen_key : SeenPart → ℕ
seen_key part = part.address

put_seen : {X : Type 0} (g : X → SeenPart) (x : X) (xs : List X)
    → map g (insert_sorted (λ y. (g y).address) x xs) ≡ insert_sorted seen_key (g x) (map g xs)
unfolding seen_key
put_seen g x [] = refl
put_seen {X = X} g x (next ∷ xs) =
    elim (nat_lt (g x).address (g next).address) as (λ b.
    map g (cond b (x ∷ next ∷ xs) (next ∷ insert_sorted (λ (y : X). (g y).address) x xs))
    ≡ cond b (g x ∷ g next ∷ map g xs) (g next ∷ insert_sorted seen_key (g x) (map g xs))) [
      | true ↦ refl
      | false ↦ ap (λ (rest : List SeenPart). g next ∷ rest) (put_seen g x xs)
    ]

among_seen : {X : Type 0} (g : X → SeenPart) (sorted xs : List X)
    → map g (in_order_among (λ y. (g y).address) sorted xs)
    ≡ in_order_among seen_key (map g sorted) (map g xs)
among_seen g sorted [] = refl
among_seen {X = X} g sorted (x ∷ xs) =
    among_seen g (insert_sorted (λ (y : X). (g y).address) x sorted) xs
    ∙ ap (λ (s : List SeenPart). in_order_among seen_key s (map g xs)) (put_seen g x sorted)

in_order_seen : (places : List Place) (segments : List Segment)
    → map seen_place places ≡ map segment_part segments
    → map seen_place (places_in_order places) ≡ map segment_part (segments_in_order segments)
in_order_seen places segments same =
    among_seen seen_place [] places ∙ ap (in_order_by seen_key) same
    ∙ sym (among_seen segment_part [] segments)

segments_seen : (facts : MachineFacts) (taken : List (Range ℕ)) (k : ℕ) (segments : List Segment)
    (places : List Place) → ArePlaced facts taken (segment_rows k segments) places
    → map seen_place places ≡ map segment_part segments
segments_seen facts taken k [] [] placed = refl
segments_seen facts taken k [] (p ∷ places) placed = absurd placed
segments_seen facts taken k (s ∷ segments) [] placed = absurd placed
segments_seen facts taken k (s ∷ segments) (p ∷ places) placed =
    let at : p.address ≡ s.address = placed.0.0 in
    let size : p.length ≡ s.memsz = ap (λ (q : Place). q.length) placed.1 in
    let rest = segments_seen facts (put_in (place_range p) taken)
    (suc k) segments places placed.2 in
    λ i. record { address = at i; length = size i } ∷ rest i

segment_rows_of_kernel : (k : ℕ) (segments : List Segment)
    → All (Anywhere IsOfKernel) (segment_rows k segments)
segment_rows_of_kernel k [] = All-nil (Anywhere IsOfKernel)
segment_rows_of_kernel k (s ∷ segments) =
    All-cons (Anywhere IsOfKernel) _ (segment_rows (suc k) segments) (λ a. refl)
    (segment_rows_of_kernel (suc k) segments)

pub kernel_rows_of_kernel : (segments : List Segment) (given : Option Relocation)
    → All (Anywhere IsOfKernel) (kernel_rows segments given)
kernel_rows_of_kernel segments None = segment_rows_of_kernel 0 segments
kernel_rows_of_kernel segments (Some r) =
    All-cons (Anywhere IsOfKernel) _ [] (λ a. refl) (All-nil (Anywhere IsOfKernel))

-- a Multiboot2 kernel at its places
pub segments_shown : (facts : MachineFacts) (segments : List Segment) (entry : ℕ)
    (given : Option Relocation) (first others : List Place) (seen : SeenFacts)
    → ArePlaced facts [] (kernel_rows segments given) first
    → seen.entry ≡ entered_at entry segments given (address_of Kernel 0 (first ++ others))
    → seen.kernel ≡ map seen_place (places_in_order first) → ShowsSegments segments entry given seen
segments_shown facts segments entry None first others seen placed at kernel =
    (at, kernel ∙ in_order_seen first segments (segments_seen facts [] 0 segments first placed))
segments_shown facts segments entry (Some r) [] others seen placed at kernel = absurd placed
segments_shown facts segments entry (Some r) (p ∷ q ∷ first) others seen placed at kernel =
    absurd placed.2
segments_shown facts segments entry (Some r) (p ∷ []) others seen placed at kernel =
    let base : address_of Kernel 0 (p ∷ others) ≡ p.address =
    ap (λ (q : Place). address_of Kernel 0 (q ∷ others)) placed.1 in
    let size : p.length ≡ span_of segments = ap (λ (q : Place). q.length) placed.1 in (
      p.address,
      at ∙ ap (entered_at entry segments (Some r)) base,
      kernel ∙ (λ i. record { address = p.address; length = size i } ∷ []),
    )
