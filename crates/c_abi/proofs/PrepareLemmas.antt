-- What a plan says is what a load of it hands over.
use Rattle.std.proofs.Common.{◌≡◌, ◌∙◌, ℕ, List, map, get_or, ap, sym}
use Rattle.std.proofs.lemmas.Simd.{map-map}
use Rattle.bl_plan.specs.declared.part.Place.{Place}
use Rattle.bl_load.specs.declared.plan.Plan.{Plan}
use Rattle.bl_load.specs.HandoffFacts.{HandoffFacts}
use Rattle.bl_load.specs.Loadable.{lengths_of, IsLoadable}
use Rattle.bl_load.specs.PlannedPlaces.{planned_place}
use Rattle.bl_load.specs.PlanContents.{part_by, handover_by, handoff_by}
use Rattle.bl_load.proofs.HeldLemmas.{map_same, length-bytes_by}
use Rattle.bl_image.specs.ImageHandover.{part_place, handoff_of}

pub plan_says : {A : Type 0} (texts : List (List ℕ)) (size : ℕ) (plan : Plan A)
    → IsLoadable (lengths_of texts) size plan
    → handoff_by plan ≡ handoff_of (handover_by texts plan)
plan_says texts size plan loadable =
    let parts = plan.parts.items in
    let same : map planned_place parts ≡ map part_place (map (part_by texts) parts) =
    map_same planned_place (λ part. part_place (part_by texts part)) parts (λ k d within.
    let part = get_or parts k d in
    let place : ℕ → Place =
    λ n. record {
      role = part.place.role;
      index = part.place.index;
      address = part.place.address;
      length = n;
    } in
    ap place (sym (length-bytes_by texts part (loadable.backed k d within))))
    ∙ sym (map-map part_place (part_by texts) parts) in
    ap
    (λ (places : List Place).
    let h : HandoffFacts =
    record { protocol = plan.protocol; registers = plan.registers; places = places } in h) same
