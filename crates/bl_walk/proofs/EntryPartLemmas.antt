-- The part that the kernel is entered in.
use Rattle.std.proofs.Common.{◌≡◌, ◌+◌, ◌-◌, ◌<◌, ◌≤◌, ◌&&◌, ℕ, Bool, true, List, length, get_or}
use Rattle.std.proofs.Common.{replicate, Some, nat_eq, nat_le, nat_lt, sym, ap, ◌∙◌, arith}
use Rattle.std.proofs.Common.{AllPairs, length-append}
use Rattle.std.specs.List.{list_any}
use Rattle.std.proofs.lemmas.Bool.{le-leb, leb-true, ltb-true, lt-ltb, eq-eqb}
use Rattle.std.proofs.lemmas.List.{get_or-map, length-map, length-replicate}
use Rattle.std.proofs.lemmas.List.Folds.{Any-from_list_any}
use Rattle.bl_plan.specs.AddressOrder.{places_in_order, place_key}
use Rattle.bl_plan.specs.RoleNumbers.{role_number}
use Rattle.bl_plan.specs.declared.part.Place.{Place}
use Rattle.bl_plan.specs.declared.part.Role.{Role}
use Rattle.bl_plan.specs.declared.part.Role.TheVariants.{Kernel}
use Rattle.bl_plan.proofs.OrderCountLemmas.{list_any-in_order}
use Rattle.bl_load.specs.Handover.{end_of}
use Rattle.bl_walk.specs.State.{is_in_kernel}
use Rattle.bl_walk.proofs.StateLemmas.{entered_part}
use Rattle.bl_walk.proofs.PartLemmas.{found_there, both_true, part_of, parts_of}

-- ---- the part that the kernel is entered in

-- whether a place of the kernel holds an address
abbrev pub kernel_holds : ℕ → Place → Bool
kernel_holds address place =
    nat_eq (role_number place.role) (role_number Kernel)
    && (nat_le place.address address && nat_lt address (place.address + place.length))

pub holds_by : (address : ℕ) (place : Place) → place.role ≡ Kernel → place.address ≤ address
    → address < place.address + place.length → kernel_holds address place ≡ true
holds_by address place role from below =
    let named = eq-eqb (role_number place.role) (role_number Kernel) (ap role_number role) in
    rw (
      named,
      le-leb place.address address from,
      lt-ltb address (place.address + place.length) below,
    )

module _ (places : List Place) (content : Role → ℕ → List ℕ)
    (apart : AllPairs (λ p q. end_of p ≤ q.address) (parts_of places content)) where
  entered_at : (address k : ℕ) (q : Place) → k < length (places_in_order places)
      → get_or (places_in_order places) k q ≡ q
      → kernel_holds address q ≡ true → is_in_kernel (parts_of places content) address ≡ true
  entered_at address k q within is passes =
      let parts = parts_of places content in
      let named : Bool = nat_eq (role_number q.role) (role_number Kernel) in
      let over : Bool = nat_le q.address address in
      let under : Bool = nat_lt address (q.address + q.length) in
      let split = both_true named (over && under) passes in
      let bounds = both_true over under split.1 in
      let from = leb-true q.address address bounds.0 in
      let below = ltb-true address (q.address + q.length) bounds.1 in
      let held = content q.role q.index in
      let part = part_of content q in
      let here : get_or parts k part ≡ part =
      get_or-map (part_of content) (places_in_order places) k q part within
      ∙ ap (part_of content) is in
      let many : length parts ≡ length (places_in_order places) =
      length-map (places_in_order places) (part_of content) in
      let zeros = length-replicate {A = ℕ} (q.length - length held) 0 in
      let size = length-append held (replicate (q.length - length held) 0) in
      let low : (get_or parts k part).address ≤ address = rw here from in
      let high : address + 1 ≤ end_of (get_or parts k part) =
      rw here (omega (arith, size, zeros)) in
      let found =
      found_there parts address 1 k part apart (omega arith) (omega arith) low high
      ∙ ap Some here in
      sym (entered_part parts address part (sym found)) ∙ split.0

  pub entered_in : (address : ℕ) → list_any (kernel_holds address) places ≡ true
      → is_in_kernel (parts_of places content) address ≡ true
  entered_in address held =
      let test = kernel_holds address in
      let any =
      Any-from_list_any test (places_in_order places)
      (list_any-in_order place_key test places ∙ held) in
      entered_at address any.0 any.1 any.2 any.3 any.4
