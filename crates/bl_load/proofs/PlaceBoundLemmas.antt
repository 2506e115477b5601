-- Where the places of an entry's rows lie, and that they ascend if they stand in address order.
use Rattle.std.proofs.Common.{◌≡◌, ◌≤◌, ◌+◌, ◌-◌, ◌^◌, ℕ, List, [], length, get_or, arith, All}
use Rattle.std.proofs.Common.{AllPairs}
use Rattle.std.proofs.Common.{inl, inr}
use Rattle.std.proofs.lemmas.Bool.{cases_lt}
use Rattle.std.specs.declared.ops.Range.{Range}
use Rattle.bl_map.specs.MachineFacts.{MachineFacts}
use Rattle.bl_plan.specs.Placed.{ArePlaced, IsWellFormedRow, IsApart}
use Rattle.bl_plan.specs.declared.part.Row.{Row}
use Rattle.bl_plan.specs.declared.part.Place.{Place}
use Rattle.bl_plan.specs.declared.protocol.Protocol.{Protocol}
use Rattle.bl_plan.proofs.PlaceLaws.{all_usable, all_apart}
use Rattle.bl_plan.specs.AddressOrder.{place_key, places_in_order}
use Rattle.bl_load.specs.declared.registers.Registers.{Registers}
use Rattle.bl_load.specs.HandoffFacts.{Ascends, IsWellFormedHandoff, IsRoleAllowed, max_parts}
use Rattle.bl_load.specs.Protocols.{is_wide}
use Rattle.bl_load.specs.Registers.{are_wide}
use Rattle.bl_plan.proofs.OrderLemmas.{in_order_all, in_order_pairs, in_order_sorted}
use Rattle.bl_plan.proofs.OrderCountLemmas.{length-in_order}
use Rattle.bl_load.proofs.RowPlaceLemmas.{Anywhere, each_place}

-- ---- where they lie

abbrev IsFilled : Place → Type 0
IsFilled place = 1 ≤ place.length

filled_anywhere : (row : Row) → IsWellFormedRow row → Anywhere IsFilled row
filled_anywhere row is a = is.filled

-- each place has some bytes
pub are_filled : (facts : MachineFacts) (taken : List (Range ℕ)) (rows : List Row)
    (places : List Place) → ArePlaced facts taken rows places → All IsWellFormedRow rows → All IsFilled places
are_filled facts taken rows places placed are =
    each_place facts IsFilled taken rows places
    (λ i d within. filled_anywhere (get_or rows i d) (are i d within)) placed

-- each lies inside memory
pub are_inside : (facts : MachineFacts) (taken : List (Range ℕ)) (rows : List Row)
    (places : List Place) → ArePlaced facts taken rows places → All IsWellFormedRow rows
    → All (λ p. p.address + p.length ≤ facts.size) places
are_inside facts taken rows places placed are i d within =
    let p = get_or places i d in
    let some = are_filled facts taken rows places placed are i d within in
    let last =
    (all_usable facts taken rows places placed i d within (p.address + p.length - 1)
    (omega arith) (omega arith)).in_size in
    omega arith

-- and below the last frame of 4 GiB
pub are_below : (facts : MachineFacts) (taken : List (Range ℕ)) (rows : List Row)
    (places : List Place) → ArePlaced facts taken rows places → All IsWellFormedRow rows
    → All (λ p. p.address + p.length ≤ 0xFFFFF000) places
are_below facts taken rows places placed are i d within =
    let p = get_or places i d in
    let some = are_filled facts taken rows places placed are i d within in
    let last =
    (all_usable facts taken rows places placed i d within (p.address + p.length - 1)
    (omega arith) (omega arith)).below in
    omega arith

-- ---- in address order

apart_back : (p q : Place) → IsApart p q → IsApart q p
apart_back p q h = λ a x y. h a y x

-- places that are apart and not empty ascend once they are in order
pub in_order_ascends : (places : List Place) → All IsFilled places → AllPairs IsApart places
    → AllPairs Ascends (places_in_order places)
in_order_ascends places filled apart i j d ij within =
    let sorted = places_in_order places in
    let some = in_order_all place_key IsFilled places filled j d within in
    let order = in_order_sorted place_key places i j d ij within in
    let other = in_order_pairs place_key IsApart apart_back places apart i j d ij within in
    elim (cases_lt (get_or sorted j d).address
    ((get_or sorted i d).address + (get_or sorted i d).length)) [
      | inl meet ↦
          absurd (other (get_or sorted j d).address (order, meet) (omega arith, omega arith))
      | inr free ↦ free
    ]

-- at most 256 places of rows, in order, are what a handoff keeps
pub handoff_kept : (facts : MachineFacts) (protocol : Protocol) (registers : Registers)
    (rows : List Row) (places : List Place) → All IsWellFormedRow rows → length places ≤ max_parts
    → ArePlaced facts [] rows places → are_wide registers ≡ is_wide protocol
    → All (λ (p : Place). IsRoleAllowed (is_wide protocol) p.role) places
    → IsWellFormedHandoff
    (record { protocol = protocol; registers = registers; places = places_in_order places })
handoff_kept facts protocol registers rows places are few placed width roles =
    let filled = are_filled facts [] rows places placed are in
    let same = length-in_order place_key places in
    record {
      width = width;
      roles =
          in_order_all place_key (λ (p : Place). IsRoleAllowed (is_wide protocol) p.role) places roles;
      few = omega (arith, few, same);
      filled = in_order_all place_key IsFilled places filled;
      below =
          in_order_all place_key (λ (p : Place). p.address + p.length ≤ 2 ^ 32) places
          (λ i d within. let low = are_below facts [] rows places placed are i d within in
          omega arith);
      ascending = in_order_ascends places filled (all_apart facts [] rows places placed);
    }
