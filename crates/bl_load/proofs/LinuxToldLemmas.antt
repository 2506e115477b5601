-- The row of an initrd that no machine can hold may be told shorter; and how long an initrd is that
-- has a place.
use Rattle.std.proofs.Common.{◌≡◌, ◌<◌, ◌≤◌, ◌+◌, ◌-◌, ◌^◌, ℕ, List, [], ◌∷◌, ◌++◌, length, arith}
use Rattle.std.proofs.Common.{ap, subst, All, inl, inr}
use Rattle.std.specs.Prelude.{max}
use Rattle.std.proofs.lemmas.List.Elements.{All-head, All-tail}
use Rattle.std.specs.declared.ops.Range.{Range}
use Rattle.bl_map.specs.MachineFacts.{MachineFacts}
use Rattle.bl_map.specs.Limits.{max_size}
use Rattle.bl_map.specs.PoolFrames.{round_up_to_frames}
use Rattle.bl_bzimage.specs.declared.setup.Setup.{Setup}
use Rattle.bl_plan.specs.Permitted.{IsPermitted}
use Rattle.bl_plan.specs.Placed.{ArePlaced, IsFirstPlaceFault, IsChosen, HasChoiceFault, row_place}
use Rattle.bl_plan.specs.Placed.{place_range}
use Rattle.bl_plan.specs.PlannerFacts.{put_in}
use Rattle.bl_plan.specs.declared.part.Choice.{Choice}
use Rattle.bl_plan.specs.declared.part.Choice.TheVariants.{Highest}
use Rattle.bl_plan.specs.declared.fault.PlanFault.{PlanFault}
use Rattle.bl_plan.specs.declared.fault.PlanFault.TheVariants.{NotUsable, Overlap, NoRoom, NoMemory}
use Rattle.bl_plan.specs.declared.part.Place.{Place}
use Rattle.bl_plan.specs.declared.part.Role.TheVariants.{Initrd}
use Rattle.bl_plan.specs.declared.part.Row.{Row}
use Rattle.bl_plan.specs.declared.protocol.Protocol.{Protocol}
use Rattle.bl_load.specs.LinuxRows.{front_rows, initrd_rows, linux_rows}
use Rattle.bl_load.specs.internal.Placing.{EndsLow, capped_length, capped_initrd_rows}
use Rattle.bl_load.specs.internal.Placing.{capped_linux_rows}
use Rattle.bl_load.proofs.NoRoomLemmas.{Alike, alike_lengths, behind_placed, behind_fault}
use Rattle.bl_load.proofs.RowLemmas.{some_frames}

-- ---- the initrd's row as the code tells it

pub alike : (size : ℕ) → 1 ≤ size → Alike (capped_length size) (round_up_to_frames size)
alike size some =
    let same : max size 1 ≡ size = omega arith in
    subst (λ (n : ℕ). Alike (capped_length size) (round_up_to_frames n)) same (alike_lengths size)

initrd_choice : Setup → Choice
initrd_choice setup = Highest 4096 4096 (setup.initrd_addr_max + 1)

module _ (facts : MachineFacts) (protocol : Protocol) (setup : Setup) where
  -- so many bytes are nowhere usable
  none_permitted : (taken : List (Range ℕ)) (align low high count a : ℕ) → max_size < count
      → IsPermitted facts taken count align low high a → ⊥
  none_permitted taken align low high count a long permitted =
      let last = (permitted.usable (a + count - 1) (omega arith) (omega arith)).below in
      omega arith

  no_chosen : (taken : List (Range ℕ)) (align low high count a : ℕ) → max_size < count
      → IsChosen facts taken count (Highest align low high) a → ⊥
  no_chosen taken align low high count a long chosen =
      none_permitted taken align low high count a long chosen.holds

  pub no_room : (taken : List (Range ℕ)) (align low high count other : ℕ) (fault : PlanFault)
      → max_size < count
      → HasChoiceFault facts taken other (Highest align low high) fault
      → HasChoiceFault facts taken count (Highest align low high) fault
  no_room taken align low high count other NotUsable long has = has
  no_room taken align low high count other Overlap long has = has
  no_room taken align low high count other NoRoom long has =
      λ a permitted. none_permitted taken align low high count a long permitted
  no_room taken align low high count other NoMemory long has = has

  told_initrd_placed : (initrd : List ℕ) (taken : List (Range ℕ)) (places : List Place)
      → ArePlaced facts taken (capped_initrd_rows setup initrd) places
      → ArePlaced facts taken (initrd_rows setup initrd) places
  told_initrd_placed [] taken places placed = placed
  told_initrd_placed (byte ∷ bytes) taken [] placed = absurd placed
  told_initrd_placed (byte ∷ bytes) taken (p ∷ places) placed =
      let size = length (byte ∷ bytes) in
      let high = setup.initrd_addr_max + 1 in
      elim (alike size (omega arith)) [
        | inl same ↦ (
          subst (λ (n : ℕ). IsChosen facts taken n (Highest 4096 4096 high) p.address)
              same placed.0,
          subst
              (λ (n : ℕ).
              p ≡ row_place
              (record {
                role = Initrd;
                index = 0;
                length = n;
                choice = Highest 4096 4096 high;
              }) p.address) same placed.1,
          placed.2,
        )
        | inr long ↦
            absurd (no_chosen taken 4096 4096 high (capped_length size) p.address long.0 placed.0)
      ]

  told_initrd_fault : (fault : PlanFault) (initrd : List ℕ) (taken : List (Range ℕ))
      → IsFirstPlaceFault facts taken (capped_initrd_rows setup initrd) fault
      → IsFirstPlaceFault facts taken (initrd_rows setup initrd) fault
  told_initrd_fault fault [] taken has = has
  told_initrd_fault fault (byte ∷ bytes) taken (inl here) =
      let size = length (byte ∷ bytes) in
      let high = setup.initrd_addr_max + 1 in
      elim (alike size (omega arith)) [
        | inl same ↦
            inl (subst
            (λ (n : ℕ). HasChoiceFault facts taken n (Highest 4096 4096 high) fault) same here)
        | inr long ↦
            inl
            (no_room taken 4096 4096 high (round_up_to_frames size) (capped_length size) fault
            long.1
            here)
      ]
  told_initrd_fault fault (byte ∷ bytes) taken (inr (a, chosen, later)) = absurd later

  pub linux_as_placed : (initrd : List ℕ) (places : List Place)
      → ArePlaced facts [] (capped_linux_rows protocol setup initrd) places
      → ArePlaced facts [] (linux_rows protocol setup initrd) places
  linux_as_placed initrd places placed =
      behind_placed facts (front_rows protocol setup) (capped_initrd_rows setup initrd)
      (initrd_rows setup initrd)
      (told_initrd_placed initrd) [] places placed

  pub linux_as_fault : (fault : PlanFault) (initrd : List ℕ)
      → IsFirstPlaceFault facts [] (capped_linux_rows protocol setup initrd) fault
      → IsFirstPlaceFault facts [] (linux_rows protocol setup initrd) fault
  linux_as_fault fault initrd has =
      behind_fault facts fault (front_rows protocol setup) (capped_initrd_rows setup initrd)
      (initrd_rows setup initrd)
      (told_initrd_fault fault initrd) [] has

  -- ---- the initrd has a place, which is as long as its file

  initrd_small : (initrd : List ℕ) (taken : List (Range ℕ)) (places : List Place)
      → ArePlaced facts taken (initrd_rows setup initrd) places → All EndsLow places
      → length initrd < 2 ^ 32
  initrd_small [] taken places placed low = omega arith
  initrd_small (byte ∷ bytes) taken [] placed low = absurd placed
  initrd_small (byte ∷ bytes) taken (p ∷ places) placed low =
      let here = All-head EndsLow p places low in
      let size : p.length ≡ round_up_to_frames (length (byte ∷ bytes)) =
      ap (λ (q : Place). q.length) placed.1 in
      let frames = some_frames (length (byte ∷ bytes)) (omega arith) in
      omega arith

  behind_small : (initrd : List ℕ) (first : List Row) (taken : List (Range ℕ)) (places : List Place)
      → ArePlaced facts taken (first ++ initrd_rows setup initrd) places → All EndsLow places
      → length initrd < 2 ^ 32
  behind_small initrd [] taken places placed low = initrd_small initrd taken places placed low
  behind_small initrd (row ∷ first) taken [] placed low = absurd placed
  behind_small initrd (row ∷ first) taken (p ∷ places) placed low =
      behind_small initrd first (put_in (place_range p) taken) places placed.2
      (All-tail EndsLow p places low)

  pub initrd_fits : (initrd : List ℕ) (places : List Place)
      → ArePlaced facts [] (linux_rows protocol setup initrd) places → All EndsLow places
      → length initrd < 2 ^ 32
  initrd_fits initrd places placed low =
      behind_small initrd (front_rows protocol setup) [] places placed low
