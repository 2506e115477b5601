-- A load ends as its preparation did.
use Rattle.std.proofs.Common.{◌≡◌, ◌≤◌, ◌+◌, ◌∙◌, ℕ, suc, List, [], ◌∷◌, All, length, map, ap, sym}
use Rattle.std.proofs.Common.{subst, refl, arith, inl, inr, ◌⊎◌}
use Rattle.std.proofs.lemmas.List.{length-take, length-drop, length-map, get_or-map}
use Rattle.std.proofs.lemmas.List.Elements.{All-map}
use Rattle.bl_map.specs.MachineFacts.{MachineFacts}
use Rattle.bl_plan.specs.declared.part.Place.{Place}
use Rattle.bl_load.specs.declared.refusal.Refusal.{Refusal}
use Rattle.bl_load.specs.HandoffFacts.{HandoffFacts, max_parts}
use Rattle.bl_load.specs.EntryValue.{EntryValue}
use Rattle.bl_load.specs.Handover.{Handover, Part}
use Rattle.bl_load.specs.Parts.{IsHandover, IsRefusal}
use Rattle.bl_load.specs.PlanContents.{part_in, handover_in}
use Rattle.bl_load.proofs.HandoverLaws as handovers
use Rattle.bl_load.proofs.WrittenLemmas.{EndsWithin, length-written}
use Rattle.bl_image.specs.ImageHandover.{part_place, handoff_of}
use Rattle.bl_image.proofs.Spelled.{EndsIn, length-place_bytes}
use Rattle.c_records.specs.declared.load_fault.LoadFault.{LoadFault}
use Rattle.c_records.specs.declared.load_fault.LoadFault.TheVariants.{Misused, Refused, NoMemory}
use Rattle.c_records.specs.declared.given_fault.GivenFault.TheVariants as given_fault
use Rattle.c_records.specs.declared.given_records.EntryRecord.{EntryRecord}
use Rattle.c_records.specs.declared.given_records.MachineRecord.{MachineRecord}
use Rattle.c_records.specs.declared.load_fault.LoadFault.TheVariants.{Outside}
use Rattle.c_records.specs.Given.{texts_given, value_given}
use Rattle.c_abi.specs.Load.{IsEntryFault, IsLoaded, IsNotLoaded}
use Rattle.c_records.specs.EntryFaults.{IsEntrySound}
use Rattle.c_abi.specs.Load.{few_places, bad_machine, bad_memory, bad_entry}
use Rattle.c_records.specs.Machines.{IsMachineGiven, IsMachineSound}
use Rattle.c_abi.specs.Prepare.{IsPrepared}
use Rattle.c_abi.proofs.MachineLaws.{given_size, one_machine, sound_machine}
use Rattle.c_abi.proofs.FaultLaws.{sound_entry}

places_in : (bytes : List ℕ) (ps : List Place) → All (EndsIn bytes) ps
    → map part_place (map (part_in bytes) ps) ≡ ps
places_in bytes [] h = refl
places_in bytes (p ∷ ps) h =
    let size = length-place_bytes bytes p (h 0 p (omega arith)) in
    let made : ℕ → Place =
    λ n. record { role = p.role; index = p.index; address = p.address; length = n } in
    ap (λ (q : Place). q ∷ map part_place (map (part_in bytes) ps)) (ap made size)
    ∙ ap (λ (l : List Place). p ∷ l) (places_in bytes ps (λ k d within. h (suc k) d (omega arith)))

-- what memory holds at a place is at most as long
ends_within : (bytes : List ℕ) (size : ℕ) (ps : List Place)
    → All (λ place. place.address + place.length ≤ size) ps
    → All (EndsWithin size) (map (part_in bytes) ps)
ends_within bytes size ps inside = All-map (EndsWithin size) (part_in bytes) ps (λ k d within.
    let end = inside k d within in
    omega (arith, length-take {A = ℕ}, length-drop {A = ℕ}, end))

-- where no place of a handover lies below an address, no part does
none_low : (base : ℕ) (parts : List Part) → All (λ place. base ≤ place.address) (map part_place parts)
    → All (λ part. base ≤ part.address) parts
none_low base parts above = λ k d within.
    subst (λ (p : Place). base ≤ p.address)
    (get_or-map part_place parts k d (part_place d) within)
    (above k (part_place d) (omega (arith, within, length-map parts part_place)))

module _ (machine : MachineRecord) (entry : EntryRecord) where
  abbrev pub texts : List (List ℕ)
  texts = texts_given entry

  abbrev pub value : EntryValue
  value = value_given entry

  -- there is such a machine, and the entry is refused on it
  record IsRefusedOn (r : Refusal) : Type 0 where
    facts : MachineFacts
    machine_is : IsMachineGiven machine facts
    is : IsRefusal facts value r

  refused_on : (room base end : ℕ) (r : Refusal) (fault : LoadFault) → fault ≡ Refused r
      → IsNotLoaded machine entry texts room base end fault → IsRefusedOn r
  refused_on room base end r fault same (few_places few) = absurd cc
  refused_on room base end r fault same (bad_machine many (given_fault.Misused misuse) has) =
      absurd cc
  refused_on room base end r fault same (bad_machine many given_fault.NoMemory has) = absurd cc
  refused_on room base end r fault same (bad_memory many sound low) = absurd cc
  refused_on room base end r fault same (bad_entry many sound reaches found has) =
      let moved : IsEntryFault has.facts entry texts base (Refused r) =
      subst (IsEntryFault has.facts entry texts base) same has.is in
      record { facts = has.facts; machine_is = has.machine_is; is = moved.1 }

  -- a load leaves memory as long as it was
  length_loaded : (room base : ℕ) (old new : List ℕ) (loaded : HandoffFacts)
      → IsLoaded machine entry room base old new loaded → length new ≡ length old
  length_loaded room base old new loaded l =
      let size = given_size machine l.facts l.machine_is in
      let reaches = l.has_memory in
      ap length l.handed.after
      ∙ length-written (length old) (map (part_in new) loaded.places) old refl
      (ends_within new (length old) loaded.places (λ k d within.
      let inside = l.handed.inside k d within in omega (arith, inside, size, reaches)))

  pub one_handoff : (room space base : ℕ) (old new : List ℕ) (prepared loaded : HandoffFacts)
      → IsPrepared machine entry texts room prepared
      → IsLoaded machine entry space base old new loaded → loaded ≡ prepared
  one_handoff room space base old new prepared loaded p l =
      let held = handover_in new loaded.protocol loaded.registers loaded.places in
      let moved : IsHandover p.facts value held =
      subst (λ (f : MachineFacts). IsHandover f value held)
      (one_machine machine l.facts p.facts l.machine_is p.machine_is)
      l.handed.handover in
      let one : held ≡ p.handed.handover =
      handovers.one_handover p.facts value held p.handed.handover moved p.handed.handover_is in
      let size = given_size machine l.facts l.machine_is in
      let reaches = l.has_memory in
      let kept = length_loaded space base old new loaded l in
      let read : map part_place (map (part_in new) loaded.places) ≡ loaded.places =
      places_in new loaded.places (λ k d within.
      let inside = l.handed.inside k d within in omega (arith, inside, size, reaches, kept)) in
      ap
      (λ (ps : List Place).
      let h : HandoffFacts =
      record { protocol = loaded.protocol; registers = loaded.registers; places = ps } in h)
      (sym read)
      ∙ ap handoff_of one ∙ sym p.handed.handoff_is

  -- where no misuse stands and something is handed over, only memory can run out, or a part begins
  -- below the base
  pub only_memory : (facts : MachineFacts) (handover : Handover)
      → IsMachineGiven machine facts → IsMachineSound machine
      → IsEntrySound entry → IsHandover facts value handover
      → (room base end : ℕ) (fault : LoadFault) → machine.size ≤ end → max_parts ≤ room
      → IsNotLoaded machine entry texts room base end fault
      → (fault ≡ NoMemory)
      ⊎ ((fault ≡ Outside) × (¬ All (λ part. base ≤ part.address) handover.parts))
  only_memory facts h is sound names handed room base end fault large many (few_places few) =
      absurd (omega (arith, few, many))
  only_memory facts h is sound names handed room base end fault large many
      (bad_machine roomy (given_fault.Misused m) has) =
      absurd (sound_machine machine m sound has)
  only_memory facts h is sound names handed room base end fault large many
      (bad_machine roomy given_fault.NoMemory has) = inl refl
  only_memory facts h is sound names handed room base end fault large many
      (bad_memory roomy whole low) = absurd (omega (arith, low, large))
  only_memory facts h is sound names handed room base end fault large many
      (bad_entry roomy whole reaches (Misused misuse) has) =
      absurd (sound_entry entry misuse names has.is)
  only_memory facts h is sound names handed room base end fault large many
      (bad_entry roomy whole reaches (Refused r) has) =
      absurd
      (handovers.not_both facts value h r handed
      (subst (λ (f : MachineFacts). IsRefusal f value r)
      (one_machine machine has.facts facts has.machine_is is) has.is.1))
  only_memory facts h is sound names handed room base end fault large many
      (bad_entry roomy whole reaches Outside has) =
      let low = has.is.1 in
      let moved : IsHandover facts value low.handover =
      subst (λ (f : MachineFacts). IsHandover f value low.handover)
      (one_machine machine has.facts facts has.machine_is is) low.handed in
      let one : low.handover ≡ h =
      handovers.one_handover facts value low.handover h moved handed in
      inr (
        refl,
        subst (λ (x : Handover). ¬ All (λ part. base ≤ part.address) x.parts) one low.below,
      )
  only_memory facts h is sound names handed room base end fault large many
      (bad_entry roomy whole reaches NoMemory has) = inl refl

  -- where no part begins below the base, only memory can run out
  pub memory_alone : (base : ℕ) (handover : Handover) (fault : LoadFault)
      → All (λ part. base ≤ part.address) handover.parts
      → (fault ≡ NoMemory)
      ⊎ ((fault ≡ Outside) × (¬ All (λ part. base ≤ part.address) handover.parts))
      → fault ≡ NoMemory
  memory_alone base handover fault above (inl is) = is
  memory_alone base handover fault above (inr (is, below)) = absurd (below above)

  pub one_of_two : (base : ℕ) (handover : Handover) (fault : LoadFault)
      → (fault ≡ NoMemory)
      ⊎ ((fault ≡ Outside) × (¬ All (λ part. base ≤ part.address) handover.parts))
      → (fault ≡ NoMemory) ⊎ (fault ≡ Outside)
  one_of_two base handover fault (inl is) = inl is
  one_of_two base handover fault (inr (is, below)) = inr is

  -- the parts of what was prepared, where its places are at the base or above
  pub prepared_above : (room base : ℕ) (prepared : HandoffFacts)
      → (p : IsPrepared machine entry texts room prepared)
      → All (λ place. base ≤ place.address) prepared.places
      → All (λ part. base ≤ part.address) p.handed.handover.parts
  prepared_above room base prepared p above =
      none_low base p.handed.handover.parts
      (subst (λ (h : HandoffFacts). All (λ place. base ≤ place.address) h.places)
      p.handed.handoff_is above)

  pub one_refusal : (room base end space other last : ℕ) (r s : Refusal)
      → IsNotLoaded machine entry texts room base end (Refused r)
      → IsNotLoaded machine entry texts space other last (Refused s) → s ≡ r
  one_refusal room base end space other last r s a b =
      let on = refused_on room base end r (Refused r) refl a in
      let by = refused_on space other last s (Refused s) refl b in
      handovers.one_refusal on.facts value s r
      (subst (λ (f : MachineFacts). IsRefusal f value s)
      (one_machine machine by.facts on.facts by.machine_is on.machine_is) by.is)
      on.is

  pub never_loaded : (room low end space base : ℕ) (old new : List ℕ) (r : Refusal)
      (loaded : HandoffFacts)
      → IsNotLoaded machine entry texts room low end (Refused r)
      → IsLoaded machine entry space base old new loaded → ⊥
  never_loaded room low end space base old new r loaded not l =
      let on = refused_on room low end r (Refused r) refl not in
      let held = handover_in new loaded.protocol loaded.registers loaded.places in
      handovers.not_both l.facts value held r l.handed.handover
      (subst (λ (f : MachineFacts). IsRefusal f value r)
      (one_machine machine on.facts l.facts on.machine_is l.machine_is) on.is)
