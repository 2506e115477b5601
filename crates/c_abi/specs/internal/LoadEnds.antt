-- How a load of an entry's value ends. Own.
use Rattle.std.specs.Prelude.{◌≡◌, ◌+◌, ◌≤◌, ℕ, List, All, Result, IfOk, IfErr, OnErr}
use Rattle.bl_map.specs.MachineFacts.{MachineFacts}
use Rattle.bl_load.specs.EntryValue.{EntryValue}
use Rattle.bl_load.specs.HandoffFacts.{HandoffFacts}
use Rattle.bl_load.specs.Handover.{Handover, overwrite_parts}
use Rattle.bl_load.specs.Parts.{IsHandover, IsRefusal}
use Rattle.bl_load.specs.PlanContents.{handover_in}
use Rattle.c_records.specs.declared.load_fault.LoadFault.{LoadFault}
use Rattle.c_records.specs.declared.load_fault.LoadFault.TheVariants.{Misused, Refused, NoMemory}
use Rattle.c_records.specs.declared.load_fault.LoadFault.TheVariants.{Outside}
use Rattle.c_abi.specs.Load.{HandsOverBelow}

-- memory that held the old bytes holds the new ones: this handover at its places, which is what the
-- handoff says, and all else as before
pub record LoadsHandover (handover : Handover) (old new : List ℕ) (handoff : HandoffFacts) :
    Type 0 where
  pub after : new ≡ overwrite_parts handover.parts old
  pub handed :
      handover_in new handoff.protocol handoff.registers handoff.places ≡ handover

-- why a value is not loaded into memory from this base on; it has no misuse
abbrev pub IsValueFault : MachineFacts → EntryValue → ℕ → LoadFault → Type 0
IsValueFault facts value base (Misused misuse) = ⊥
IsValueFault facts value base (Refused refused) = IsRefusal facts value refused
IsValueFault facts value base Outside = HandsOverBelow facts value base
IsValueFault facts value base NoMemory = Unit {0}

-- memory from this base on holds the new bytes: with what the value hands over at its places, and
-- all else as before; or as before, and the value has this fault
pub record LoadsValue (facts : MachineFacts) (value : EntryValue) (base : ℕ) (old new : List ℕ)
    (result : Result HandoffFacts LoadFault) : Type 0 where
  pub handover : IfOk result (λ handoff. IsHandover facts value
      (handover_in new handoff.protocol handoff.registers handoff.places))
  pub after : IfOk result (λ handoff. new ≡ overwrite_parts
      (handover_in new handoff.protocol handoff.registers handoff.places).parts old)
  pub inside : IfOk result (λ handoff.
      All (λ place. place.address + place.length ≤ facts.size) handoff.places)
  pub above : IfOk result (λ handoff. All (λ place. base ≤ place.address) handoff.places)
  pub fault : IfErr result (IsValueFault facts value base)
  pub unchanged : OnErr result (new ≡ old)
