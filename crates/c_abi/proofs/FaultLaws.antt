-- Of an entry that C gives one first fault stands, none where it is sound; and so of its load.
use Rattle.std.proofs.Common.{◌≡◌, ◌≢◌, ◌≤◌, ◌∙◌, ℕ, List, ap, sym, subst, refl, arith, inl, inr}
use Rattle.std.proofs.Common.{Some, None, true, false}
use Rattle.std.proofs.lemmas.Option.{same_Some}
use Rattle.bl_map.specs.MachineFacts.{MachineFacts}
use Rattle.bl_load.specs.declared.refusal.Refusal.{Refusal}
use Rattle.bl_load.specs.EntryValue.{EntryValue}
use Rattle.bl_load.specs.Handover.{Handover}
use Rattle.bl_load.specs.Parts.{IsHandover, IsRefusal}
use Rattle.bl_load.proofs.HandoverLaws as handovers
use Rattle.c_records.specs.declared.load_fault.LoadFault.{LoadFault}
use Rattle.c_records.specs.declared.load_fault.LoadFault.TheVariants.{Misused, Refused, NoMemory}
use Rattle.c_records.specs.declared.misuse.Misuse.{Misuse}
use Rattle.c_records.specs.declared.given_fault.GivenFault.TheVariants as given_fault
use Rattle.c_records.specs.declared.given_records.EntryRecord.{EntryRecord}
use Rattle.c_records.specs.declared.given_records.MachineRecord.{MachineRecord}
use Rattle.c_records.specs.declared.load_fault.LoadFault.TheVariants.{Outside}
use Rattle.c_records.proofs.EntryLemmas.{few_modules}
use Rattle.c_records.specs.Given.{value_with}
use Rattle.c_abi.specs.Load.{HandsOverBelow, HasEntryFault}
use Rattle.c_records.specs.EntryFaults.{IsEntryMisuse, IsEntrySound}
use Rattle.c_abi.specs.Load.{IsNotLoaded}
use Rattle.c_abi.specs.Load.{few_places, bad_machine, bad_memory, bad_entry}
use Rattle.c_records.specs.Machines.{IsMachineGiven}
use Rattle.c_abi.proofs.MachineLaws.{one_machine, sound_machine, one_machine_fault}

-- ---- of an entry

-- where none stands, none is told
pub sound_entry : (entry : EntryRecord) (misuse : Misuse)
    → IsEntrySound entry → IsEntryMisuse entry misuse → ⊥
sound_entry entry misuse sound (inl is) =
    let e : Some misuse ≡ None = sym is ∙ sound.names in absurd cc
sound_entry entry misuse sound (inr (names, inl (is, many))) =
    let e : true ≡ false = sym (few_modules entry sound.limits) ∙ many in absurd cc
sound_entry entry misuse sound (inr (names, inr (is, few, not))) = not sound.limits

-- two that are told are one
pub one_entry_misuse : (entry : EntryRecord) (m n : Misuse)
    → IsEntryMisuse entry m → IsEntryMisuse entry n → n ≡ m
one_entry_misuse entry m n (inl a) (inl b) = same_Some n m (sym b ∙ a)
one_entry_misuse entry m n (inl a) (inr (names, size)) =
    let e : Some m ≡ None = sym a ∙ names in absurd cc
one_entry_misuse entry m n (inr (names, size)) (inl b) =
    let e : Some n ≡ None = sym b ∙ names in absurd cc
one_entry_misuse entry m n (inr (names, inl (is, a))) (inr (known, inl (same, b))) = same ∙ sym is
one_entry_misuse entry m n (inr (names, inl (is, many))) (inr (known, inr (same, few, b))) =
    let e : true ≡ false = sym few ∙ many in absurd cc
one_entry_misuse entry m n (inr (names, inr (is, few, a))) (inr (known, inl (same, many))) =
    let e : true ≡ false = sym few ∙ many in absurd cc
one_entry_misuse entry m n (inr (names, inr (is, few, a))) (inr (known, inr (same, some, b))) =
    same ∙ sym is

-- ---- of an entry on a machine

-- nothing begins below address 0
pub none_below : (facts : MachineFacts) (value : EntryValue) → HandsOverBelow facts value 0 → ⊥
none_below facts value low = low.below (λ k d within. omega arith)

module _ (machine : MachineRecord) (entry : EntryRecord)
    (texts : List (List ℕ)) where
  -- what is handed over is not refused
  handed_or_refused : (f g : MachineFacts) (h : Handover) (r : Refusal)
      → IsMachineGiven machine f → IsMachineGiven machine g
      → IsHandover f (value_with entry texts) h → IsRefusal g (value_with entry texts) r → ⊥
  handed_or_refused f g h r a b handed refused =
      handovers.not_both f (value_with entry texts) h r handed
      (subst (λ (x : MachineFacts). IsRefusal x (value_with entry texts) r)
      (one_machine machine g f b a) refused)

  -- a fault that is told for memory from address 0 on, and one from another base on
  one_entry_fault : (base : ℕ) (f g : LoadFault) → f ≢ NoMemory → g ≢ NoMemory
      → HasEntryFault machine entry texts 0 f
      → HasEntryFault machine entry texts base g → g ≡ f
  one_entry_fault base NoMemory g told said a b = absurd (told refl)
  one_entry_fault base Outside g told said a b =
      absurd (none_below a.facts (value_with entry texts) a.is.1)
  one_entry_fault base (Misused m) NoMemory told said a b = absurd (said refl)
  one_entry_fault base (Misused m) (Misused n) told said a b =
      ap Misused (one_entry_misuse entry m n a.is b.is)
  one_entry_fault base (Misused m) (Refused s) told said a b =
      absurd (sound_entry entry m b.is.0 a.is)
  one_entry_fault base (Misused m) Outside told said a b =
      absurd (sound_entry entry m b.is.0 a.is)
  one_entry_fault base (Refused r) NoMemory told said a b = absurd (said refl)
  one_entry_fault base (Refused r) (Misused n) told said a b =
      absurd (sound_entry entry n a.is.0 b.is)
  one_entry_fault base (Refused r) (Refused s) told said a b =
      ap Refused
      (handovers.one_refusal a.facts (value_with entry texts) s r
      (subst (λ (x : MachineFacts). IsRefusal x (value_with entry texts) s)
      (one_machine machine b.facts a.facts b.machine_is a.machine_is) b.is.1)
      a.is.1)
  one_entry_fault base (Refused r) Outside told said a b =
      absurd
      (handed_or_refused b.facts a.facts b.is.1.handover r b.machine_is a.machine_is b.is.1.handed
      a.is.1)

  -- two that are told are one, where memory reaches to the machine's end
  pub one_fault : (room base end last : ℕ) (f g : LoadFault) → machine.size ≤ end → machine.size ≤ last
      → f ≢ NoMemory → g ≢ NoMemory
      → IsNotLoaded machine entry texts room 0 end f
      → IsNotLoaded machine entry texts room base last g → g ≡ f
  one_fault room base end last f g large wide told said (few_places few) (few_places less) = refl
  one_fault room base end last f g large wide told said (few_places few) (bad_machine many fault has) =
      absurd (omega (arith, few, many))
  one_fault room base end last f g large wide told said (few_places few) (bad_memory many sound low) =
      absurd (omega (arith, few, many))
  one_fault room base end last f g large wide told said (few_places few)
      (bad_entry many sound reaches fault has) = absurd (omega (arith, few, many))
  one_fault room base end last f g large wide told said (bad_machine many fault has) (few_places few) =
      absurd (omega (arith, few, many))
  one_fault room base end last f g large wide told said (bad_machine many fault has)
      (bad_machine roomy other is) = one_machine_fault machine fault other told said has is
  one_fault room base end last f g large wide told said (bad_machine many fault has)
      (bad_memory roomy sound low) = absurd (omega (arith, low, wide))
  one_fault room base end last f g large wide told said (bad_machine many (given_fault.Misused m) has)
      (bad_entry roomy sound reaches other is) = absurd (sound_machine machine m sound has)
  one_fault room base end last f g large wide told said (bad_machine many given_fault.NoMemory has)
      (bad_entry roomy sound reaches other is) = absurd (told refl)
  one_fault room base end last f g large wide told said (bad_memory many sound low) b =
      absurd (omega (arith, low, large))
  one_fault room base end last f g large wide told said (bad_entry many sound reaches fault has)
      (few_places few) = absurd (omega (arith, few, many))
  one_fault room base end last f g large wide told said (bad_entry many sound reaches fault has)
      (bad_machine roomy (given_fault.Misused m) is) =
      absurd (sound_machine machine m sound is)
  one_fault room base end last f g large wide told said (bad_entry many sound reaches fault has)
      (bad_machine roomy given_fault.NoMemory is) = absurd (said refl)
  one_fault room base end last f g large wide told said (bad_entry many sound reaches fault has)
      (bad_memory roomy whole low) = absurd (omega (arith, low, wide))
  one_fault room base end last f g large wide told said (bad_entry many sound reaches fault has)
      (bad_entry roomy whole extends other is) = one_entry_fault base fault other told said has is
