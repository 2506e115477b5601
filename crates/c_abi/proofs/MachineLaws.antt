-- A machine that C gives is one, and of it one first fault stands; none where it is sound.
use Rattle.std.proofs.Common.{◌≡◌, ◌≢◌, ◌∙◌, List, ap, sym, refl, inl, inr}
use Rattle.bl_map.specs.declared.region.Region.{Region}
use Rattle.bl_map.specs.MachineFacts.{MachineFacts}
use Rattle.std.specs.Prelude.{Option, Some, None, IsSomeAnd}
use Rattle.c_abi.proofs.MapFaultLaws as fault_laws
use Rattle.c_abi.proofs.MapFaultLaws.{no_machine_fault}
use Rattle.bl_map.proofs.MapLaws.{one_normal_map}
use Rattle.c_records.specs.declared.load_fault.LoadFault.TheVariants.{NoMemory}
use Rattle.c_records.specs.declared.misuse.Misuse.{Misuse}
use Rattle.c_records.specs.declared.given_fault.GivenFault.{GivenFault}
use Rattle.c_records.specs.declared.given_fault.GivenFault.TheVariants as given_fault
use Rattle.c_records.specs.declared.given_records.MachineRecord.{MachineRecord}
use Rattle.c_records.specs.EntryFaults.{load_fault_of_given}
use Rattle.c_records.specs.Machines.{IsMachineGiven, IsMachineSound, HasMachineFault}
use Rattle.c_records.specs.Machines.{given_fault_of_map}
use Rattle.c_records.specs.GivenChecks.{machine_misuse}
use Rattle.c_records.specs.Machines.{machine_facts_given, pool_given, regions_given}
use Rattle.c_records.specs.Machines.{machine_firmware}

-- one misuse is told at most, and none where there is none
one_misuse : (o : Option Misuse) (f g : GivenFault)
    → IsSomeAnd o (λ misuse. f ≡ given_fault.Misused misuse)
    → IsSomeAnd o (λ misuse. g ≡ given_fault.Misused misuse) → g ≡ f
one_misuse None f g a b = absurd a
one_misuse (Some misuse) f g a b = b ∙ sym a

no_misuse : (o : Option Misuse) (f : GivenFault) → o ≡ None
    → IsSomeAnd o (λ misuse. f ≡ given_fault.Misused misuse) → ⊥
no_misuse None f none a = a
no_misuse (Some misuse) f none a = absurd cc

module _ (machine : MachineRecord) where
  -- it is one
  pub one_machine : (f g : MachineFacts) → IsMachineGiven machine f → IsMachineGiven machine g
      → f ≡ g
  one_machine f g a b =
      let given = regions_given machine in
      a.is
      ∙ ap (λ (runs : List Region). machine_facts_given machine runs)
      (one_normal_map given given f.runs g.runs (λ k. refl) a.runs b.runs)
      ∙ sym b.is

  -- of the size that is told
  pub given_size : (f : MachineFacts) → IsMachineGiven machine f → f.size ≡ machine.size
  given_size f a = ap (λ (x : MachineFacts). x.size) a.is

  -- where no fault stands, no misuse is told
  pub sound_machine : (misuse : Misuse) → IsMachineSound machine
      → HasMachineFault machine (given_fault.Misused misuse) → ⊥
  sound_machine misuse sound (inl bad) =
      no_misuse (machine_misuse machine) (given_fault.Misused misuse) sound.numbers bad
  sound_machine misuse sound (inr (inl is)) = absurd cc
  sound_machine misuse sound (inr (inr part)) =
      let none =
      no_machine_fault machine.size (regions_given machine) (pool_given machine)
      (machine_firmware machine) part.found sound.accepted sound.told part.first in
      let e : given_fault.Misused misuse ≡ given_fault.NoMemory =
      part.is ∙ ap given_fault_of_map none in
      absurd cc

  -- two faults that are told are one
  pub one_machine_fault : (f g : GivenFault) → load_fault_of_given f ≢ NoMemory
      → load_fault_of_given g ≢ NoMemory → HasMachineFault machine f → HasMachineFault machine g
      → load_fault_of_given g ≡ load_fault_of_given f
  one_machine_fault f g told said (inl bad) (inl worse) =
      ap load_fault_of_given (one_misuse (machine_misuse machine) f g bad worse)
  one_machine_fault f g told said (inl bad) (inr (inl short)) =
      absurd (said (ap load_fault_of_given short))
  one_machine_fault f g told said (inl bad) (inr (inr part)) =
      absurd (no_misuse (machine_misuse machine) f part.numbers bad)
  one_machine_fault f g told said (inr (inl short)) b = absurd (told (ap load_fault_of_given short))
  one_machine_fault f g told said (inr (inr part)) (inl bad) =
      absurd (no_misuse (machine_misuse machine) g part.numbers bad)
  one_machine_fault f g told said (inr (inr part)) (inr (inl short)) =
      absurd (said (ap load_fault_of_given short))
  one_machine_fault f g told said (inr (inr a)) (inr (inr b)) =
      let one =
      fault_laws.one_machine_fault machine.size (regions_given machine) (pool_given machine)
      (machine_firmware machine) b.found a.found
      (λ is. said (ap load_fault_of_given (b.is ∙ ap given_fault_of_map is)))
      (λ is. told (ap load_fault_of_given (a.is ∙ ap given_fault_of_map is))) b.first a.first in
      ap load_fault_of_given (b.is ∙ ap given_fault_of_map one ∙ sym a.is)
