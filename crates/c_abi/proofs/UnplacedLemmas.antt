-- The part that is told to find no place is one.
use Rattle.std.proofs.Common.{◌≡◌, ◌<◌, ◌-◌, ◌^◌, ℕ, List, Option, Some, None, ap, sym, subst}
use Rattle.std.proofs.Common.{◌∙◌, ◌⊎◌, inl, inr, refl, arith, nat_le}
use Rattle.std.proofs.lemmas.Bool.{cond_both}
use Rattle.std.proofs.lemmas.Bool.Decides.{nat_tests}
use Rattle.bl_map.specs.Limits.{max_size}
use Rattle.bl_map.specs.MachineFacts.{MachineFacts}
use Rattle.bl_plan.specs.declared.part.Row.{Row}
use Rattle.bl_load.specs.declared.refusal.PrepFault.{PrepFault}
use Rattle.bl_load.specs.declared.refusal.PrepFault.TheVariants as prep_fault
use Rattle.bl_load.specs.EntryValue.{EntryValue}
use Rattle.bl_load.specs.Unplaced.{IsToldAs, IsUnplaced, IsFaultBeforePlacing}
use Rattle.bl_load.proofs.OneUnplacedLaws.{AreToldAlike, told_alike}
use Rattle.c_records.specs.declared.given_fault.GivenFault.{GivenFault}
use Rattle.c_records.specs.declared.given_fault.GivenFault.TheVariants as given_fault
use Rattle.c_records.specs.declared.given_records.EntryRecord.{EntryRecord}
use Rattle.c_records.specs.declared.given_records.MachineRecord.{MachineRecord}
use Rattle.c_records.specs.EntryFaults.{IsEntryGivenFault, IsEntrySound}
use Rattle.c_records.specs.EntryFaults.{load_fault_of_given, load_fault_of_prep}
use Rattle.c_records.specs.Given.{value_with}
use Rattle.c_records.specs.Machines.{IsMachineGiven}
use Rattle.c_abi.specs.Plan.{AreKnownAlike}
use Rattle.c_abi.specs.UnplacedPart.{IsSought, IsEarlyFault}
use Rattle.c_abi.specs.UnplacedTold.{length_told, unplaced_told, row_told}
use Rattle.c_abi.proofs.MachineLaws.{one_machine}
use Rattle.c_abi.proofs.PlanLaws.{same_value, files_of_other}
use Rattle.c_abi.proofs.PlanLemmas.{some_files, have_some}

-- ---- why no place is looked for

pub early_of_given : (facts : MachineFacts) (r : EntryRecord) (texts : List (List ℕ))
    (fault : GivenFault) → IsEntryGivenFault r fault
    → IsEarlyFault facts r texts (load_fault_of_given fault)
early_of_given facts r texts (given_fault.Misused misuse) is = is
early_of_given facts r texts given_fault.NoMemory is = tt

pub early_of_prep : (facts : MachineFacts) (r : EntryRecord) (texts : List (List ℕ))
    (value : EntryValue) (fault : PrepFault) → IsEntrySound r → value ≡ value_with r texts
    → IsFaultBeforePlacing facts value fault
    → IsEarlyFault facts r texts (load_fault_of_prep fault)
early_of_prep facts r texts value (prep_fault.Refused refused) sound same is = (
  sound,
  subst (λ (v : EntryValue). IsFaultBeforePlacing facts v (prep_fault.Refused refused)) same is,
)
early_of_prep facts r texts value prep_fault.NoMemory sound same is = tt

-- ---- rows that are told of one row are told alike

same_length : (n m : ℕ) → (m ≡ n) ⊎ ((max_size < m) × (max_size < n))
    → length_told n ≡ length_told m
same_length n m (inl is) = ap length_told (sym is)
same_length n m (inr (more, long)) =
    let great : (k : ℕ) → max_size < k → length_told k ≡ 2 ^ 64 - 1 =
    λ k high.
    cond_both (nat_le k max_size) k (2 ^ 64 - 1) (λ told. told ≡ 2 ^ 64 - 1)
    (λ e. absurd (grind (arith, nat_tests))) (λ e. refl) in
    great n long ∙ sym (great m more)

same_row : (x y : Row) → IsToldAs x y → row_told x ≡ row_told y
same_row x y is =
    let role = is.role in
    let index = is.index in
    let choice = is.choice in
    let count = same_length x.length y.length is.length in
    rw (role, index, choice, count) refl

same_told : (x y : Option Row) → AreToldAlike x y → unplaced_told x ≡ unplaced_told y
same_told None None alike = refl
same_told None (Some y) alike = absurd alike
same_told (Some x) None alike = absurd alike
same_told (Some x) (Some y) alike = same_row x y alike

pub one_part : (machine another : MachineRecord) (entry other : EntryRecord)
    (facts : MachineFacts) (which again : Option Row) → IsMachineGiven machine facts
    → IsMachineGiven another facts → AreKnownAlike entry other → IsSought machine entry which
    → IsSought another other again → unplaced_told which ≡ unplaced_told again
one_part machine another entry other facts which again m n alike a b =
    let texts = some_files entry in
    let files = have_some entry in
    let first : IsUnplaced facts (value_with entry texts) which =
    subst (λ (f : MachineFacts). IsUnplaced f (value_with entry texts) which)
    (one_machine machine a.facts facts a.machine_is m) (a.is texts files) in
    let second : IsUnplaced facts (value_with other texts) again =
    subst (λ (f : MachineFacts). IsUnplaced f (value_with other texts) again)
    (one_machine another b.facts facts b.machine_is n)
    (b.is texts (files_of_other entry other alike texts files)) in
    same_told which again
    (told_alike facts (value_with entry texts) which again first
    (subst (λ (v : EntryValue). IsUnplaced facts v again)
    (sym (same_value entry other alike texts)) second))
