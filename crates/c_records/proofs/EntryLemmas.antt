-- An entry that is too large.
use Rattle.std.proofs.Common.{◌≡◌, ◌==◌, Bool, true, false, [], refl, subst, sym, arith, ◌≤◌}
use Rattle.std.proofs.Common.{length}
use Rattle.std.proofs.lemmas.Bool.Decides.{nat_tests}
use Rattle.std.proofs.lemmas.List.{length-map}
use Rattle.bl_load.specs.declared.entry.Entry.{Entry}
use Rattle.bl_load.specs.EntryValue.{HasLimits, IsWithinLimits, value_of}
use Rattle.c_records.specs.declared.given_records.EntryRecord.{EntryRecord}
use Rattle.c_records.specs.declared.given_records.ModuleRecord.{ModuleRecord}
use Rattle.c_records.specs.Given.{entry_without_files, multiboot2_without_files}
use Rattle.c_records.specs.GivenChecks.{are_modules_few}

-- an entry that has not its limits is too large
pub too_large : {A : Type 0} (r : EntryRecord) (entry : Entry A)
    → value_of [] entry ≡ entry_without_files r → ¬ IsWithinLimits entry
    → ¬ HasLimits (entry_without_files r)
unfolding IsWithinLimits
too_large r entry is not = λ limits. not (subst HasLimits (sym is) limits)

few_by : (r : EntryRecord) (b : Bool) → (r.protocol == 1) ≡ b
    → HasLimits (entry_without_files r) → are_modules_few r ≡ true
few_by r false is limits = rw is refl
few_by r true is limits =
    let within : HasLimits (multiboot2_without_files r) = rw is at limits in
    let few = within.few in
    let size = length-map r.modules.now (λ (m : ModuleRecord). m.line.now) in
    rw is (grind (arith, nat_tests, few, size))

-- one within its limits has few modules
pub few_modules : (r : EntryRecord) → HasLimits (entry_without_files r) → are_modules_few r ≡ true
few_modules r limits = few_by r (r.protocol == 1) refl limits

counted_by : (r : EntryRecord) (b : Bool) → (r.protocol == 1) ≡ b → length r.modules.now ≤ 64
    → are_modules_few r ≡ true
counted_by r false is few = rw is refl
counted_by r true is few = rw is (grind (arith, nat_tests, few))

-- so has one that has few
pub few_counted : (r : EntryRecord) → length r.modules.now ≤ 64 → are_modules_few r ≡ true
few_counted r few = counted_by r (r.protocol == 1) refl few
