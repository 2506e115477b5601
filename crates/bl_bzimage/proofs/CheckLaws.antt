-- What a setup without a fault says of its kernel's place.
use Rattle.std.specs.Prelude.{not, ◌||◌, ◌&&◌, if◌then◌else◌, nat_lt, nat_le, count_ones}
use Rattle.std.specs.Prelude.{slice_index}
use Rattle.std.specs.Int.{is_power_of_two}
use Rattle.std.proofs.Common.{◌≡◌, ◌<◌, ◌≤◌, ◌^◌, ℕ, Bool, true, false, List, Option, Some, None}
use Rattle.std.proofs.Common.{arith, refl, sym, subst, ◌∙◌, nat_eq}
use Rattle.std.proofs.lemmas.Nat.{ones_le_self}
use Rattle.std.proofs.lemmas.Bool.Decides.{nat_tests}
use Rattle.bl_mem.specs.LittleEndian.{u16_at, u64_at}
use Rattle.bl_bzimage.specs.declared.fault.SetupFault.{SetupFault}
use Rattle.bl_bzimage.specs.declared.fault.SetupFault.TheVariants.{NotBzImage, OldProtocol, NotHigh}
use Rattle.bl_bzimage.specs.declared.fault.SetupFault.TheVariants.{SetupCut, BadAlign, BadPreferred}
use Rattle.bl_bzimage.specs.declared.setup.Setup.{Setup}
use Rattle.bl_bzimage.specs.Setup.{IsSetup, setup_fault, is_bz_image, is_loaded_high, is_whole}
use Rattle.bl_bzimage.specs.Setup.{has_sound_alignment, has_sound_pref_address}
use Rattle.bl_bzimage.proofs.SetupLaws.{fields_are}

passed :
    (broken : Bool) (fault : SetupFault) (rest : Option SetupFault)
    → (if broken then Some fault else rest) ≡ None → (broken ≡ false) × (rest ≡ None)
passed true fault rest e = absurd cc
passed false fault rest e = (refl, e)

holds : (b : Bool) → not b ≡ false → b ≡ true
holds true e = refl
holds false e = absurd cc

-- the last two checks, of a relocatable kernel and of another one
last_checks :
    (file : List ℕ) → setup_fault file ≡ None
    → (has_sound_alignment file ≡ true) × (has_sound_pref_address file ≡ true)
unfolding setup_fault
last_checks file sound =
    let image = passed (not (is_bz_image file)) NotBzImage _ sound in
    let version = passed (nat_lt (u16_at file 0x206) 0x020A) OldProtocol _ image.1 in
    let high = passed (not (is_loaded_high file)) NotHigh _ version.1 in
    let whole = passed (not (is_whole file)) SetupCut _ high.1 in
    let align = passed (not (has_sound_alignment file)) BadAlign _ whole.1 in
    let preferred = passed (not (has_sound_pref_address file)) BadPreferred _ align.1 in
    (holds (has_sound_alignment file) align.0, holds (has_sound_pref_address file) preferred.0)

some_power : (n : ℕ) → is_power_of_two n ≡ true → 1 ≤ n
some_power n is =
    let few = ones_le_self n in
    let one : count_ones n ≡ 1 = grind (arith, nat_tests) in
    omega arith

aligned_if :
    (zero_field power : Bool) → (not (not zero_field) || power) ≡ true → zero_field ≡ false
    → power ≡ true
aligned_if true power test e = absurd cc
aligned_if false power test e = test

-- a relocatable kernel is aligned to one byte at least
pub some_alignment :
    (file : List ℕ) (setup : Setup) → IsSetup file setup
    → nat_eq setup.relocatable_kernel 0 ≡ false → 1 ≤ setup.kernel_alignment
some_alignment file setup is moved =
    let fields = fields_are file setup is in
    let test = (last_checks file is.sound).0 in
    let field : nat_eq _ 0 ≡ false =
    subst (λ (n : ℕ). nat_eq n 0 ≡ false) fields.relocatable_kernel moved in
    subst (λ (n : ℕ). 1 ≤ n) (sym fields.kernel_alignment)
    (some_power _ (aligned_if _ _ test field))

preferred_if :
    (zero_field above below : Bool) → (not zero_field || (above && below)) ≡ true
    → zero_field ≡ true → (above ≡ true) × (below ≡ true)
preferred_if true true true test e = (refl, refl)
preferred_if true true false test e = absurd cc
preferred_if true false below test e = absurd cc
preferred_if false above below test e = absurd cc

le_from : (m n : ℕ) → nat_le m n ≡ true → m ≤ n
le_from m n test = grind (arith, nat_tests)

-- another one runs from 1 MiB on, within 32 bits
pub fixed_preferred :
    (file : List ℕ) (setup : Setup) → IsSetup file setup → setup.relocatable_kernel ≡ 0
    → (0x100000 ≤ setup.pref_address) × (setup.pref_address < 2 ^ 32)
fixed_preferred file setup is fixed =
    let fields = fields_are file setup is in
    let test = (last_checks file is.sound).1 in
    let field : nat_eq (slice_index file 0x234) 0 ≡ true =
    subst (λ (n : ℕ). nat_eq n 0 ≡ true) (sym fixed ∙ fields.relocatable_kernel) refl in
    let within =
    preferred_if _ (nat_le 0x100000 (u64_at file 0x258)) (nat_le (u64_at file 0x258) 0xFFFFFFFF)
    test field in
    let above = le_from 0x100000 (u64_at file 0x258) within.0 in
    let below = le_from (u64_at file 0x258) 0xFFFFFFFF within.1 in
    let same = fields.pref_address in
    (omega arith, omega arith)
