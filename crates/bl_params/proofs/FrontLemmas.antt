-- What breaks the form in front of "e820_entries", region by region.
use Rattle.std.proofs.Common.{◌≡◌, ◌≤◌, ◌<◌, ℕ, true, false, nat_le, List, arith, refl}
use Rattle.std.proofs.lemmas.Bool.Decides.{nat_tests}
use Rattle.bl_params.specs.BootParamsForm.{breaks_front}
use Rattle.bl_params.specs.FieldBytes.{is_nonzero_at}
use Rattle.bl_params.specs.ScreenInfo.{breaks_screen_info}
use Rattle.bl_params.specs.EfiInfo.{breaks_efi_info}
use Rattle.bl_params.proofs.FormLemmas.{lt_yes, lt_no}

le_yes : (n k : ℕ) → n ≤ k → nat_le n k ≡ true
le_yes n k above = grind (arith, nat_tests)

le_no : (n k : ℕ) → k < n → nat_le n k ≡ false
le_no n k below = grind (arith, nat_tests)

pub screen_is : (bytes : List ℕ) (k : ℕ) → k < 0x40
    → breaks_front bytes k ≡ breaks_screen_info bytes k
unfolding breaks_front
screen_is bytes k below = rw (lt_yes k 0x40 below) refl

pub below_rsdp_is : (bytes : List ℕ) (k : ℕ) → 0x40 ≤ k → k < 0x70
    → breaks_front bytes k ≡ is_nonzero_at bytes k
unfolding breaks_front
below_rsdp_is bytes k from below =
    rw (lt_no k 0x40 from, le_no 0x70 k below, le_no 0x1C0 k (omega arith)) refl

pub rsdp_is : (bytes : List ℕ) (k : ℕ) → 0x70 ≤ k → k < 0x78 → breaks_front bytes k ≡ false
unfolding breaks_front
rsdp_is bytes k from below =
    rw (lt_no k 0x40 (omega arith), le_yes 0x70 k from, lt_yes k 0x78 below) refl

pub below_efi_is : (bytes : List ℕ) (k : ℕ) → 0x78 ≤ k → k < 0x1C0
    → breaks_front bytes k ≡ is_nonzero_at bytes k
unfolding breaks_front
below_efi_is bytes k from below =
    rw (
      lt_no k 0x40 (omega arith),
      le_yes 0x70 k (omega arith),
      lt_no k 0x78 from,
      le_no 0x1C0 k below,
    ) refl

pub efi_is : (bytes : List ℕ) (k : ℕ) → 0x1C0 ≤ k → k < 0x1E0
    → breaks_front bytes k ≡ breaks_efi_info bytes k
unfolding breaks_front
efi_is bytes k from below =
    rw (
      lt_no k 0x40 (omega arith),
      le_yes 0x70 k (omega arith),
      lt_no k 0x78 (omega arith),
      le_yes 0x1C0 k from,
      lt_yes k 0x1E0 below,
    ) refl

pub behind_efi_is : (bytes : List ℕ) (k : ℕ) → 0x1E0 ≤ k
    → breaks_front bytes k ≡ is_nonzero_at bytes k
unfolding breaks_front
behind_efi_is bytes k from =
    rw (
      lt_no k 0x40 (omega arith),
      le_yes 0x70 k (omega arith),
      lt_no k 0x78 (omega arith),
      le_yes 0x1C0 k (omega arith),
      lt_no k 0x1E0 from,
    ) refl
