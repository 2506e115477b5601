-- The fields of UEFI, each by the offset at which it counts.
use Rattle.std.proofs.Common.{◌≡◌, ◌≢◌, ℕ, false, not, List}
use Rattle.std.proofs.Common.{refl}
use Rattle.std.specs.Prelude.{◌==◌}
use Rattle.bl_mem.specs.LittleEndian.{u32_at}
use Rattle.bl_map.specs.FirmwareLimits.{are_descriptors}
use Rattle.bl_params.specs.EfiInfo.{breaks_efi, has_efi_signature, has_efi_systab, has_efi_memmap}
use Rattle.bl_params.specs.EfiInfo.{has_efi_memmap_size}
use Rattle.bl_params.proofs.FormLemmas.{eq_no, or_false}

pub signature_here : (bytes : List ℕ) → breaks_efi bytes 0x1C0 ≡ not (has_efi_signature bytes)
unfolding breaks_efi
signature_here bytes = simp or_false

pub each_here : (bytes : List ℕ)
    → breaks_efi bytes 0x1C8 ≡ not (are_descriptors (u32_at bytes 0x1C8) 1)
unfolding breaks_efi
each_here bytes = simp or_false

pub version_here : (bytes : List ℕ) → breaks_efi bytes 0x1CC ≡ not (u32_at bytes 0x1CC == 1)
unfolding breaks_efi
version_here bytes = simp or_false

pub memmap_here : (bytes : List ℕ) → breaks_efi bytes 0x1D0 ≡ not (has_efi_memmap bytes)
unfolding breaks_efi
memmap_here bytes = simp or_false

pub size_here : (bytes : List ℕ) → breaks_efi bytes 0x1D4 ≡ not (has_efi_memmap_size bytes)
unfolding breaks_efi
size_here bytes = simp or_false

pub systab_here : (bytes : List ℕ) → breaks_efi bytes 0x1D8 ≡ not (has_efi_systab bytes)
unfolding breaks_efi
systab_here bytes = simp or_false

pub memmap_hi_here : (bytes : List ℕ) → breaks_efi bytes 0x1DC ≡ not (u32_at bytes 0x1DC == 0)
unfolding breaks_efi
memmap_hi_here bytes = refl

-- an offset at which no field counts
pub record IsAside (k : ℕ) : Type 0 where
  pub not_1C0 : k ≢ 0x1C0
  pub not_1C8 : k ≢ 0x1C8
  pub not_1CC : k ≢ 0x1CC
  pub not_1D0 : k ≢ 0x1D0
  pub not_1D4 : k ≢ 0x1D4
  pub not_1D8 : k ≢ 0x1D8
  pub not_1DC : k ≢ 0x1DC

pub aside_is : (bytes : List ℕ) (k : ℕ) → IsAside k → breaks_efi bytes k ≡ false
unfolding breaks_efi
aside_is bytes k is =
    rw (
      eq_no k 0x1C0 is.not_1C0,
      eq_no k 0x1C8 is.not_1C8,
      eq_no k 0x1CC is.not_1CC,
      eq_no k 0x1D0 is.not_1D0,
      eq_no k 0x1D4 is.not_1D4,
      eq_no k 0x1D8 is.not_1D8,
      eq_no k 0x1DC is.not_1DC,
    ) refl
