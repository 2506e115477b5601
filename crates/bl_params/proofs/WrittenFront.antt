-- What the bytes of written parameters are in front of the header, and that they have the form.
use Rattle.std.proofs.Common.{◌≡◌, ◌≤◌, ◌<◌, ◌+◌, ◌-◌, ◌^◌, ℕ, false, List, [], ◌∷◌}
use Rattle.std.proofs.Common.{slice_index, Option, Some, None, arith, refl, ap, ◌∙◌, ⊎_elim}
use Rattle.std.specs.Prelude.{IfSome, unwrap_or}
use Rattle.std.proofs.lemmas.Bool.{cases_lt, cases_eq}
use Rattle.bl_mem.specs.LittleEndian.{u64_at}
use Rattle.bl_params.specs.ParamsToWriteFacts.{ParamsToWriteFacts}
use Rattle.bl_params.specs.FieldBytes.{byte_of_fields, number_bytes, is_nonzero_at}
use Rattle.bl_params.specs.ScreenInfo.{screen_info, screen_of}
use Rattle.bl_params.specs.EfiInfo.{efi_info_bytes, secure_boot_byte, efi_of}
use Rattle.bl_params.specs.BootParamsForm.{breaks_at, breaks_front}
use Rattle.bl_params.specs.Reading.{rsdp_of}
use Rattle.bl_params.specs.WrittenParams.{FitParamFields}
use Rattle.bl_params.proofs.OverLemmas.{over_in}
use Rattle.bl_params.proofs.EntriesTold.{stand_number}
use Rattle.bl_params.proofs.LimitLemmas.{eq_no_zero}
use Rattle.bl_params.proofs.FormLemmas.{front_is, gap_is, secure_boot_is}
use Rattle.bl_params.proofs.FrontLemmas.{screen_is, below_rsdp_is, rsdp_is, below_efi_is, efi_is}
use Rattle.bl_params.proofs.FrontLemmas.{behind_efi_is}
use Rattle.bl_params.proofs.ScreenTold.{HasScreenInfo, screen_read, screen_form}
use Rattle.bl_params.proofs.EfiFieldsTold.{HasEfiInfo}
use Rattle.bl_params.proofs.EfiTold.{efi_read, efi_form, secure_boot_form}
use Rattle.bl_params.proofs.FieldLists.{params, is_at, screen_len, rsdp_len, efi_len, l9, l11, l12}
use Rattle.bl_params.proofs.FieldLists.{l13}
use Rattle.bl_params.proofs.RegionLemmas.{above_13, above_12, above_11, above_10, above_9, below_9}
use Rattle.bl_params.proofs.RegionLemmas.{below_10, below_11, below_12, below_13, below_1}

unfilled : (bytes : List ℕ) (k : ℕ) → slice_index bytes k ≡ 0 → is_nonzero_at bytes k ≡ false
unfilled bytes k zero_there = rw zero_there refl

rsdp_read_by : (bytes : List ℕ) (rsdp : Option ℕ) → IfSome rsdp (λ a. 1 ≤ a)
    → u64_at bytes 0x70 ≡ unwrap_or rsdp 0 → rsdp_of bytes ≡ rsdp
unfolding rsdp_of
rsdp_read_by bytes None told is = rw is refl
rsdp_read_by bytes (Some a) told is = rw (is, eq_no_zero a told) refl

rsdp_fits : (rsdp : Option ℕ) → IfSome rsdp (λ a. a < 2 ^ 64) → unwrap_or rsdp 0 < 2 ^ 64
rsdp_fits None fits = omega arith
rsdp_fits (Some a) fits = fits

module _ (header : List ℕ) (facts : ParamsToWriteFacts) where
  screen_there : HasScreenInfo (params header facts) facts.screen
  screen_there =
      λ k within.
      let long = screen_len header facts in
      let place : k - 0x000 ≡ k = omega arith in
      is_at header facts k (omega arith)
      ∙ over_in 0x000 (screen_info facts.screen) (byte_of_fields (l13 header facts)) k (omega arith)
      (omega arith)
      ∙ ap (λ (j : ℕ). slice_index (screen_info facts.screen) j) place

  zero_1 : (k : ℕ) → 0x40 ≤ k → k < 0x70 → slice_index (params header facts) k ≡ 0
  zero_1 k from below =
      is_at header facts k (omega arith) ∙ above_13 header facts k from
      ∙ below_13 header facts k below ∙ below_1 header facts k (omega arith)

  rsdp_there : IfSome facts.rsdp (λ a. a < 2 ^ 64)
      → u64_at (params header facts) 0x70 ≡ unwrap_or facts.rsdp 0
  rsdp_there fits =
      stand_number 8 0x70 (unwrap_or facts.rsdp 0) (params header facts)
      (rsdp_fits facts.rsdp fits) (λ k from below.
      is_at header facts k (omega (arith, rsdp_len header facts))
      ∙ above_13 header facts k (omega arith)
      ∙ over_in 0x70 (number_bytes 8 (unwrap_or facts.rsdp 0)) (byte_of_fields (l12 header facts)) k
      from below)

  zero_2 : (k : ℕ) → 0x78 ≤ k → k < 0x1C0 → slice_index (params header facts) k ≡ 0
  zero_2 k from below =
      is_at header facts k (omega arith) ∙ above_12 header facts k from
      ∙ below_12 header facts k below ∙ below_1 header facts k (omega arith)

  zero_3 : (k : ℕ) → 0x1E0 ≤ k → k < 0x1E8 → slice_index (params header facts) k ≡ 0
  zero_3 k from below =
      is_at header facts k (omega arith) ∙ above_11 header facts k from
      ∙ below_11 header facts k below ∙ below_1 header facts k (omega arith)

  zero_4 : (k : ℕ) → 0x1E9 ≤ k → k < 0x1EC → slice_index (params header facts) k ≡ 0
  zero_4 k from below =
      is_at header facts k (omega arith) ∙ above_10 header facts k from
      ∙ below_10 header facts k below ∙ below_1 header facts k (omega arith)

  zero_5 : (k : ℕ) → 0x1ED ≤ k → k < 0x1F1 → slice_index (params header facts) k ≡ 0
  zero_5 k from below =
      is_at header facts k (omega arith) ∙ above_9 header facts k from
      ∙ below_9 header facts k (omega arith) ∙ below_1 header facts k below

  efi_there : HasEfiInfo (params header facts) facts.efi
  efi_there = record {
    info = λ k within.
        let long = efi_len header facts in
        let place : 0x1C0 + k - 0x1C0 ≡ k = omega arith in
        is_at header facts (0x1C0 + k) (omega arith)
        ∙ above_12 header facts (0x1C0 + k) (omega arith)
        ∙ over_in 0x1C0 (efi_info_bytes facts.efi) (byte_of_fields (l11 header facts)) (0x1C0 + k)
        (omega arith) (omega arith)
        ∙ ap (λ (j : ℕ). slice_index (efi_info_bytes facts.efi) j) place;
    secure =
        is_at header facts 0x1EC (omega arith) ∙ above_10 header facts 0x1EC (omega arith)
        ∙ over_in 0x1EC (secure_boot_byte facts.efi ∷ []) (byte_of_fields (l9 header facts)) 0x1EC
        (omega arith) (omega arith);
  }

module _ (header : List ℕ) (facts : ParamsToWriteFacts) (fit : FitParamFields facts) where
  pub screen_told : screen_of (params header facts) ≡ facts.screen
  screen_told =
      screen_read (params header facts) facts.screen fit.told.screen (screen_there header facts)

  pub rsdp_told : rsdp_of (params header facts) ≡ facts.rsdp
  rsdp_told =
      rsdp_read_by (params header facts) facts.rsdp fit.told.rsdp (rsdp_there header facts fit.rsdp)

  pub efi_told : efi_of (params header facts) ≡ facts.efi
  efi_told = efi_read (params header facts) facts.efi fit.told.efi (efi_there header facts)

  front_by : (k : ℕ) → k < 0x1E8 → breaks_front (params header facts) k ≡ false
  front_by k below =
      ⊎_elim
      (λ in_screen.
      screen_is (params header facts) k in_screen
      ∙ screen_form (params header facts) facts.screen fit.told.screen (screen_there header facts) k
      in_screen)
      (λ past_screen. ⊎_elim
      (λ first.
      below_rsdp_is (params header facts) k past_screen first
      ∙ unfilled (params header facts) k (zero_1 header facts k past_screen first))
      (λ past_first. ⊎_elim
      (λ in_rsdp. rsdp_is (params header facts) k past_first in_rsdp)
      (λ past_rsdp. ⊎_elim
      (λ second.
      below_efi_is (params header facts) k past_rsdp second
      ∙ unfilled (params header facts) k (zero_2 header facts k past_rsdp second))
      (λ past_second. ⊎_elim
      (λ in_efi.
      efi_is (params header facts) k past_second in_efi
      ∙ efi_form (params header facts) facts.efi fit.told.efi (efi_there header facts) k past_second
      in_efi)
      (λ past_efi.
      behind_efi_is (params header facts) k past_efi
      ∙ unfilled (params header facts) k (zero_3 header facts k past_efi below))
      (cases_lt k 0x1E0))
      (cases_lt k 0x1C0))
      (cases_lt k 0x78))
      (cases_lt k 0x70))
      (cases_lt k 0x40)

  pub front_sound : (k : ℕ) → k < 0x1E8 → breaks_at (params header facts) k ≡ false
  front_sound k below = front_is (params header facts) k below ∙ front_by k below

  pub gap_sound : (k : ℕ) → 0x1E9 ≤ k → k < 0x1F1 → breaks_at (params header facts) k ≡ false
  gap_sound k from below =
      ⊎_elim
      (λ before.
      gap_is (params header facts) k from below (omega arith)
      ∙ unfilled (params header facts) k (zero_4 header facts k from before))
      (λ not_before. ⊎_elim
      (λ at_secure.
      ap (λ (n : ℕ). breaks_at (params header facts) n) at_secure
      ∙ secure_boot_is (params header facts)
      ∙ secure_boot_form (params header facts) facts.efi fit.told.efi (efi_there header facts))
      (λ other.
      gap_is (params header facts) k from below other
      ∙ unfilled (params header facts) k (zero_5 header facts k (omega arith) below))
      (cases_eq k 0x1EC))
      (cases_lt k 0x1EC)
