-- What boot parameters tell of firmware is within its limits.
use Rattle.std.proofs.Common.{◌≡◌, ◌≤◌, ◌<◌, ℕ, Bool, true, false, ◌&&◌, List, slice_index, Some}
use Rattle.std.proofs.Common.{None, arith, refl, sym, ◌∙◌}
use Rattle.std.specs.Prelude.{◌==◌, if◌then◌else◌, IfSome}
use Rattle.std.proofs.lemmas.Bool.{and_parts}
use Rattle.std.proofs.lemmas.Bool.Decides.{nat_tests}
use Rattle.bl_mem.specs.LittleEndian.{u64_at}
use Rattle.bl_map.specs.FirmwareLimits.{screen_fault, is_told_u16, is_depth, fits_depth, has_pitch}
use Rattle.bl_map.specs.FirmwareLimits.{is_screen_placed}
use Rattle.bl_params.specs.ParamsFacts.{ParamsFacts}
use Rattle.bl_params.specs.ParamsToWriteFacts.{IsToldFirmware}
use Rattle.bl_params.specs.BootParamsForm.{breaks_front}
use Rattle.bl_params.specs.Reading.{IsParams, rsdp_of}
use Rattle.bl_params.specs.ScreenInfo.{screen_in, screen_of, breaks_screen, breaks_screen_info}
use Rattle.bl_params.proofs.LimitLemmas.{IsSoundScreen, no_screen_fault, holds}
use Rattle.bl_params.proofs.FormLemmas.{front_is}
use Rattle.bl_params.proofs.FrontLemmas as front
use Rattle.bl_params.proofs.ScreenLemmas as screen
use Rattle.bl_params.proofs.EfiLaws.{sound_told_efi}

-- ---- a screen

screen_form_is : (bytes : List ℕ) (k : ℕ) → (slice_index bytes 0x0F == 0x70) ≡ true
    → breaks_screen_info bytes k ≡ breaks_screen (screen_in bytes) bytes k
unfolding breaks_screen_info
screen_form_is bytes k is = rw is refl

module _ (bytes : List ℕ) (is : (slice_index bytes 0x0F == 0x70) ≡ true)
    (sound : (k : ℕ) → k < 0x40 → breaks_screen_info bytes k ≡ false) where
  screen_quiet : (k : ℕ) → k < 0x40 → breaks_screen (screen_in bytes) bytes k ≡ false
  screen_quiet k within = sym (screen_form_is bytes k is) ∙ sound k within

  sound_screen : IsSoundScreen (screen_in bytes)
  sound_screen =
      let s = screen_in bytes in
      let line =
      and_parts (is_told_u16 s.pitch) (has_pitch s)
      (holds (is_told_u16 s.pitch && has_pitch s)
      (sym (screen.line_here s bytes) ∙ screen_quiet 0x24 (omega arith))) in
      record {
        width =
            holds (is_told_u16 s.width)
            (sym (screen.width_here s bytes) ∙ screen_quiet 0x12 (omega arith));
        height =
            holds (is_told_u16 s.height)
            (sym (screen.height_here s bytes) ∙ screen_quiet 0x14 (omega arith));
        pitch = line.0;
        depth =
            holds (is_depth s.depth)
            (sym (screen.depth_here s bytes) ∙ screen_quiet 0x16 (omega arith));
        red =
            holds (fits_depth s.depth s.red)
            (sym (screen.red_here s bytes) ∙ screen_quiet 0x27 (omega arith));
        green =
            holds (fits_depth s.depth s.green)
            (sym (screen.green_here s bytes) ∙ screen_quiet 0x29 (omega arith));
        blue =
            holds (fits_depth s.depth s.blue)
            (sym (screen.blue_here s bytes) ∙ screen_quiet 0x2B (omega arith));
        line = line.1;
        placed =
            holds (is_screen_placed s)
            (sym (screen.place_here s bytes) ∙ screen_quiet 0x3A (omega arith));
      }

screen_by : (bytes : List ℕ) (test : Bool) → (slice_index bytes 0x0F == 0x70) ≡ test
    → ((k : ℕ) → k < 0x40 → breaks_screen_info bytes k ≡ false)
    → IfSome (if test then Some (screen_in bytes) else None) (λ s. screen_fault s ≡ None)
screen_by bytes true is sound = no_screen_fault (screen_in bytes) (sound_screen bytes is sound)
screen_by bytes false is sound = tt

sound_told_screen : (bytes : List ℕ)
    → ((k : ℕ) → k < 0x40 → breaks_screen_info bytes k ≡ false)
    → IfSome (screen_of bytes) (λ s. screen_fault s ≡ None)
unfolding screen_of
sound_told_screen bytes sound = screen_by bytes (slice_index bytes 0x0F == 0x70) refl sound

-- ---- the root pointer

rsdp_by : (a : ℕ) (test : Bool) → (a == 0) ≡ test
    → IfSome (if test then None else Some a) (λ a. 1 ≤ a)
rsdp_by a true is = tt
rsdp_by a false is = grind (arith, nat_tests)

sound_told_rsdp : (bytes : List ℕ) → IfSome (rsdp_of bytes) (λ a. 1 ≤ a)
unfolding rsdp_of
sound_told_rsdp bytes = rsdp_by (u64_at bytes 0x070) (u64_at bytes 0x070 == 0) refl

-- ---- all of them

pub told_firmware_is_sound : (bytes : List ℕ) (params : ParamsFacts)
    → ((k : ℕ) → slice_index bytes k < 256) → IsParams bytes params
    → IsToldFirmware params.screen params.rsdp params.efi
told_firmware_is_sound bytes params small is =
    let quiet : (k : ℕ) → k < 0x1E8 → breaks_front bytes k ≡ false =
    λ k below. sym (front_is bytes k below) ∙ is.sound k (omega arith) in
    record {
      screen =
          rw is.screen
          (sound_told_screen bytes
          (λ k below. sym (front.screen_is bytes k below) ∙ quiet k (omega arith)));
      rsdp = rw is.rsdp (sound_told_rsdp bytes);
      efi =
          rw is.efi
          (sound_told_efi bytes small
          (λ k from below. sym (front.efi_is bytes k from below) ∙ quiet k (omega arith)));
    }
