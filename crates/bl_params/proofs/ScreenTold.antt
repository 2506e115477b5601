-- The screen that bytes tell whose front is the struct of a screen.
use Rattle.std.proofs.Common.{◌≡◌, ◌+◌, ◌*◌, ◌<◌, ◌^◌, ℕ, Bool, true, false, not, ◌&&◌}
use Rattle.std.proofs.Common.{List, slice_index, Option, Some, None, arith, refl, sym, ap}
use Rattle.std.proofs.Common.{◌∙◌}
use Rattle.std.specs.Prelude.{◌==◌, if◌then◌else◌, IfSome}
use Rattle.std.proofs.lemmas.Bool.{agree_below_at}
use Rattle.std.proofs.lemmas.List.FromFn.{get_or-map-range_with_len}
use Rattle.bl_mem.specs.LittleEndian.{u16_at, u32_at}
use Rattle.bl_map.specs.declared.firmware.screen.Screen.{Screen}
use Rattle.bl_map.specs.FirmwareLimits.{screen_fault, is_told_u16, is_depth, fits_depth, has_pitch}
use Rattle.bl_map.specs.FirmwareLimits.{is_screen_placed}
use Rattle.bl_params.specs.FieldBytes.{number_bytes, byte_over, byte_of_fields, low_half, high_half}
use Rattle.bl_params.specs.FieldBytes.{is_nonzero_at}
use Rattle.bl_params.specs.ScreenInfo.{screen_fields, screen_info, screen_in, screen_of}
use Rattle.bl_params.specs.ScreenInfo.{breaks_screen, breaks_screen_info, is_untold_in_screen}
use Rattle.bl_params.specs.ScreenInfo.{capabilities}
use Rattle.bl_params.proofs.LimitLemmas.{IsSoundScreen, screen_sound, told_small, depth_small}
use Rattle.bl_params.proofs.LimitLemmas.{area_small, base_small, eq_to}
use Rattle.bl_params.proofs.NumberLemmas.{u16_told, u32_told}
use Rattle.bl_params.proofs.ScreenLemmas.{kept}

-- the struct stands in front
abbrev pub HasScreenInfo : List ℕ → Option Screen → Type 0
HasScreenInfo bytes screen =
    (k : ℕ) → k < 0x40 → slice_index bytes k ≡ slice_index (screen_info screen) k

able_by : (low : Bool) → (if low then 1 else 3) < 2 ^ 32
able_by true = omega arith
able_by false = omega arith

able_small : (high : ℕ) → capabilities high < 2 ^ 32
able_small high = able_by (high == 0)

module _ (bytes : List ℕ) (s : Screen) (is : IsSoundScreen s)
    (told : HasScreenInfo bytes (Some s)) where
  byte : (k : ℕ) → k < 0x40 → slice_index bytes k ≡ byte_of_fields (screen_fields (Some s)) k
  unfolding screen_info
  byte k within =
      told k within
      ∙ get_or-map-range_with_len (byte_of_fields (screen_fields (Some s))) 0 0x40 k k 0 within
      (omega arith)

  vga : slice_index bytes 0x0F ≡ 0x70
  unfolding byte_over
  vga = byte 0x0F (omega arith)

  width : u16_at bytes 0x12 ≡ s.width
  unfolding byte_over number_bytes
  width =
      u16_told 0x12 s.width bytes (told_small s.width is.width) (byte 0x12 (omega arith))
      (byte 0x13 (omega arith))

  height : u16_at bytes 0x14 ≡ s.height
  unfolding byte_over number_bytes
  height =
      u16_told 0x14 s.height bytes (told_small s.height is.height) (byte 0x14 (omega arith))
      (byte 0x15 (omega arith))

  depth : u16_at bytes 0x16 ≡ s.depth
  unfolding byte_over number_bytes
  depth =
      let small = depth_small s.depth is.depth in
      u16_told 0x16 s.depth bytes (omega arith) (byte 0x16 (omega arith)) (byte 0x17 (omega arith))

  low : u32_at bytes 0x18 ≡ low_half s.base
  unfolding byte_over number_bytes
  low =
      u32_told 0x18 (low_half s.base) bytes (omega arith) (byte 0x18 (omega arith))
      (byte 0x19 (omega arith)) (byte 0x1A (omega arith)) (byte 0x1B (omega arith))

  size : u32_at bytes 0x1C ≡ s.pitch * s.height
  unfolding byte_over number_bytes
  size =
      u32_told 0x1C (s.pitch * s.height) bytes (area_small s is) (byte 0x1C (omega arith))
      (byte 0x1D (omega arith)) (byte 0x1E (omega arith)) (byte 0x1F (omega arith))

  pitch : u16_at bytes 0x24 ≡ s.pitch
  unfolding byte_over number_bytes
  pitch =
      u16_told 0x24 s.pitch bytes (told_small s.pitch is.pitch) (byte 0x24 (omega arith))
      (byte 0x25 (omega arith))

  pages : u16_at bytes 0x32 ≡ 1
  unfolding byte_over number_bytes
  pages = u16_told 0x32 1 bytes (omega arith) (byte 0x32 (omega arith)) (byte 0x33 (omega arith))

  able : u32_at bytes 0x36 ≡ capabilities (high_half s.base)
  unfolding byte_over number_bytes
  able =
      u32_told 0x36 (capabilities (high_half s.base)) bytes (able_small (high_half s.base))
      (byte 0x36 (omega arith)) (byte 0x37 (omega arith)) (byte 0x38 (omega arith))
      (byte 0x39 (omega arith))

  high : u32_at bytes 0x3A ≡ high_half s.base
  unfolding byte_over number_bytes
  high =
      let small = base_small s is in
      u32_told 0x3A (high_half s.base) bytes (omega arith) (byte 0x3A (omega arith))
      (byte 0x3B (omega arith)) (byte 0x3C (omega arith)) (byte 0x3D (omega arith))

  base : u32_at bytes 0x18 + 2 ^ 32 * u32_at bytes 0x3A ≡ s.base
  base = rw (low, high) (omega arith)

  pub is_told : screen_in bytes ≡ s
  unfolding screen_in byte_over number_bytes
  is_told =
      let red_size : slice_index bytes 0x26 ≡ s.red.size = byte 0x26 (omega arith) in
      let red : slice_index bytes 0x27 ≡ s.red.position = byte 0x27 (omega arith) in
      let green_size : slice_index bytes 0x28 ≡ s.green.size = byte 0x28 (omega arith) in
      let green : slice_index bytes 0x29 ≡ s.green.position = byte 0x29 (omega arith) in
      let blue_size : slice_index bytes 0x2A ≡ s.blue.size = byte 0x2A (omega arith) in
      let blue : slice_index bytes 0x2B ≡ s.blue.position = byte 0x2B (omega arith) in
      λ i. record {
        base = base i;
        pitch = pitch i;
        width = width i;
        height = height i;
        depth = depth i;
        red = record { position = red i; size = red_size i };
        green = record { position = green i; size = green_size i };
        blue = record { position = blue i; size = blue_size i };
      }

  -- the bytes of no field are 0
  untold : (k : ℕ) → k < 0x40
      → (is_untold_in_screen k && not (byte_of_fields (screen_fields (Some s)) k == 0)) ≡ false
  unfolding byte_over number_bytes
  untold k within =
      agree_below_at
      (λ (j : ℕ). is_untold_in_screen j && not (byte_of_fields (screen_fields (Some s)) j == 0))
      (λ _. false) 0x40 k refl within

  pub sound : (k : ℕ) → k < 0x40 → breaks_screen s bytes k ≡ false
  unfolding breaks_screen
  sound k within =
      let t1 = kept k 0x12 (is_told_u16 s.width) is.width in
      let t2 = kept k 0x14 (is_told_u16 s.height) is.height in
      let t3 = kept k 0x16 (is_depth s.depth) is.depth in
      let t4 = kept k 0x1C (u32_at bytes 0x1C == s.pitch * s.height) (eq_to _ _ size) in
      let t5 =
      kept k 0x24 (is_told_u16 s.pitch && has_pitch s) (rw (is.pitch, is.line) refl) in
      let t6 = kept k 0x27 (fits_depth s.depth s.red) is.red in
      let t7 = kept k 0x29 (fits_depth s.depth s.green) is.green in
      let t8 = kept k 0x2B (fits_depth s.depth s.blue) is.blue in
      let t9 = kept k 0x32 (u16_at bytes 0x32 == 1) (rw pages refl) in
      let t10 =
      kept k 0x36 (u32_at bytes 0x36 == capabilities (u32_at bytes 0x3A))
      (eq_to _ _ (able ∙ ap capabilities (sym high))) in
      let t11 = kept k 0x3A (is_screen_placed s) is.placed in
      let t12 : (is_untold_in_screen k && is_nonzero_at bytes k) ≡ false =
      ap (λ (b : ℕ). is_untold_in_screen k && not (b == 0)) (byte k within) ∙ untold k within in
      rw (t1, t2, t3, t4, t5, t6, t7, t8, t9, t10, t11, t12) refl

  pub here : screen_of bytes ≡ Some s
  unfolding screen_of
  here = rw vga (ap Some is_told)

  pub form : (k : ℕ) → k < 0x40 → breaks_screen_info bytes k ≡ false
  unfolding breaks_screen_info
  form k within = rw (vga, is_told) (sound k within)

-- ---- no screen

none_at : (bytes : List ℕ) → HasScreenInfo bytes None → (k : ℕ) → k < 0x40
    → slice_index bytes k ≡ 0
unfolding screen_info
none_at bytes told k within =
    told k within
    ∙ get_or-map-range_with_len (byte_of_fields (screen_fields None)) 0 0x40 k k 0 within
    (omega arith)

none_here : (bytes : List ℕ) → HasScreenInfo bytes None → screen_of bytes ≡ None
unfolding screen_of
none_here bytes told = rw (none_at bytes told 0x0F (omega arith)) refl

none_form : (bytes : List ℕ) → HasScreenInfo bytes None → (k : ℕ) → k < 0x40
    → breaks_screen_info bytes k ≡ false
unfolding breaks_screen_info
none_form bytes told k within =
    rw (none_at bytes told 0x0F (omega arith))
    (ap (λ (b : ℕ). not (b == 0)) (none_at bytes told k within))

-- ---- either

pub screen_read : (bytes : List ℕ) (screen : Option Screen)
    → IfSome screen (λ s. screen_fault s ≡ None) → HasScreenInfo bytes screen
    → screen_of bytes ≡ screen
screen_read bytes None sound told = none_here bytes told
screen_read bytes (Some s) sound told = here bytes s (screen_sound s sound) told

pub screen_form : (bytes : List ℕ) (screen : Option Screen)
    → IfSome screen (λ s. screen_fault s ≡ None) → HasScreenInfo bytes screen → (k : ℕ) → k < 0x40
    → breaks_screen_info bytes k ≡ false
screen_form bytes None sound told = none_form bytes told
screen_form bytes (Some s) sound told = form bytes s (screen_sound s sound) told
