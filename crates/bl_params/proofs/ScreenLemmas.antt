-- The fields of a screen, each by the offset at which it counts.
use Rattle.std.proofs.Common.{◌≡◌, ◌≢◌, ◌*◌, ℕ, Bool, true, false, not, ◌&&◌, List}
use Rattle.std.proofs.Common.{refl, ap}
use Rattle.std.specs.Prelude.{◌==◌}
use Rattle.std.proofs.lemmas.Bool.{and_right}
use Rattle.bl_mem.specs.LittleEndian.{u16_at, u32_at}
use Rattle.bl_map.specs.declared.firmware.screen.Screen.{Screen}
use Rattle.bl_map.specs.FirmwareLimits.{is_told_u16, is_depth, fits_depth, has_pitch}
use Rattle.bl_map.specs.FirmwareLimits.{is_screen_placed}
use Rattle.bl_params.specs.FieldBytes.{is_nonzero_at}
use Rattle.bl_params.specs.ScreenInfo.{breaks_screen, is_untold_in_screen, capabilities}
use Rattle.bl_params.proofs.FormLemmas.{eq_no, or_false}

pub width_here : (s : Screen) (bytes : List ℕ)
    → breaks_screen s bytes 0x12 ≡ not (is_told_u16 s.width)
unfolding breaks_screen
width_here s bytes = simp or_false

pub height_here : (s : Screen) (bytes : List ℕ)
    → breaks_screen s bytes 0x14 ≡ not (is_told_u16 s.height)
unfolding breaks_screen
height_here s bytes = simp or_false

pub depth_here : (s : Screen) (bytes : List ℕ)
    → breaks_screen s bytes 0x16 ≡ not (is_depth s.depth)
unfolding breaks_screen
depth_here s bytes = simp or_false

pub size_here : (s : Screen) (bytes : List ℕ)
    → breaks_screen s bytes 0x1C ≡ not (u32_at bytes 0x1C == s.pitch * s.height)
unfolding breaks_screen
size_here s bytes = simp or_false

pub line_here : (s : Screen) (bytes : List ℕ)
    → breaks_screen s bytes 0x24 ≡ not (is_told_u16 s.pitch && has_pitch s)
unfolding breaks_screen
line_here s bytes = simp or_false

pub red_here : (s : Screen) (bytes : List ℕ)
    → breaks_screen s bytes 0x27 ≡ not (fits_depth s.depth s.red)
unfolding breaks_screen
red_here s bytes = simp or_false

pub green_here : (s : Screen) (bytes : List ℕ)
    → breaks_screen s bytes 0x29 ≡ not (fits_depth s.depth s.green)
unfolding breaks_screen
green_here s bytes = simp or_false

pub blue_here : (s : Screen) (bytes : List ℕ)
    → breaks_screen s bytes 0x2B ≡ not (fits_depth s.depth s.blue)
unfolding breaks_screen
blue_here s bytes = simp or_false

pub pages_here : (s : Screen) (bytes : List ℕ)
    → breaks_screen s bytes 0x32 ≡ not (u16_at bytes 0x32 == 1)
unfolding breaks_screen
pages_here s bytes = simp or_false

pub able_here : (s : Screen) (bytes : List ℕ)
    → breaks_screen s bytes 0x36 ≡ not (u32_at bytes 0x36 == capabilities (u32_at bytes 0x3A))
unfolding breaks_screen
able_here s bytes = simp or_false

pub place_here : (s : Screen) (bytes : List ℕ)
    → breaks_screen s bytes 0x3A ≡ not (is_screen_placed s)
unfolding breaks_screen
place_here s bytes = simp or_false

-- an offset at which no field counts
pub record IsAside (k : ℕ) : Type 0 where
  pub not_12 : k ≢ 0x12
  pub not_14 : k ≢ 0x14
  pub not_16 : k ≢ 0x16
  pub not_1C : k ≢ 0x1C
  pub not_24 : k ≢ 0x24
  pub not_27 : k ≢ 0x27
  pub not_29 : k ≢ 0x29
  pub not_2B : k ≢ 0x2B
  pub not_32 : k ≢ 0x32
  pub not_36 : k ≢ 0x36
  pub not_3A : k ≢ 0x3A

pub aside_is : (s : Screen) (bytes : List ℕ) (k : ℕ) → IsAside k
    → breaks_screen s bytes k ≡ (is_untold_in_screen k && is_nonzero_at bytes k)
unfolding breaks_screen
aside_is s bytes k is =
    rw (
      eq_no k 0x12 is.not_12,
      eq_no k 0x14 is.not_14,
      eq_no k 0x16 is.not_16,
      eq_no k 0x1C is.not_1C,
      eq_no k 0x24 is.not_24,
      eq_no k 0x27 is.not_27,
      eq_no k 0x29 is.not_29,
      eq_no k 0x2B is.not_2B,
      eq_no k 0x32 is.not_32,
      eq_no k 0x36 is.not_36,
      eq_no k 0x3A is.not_3A,
    ) refl

-- a limit that is kept breaks nothing
pub kept : (k at : ℕ) (limit : Bool) → limit ≡ true → (k == at && not limit) ≡ false
kept k at limit e = and_right (k == at) (not limit) (ap not e)
