-- The depth of a screen that is told is small.
use Rattle.std.proofs.Common.{◌≡◌, ◌<◌, ℕ, false, not, List, slice_index, arith, sym, ◌∙◌}
use Rattle.bl_mem.specs.LittleEndian.{u16_at}
use Rattle.bl_map.specs.FirmwareLimits.{is_depth}
use Rattle.bl_params.specs.BootParamsForm.{breaks_at}
use Rattle.bl_params.specs.ScreenInfo.{breaks_screen_info, screen_in}
use Rattle.bl_params.proofs.LimitLemmas.{holds, depth_small}
use Rattle.bl_params.proofs.FormLemmas.{front_is}
use Rattle.bl_params.proofs.FrontLemmas.{screen_is}
use Rattle.bl_params.proofs.ScreenLemmas.{depth_here}

told_is : (bytes : List ℕ) → slice_index bytes 0x0F ≡ 0x70
    → breaks_screen_info bytes 0x16 ≡ not (is_depth (u16_at bytes 0x16))
unfolding breaks_screen_info screen_in
told_is bytes told = rw told (depth_here (screen_in bytes) bytes)

pub shallow : (bytes : List ℕ) → breaks_at bytes 0x16 ≡ false → slice_index bytes 0x0F ≡ 0x70
    → u16_at bytes 0x16 < 256
shallow bytes sound told =
    let most =
    depth_small (u16_at bytes 0x16)
    (holds (is_depth (u16_at bytes 0x16))
    (sym (front_is bytes 0x16 (omega arith) ∙ screen_is bytes 0x16 (omega arith)
    ∙ told_is bytes told)
    ∙ sound)) in
    omega arith
