use Rattle.std.proofs.Common.{refl}
use Rattle.bl_params.specs.ScreenInfo.{screen_in}
use Rattle.bl_params.proofs.screen_reader.base_in.Goals as goal

pub returns : goal.returns
unfolding screen_in
returns c = rw (c.u32_in.ensures, c.u32_in-2.ensures) refl
