use Rattle.std.proofs.Common.{refl}
use Rattle.bl_params.specs.FieldBytes.{number_bytes, byte_over}
use Rattle.bl_params.specs.ScreenInfo.{screen_info}
use Rattle.bl_params.proofs.screen_writer.told_screen_info.Goals as goal

pub returns : goal.returns
unfolding screen_info number_bytes byte_over
returns c =
    rw (
      c.two_bytes-width.ensures,
      c.two_bytes-height.ensures,
      c.two_bytes-depth.ensures,
      c.four_bytes-base.ensures,
      c.four_bytes-size.ensures,
      c.product.ensures,
      c.two_bytes-line.ensures,
      c.four_bytes-able.ensures,
      c.capabilities.ensures,
      c.four_bytes-ext.ensures,
    ) refl
