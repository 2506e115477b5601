use Rattle.std.proofs.Common.{◌≡◌, slice_index, Some}
use Rattle.bl_params.specs.ScreenInfo.{screen_in, screen_of}
use Rattle.bl_params.proofs.screen_reader.screen_of.Goals as goal

pub returns : goal.returns
unfolding screen_of screen_in
returns c =
    let told : slice_index c.args.bytes.now 0x0F ≡ 0x70 = c.if-bytes-ne-VIDEO_TYPE_EFI.false in
    rw told
    (λ i. Some record {
      base = c.base_in.ensures i;
      pitch = c.u16_in.ensures i;
      width = c.u16_in-2.ensures i;
      height = c.u16_in-3.ensures i;
      depth = c.u16_in-4.ensures i;
      red = record {
        position = c.color_in.ensures.position i;
        size = c.color_in.ensures.size i;
      };
      green = record {
        position = c.color_in-2.ensures.position i;
        size = c.color_in-2.ensures.size i;
      };
      blue = record {
        position = c.color_in-3.ensures.position i;
        size = c.color_in-3.ensures.size i;
      };
    })
