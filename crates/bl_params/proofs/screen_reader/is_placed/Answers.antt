use Rattle.std.proofs.Common.{◌≡◌, true, nat_le, refl}
use Rattle.bl_params.specs.ScreenInfo.{screen_in}
use Rattle.bl_params.proofs.LimitLemmas.{le_to}
use Rattle.bl_params.proofs.screen_reader.is_placed.Goals as goal

pub returns-then-base-ge1 : goal.returns-then-base-ge1
unfolding screen_in
returns-then-base-ge1 c =
    let some : nat_le 1 c.base_in-base.result ≡ true =
    le_to 1 c.base_in-base.result c.if-base-ge1.true in
    rw (
      ← c.base_in-base.ensures,
      c.product-size.ensures,
      c.u16_in-pitch.ensures,
      c.u16_in.ensures,
      some,
    ) refl
