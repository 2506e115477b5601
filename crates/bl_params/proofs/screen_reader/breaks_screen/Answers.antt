use Rattle.std.proofs.Common.{◌∙◌, ℕ, ap, sym, arith}
use Rattle.bl_params.specs.ScreenInfo.{screen_in, breaks_screen}
use Rattle.bl_params.proofs.ScreenLemmas.{width_here, height_here, depth_here, size_here, line_here}
use Rattle.bl_params.proofs.ScreenLemmas.{red_here, green_here, blue_here, pages_here, able_here}
use Rattle.bl_params.proofs.ScreenLemmas.{place_here, aside_is}
use Rattle.bl_params.proofs.screen_reader.breaks_screen.Goals as goal

pub returns-in-18 : goal.returns-in-18
unfolding screen_in
returns-in-18 c =
    let b = c.args.bytes.now in
    rw (c.is_told.ensures, c.u16_in.ensures)
    (sym
    (ap (λ (k : ℕ). breaks_screen (screen_in b) b k) c.in-18.is
    ∙ width_here (screen_in b) b))

pub returns-in-20 : goal.returns-in-20
unfolding screen_in
returns-in-20 c =
    let b = c.args.bytes.now in
    rw (c.is_told-in-20.ensures, c.u16_in-in-20.ensures)
    (sym
    (ap (λ (k : ℕ). breaks_screen (screen_in b) b k) c.in-20.is
    ∙ height_here (screen_in b) b))

pub returns-in-22 : goal.returns-in-22
unfolding screen_in
returns-in-22 c =
    let b = c.args.bytes.now in
    rw (c.is_depth.ensures, c.u16_in-depth.ensures)
    (sym
    (ap (λ (k : ℕ). breaks_screen (screen_in b) b k) c.in-22.is
    ∙ depth_here (screen_in b) b))

pub returns-in-28 : goal.returns-in-28
unfolding screen_in
returns-in-28 c =
    let b = c.args.bytes.now in
    rw (c.product-size.ensures, c.u32_in.ensures, c.u16_in-pitch.ensures, c.u16_in-in-28.ensures)
    (sym
    (ap (λ (k : ℕ). breaks_screen (screen_in b) b k) c.in-28.is
    ∙ size_here (screen_in b) b))

pub returns-in-36 : goal.returns-in-36
unfolding screen_in
returns-in-36 c =
    let b = c.args.bytes.now in
    rw (
      c.has_pitch.ensures,
      c.u16_in-pitch-in-36.ensures,
      c.u16_in-in-36.ensures,
      c.u16_in-depth.ensures,
    )
    (sym
    (ap (λ (k : ℕ). breaks_screen (screen_in b) b k) c.in-36.is
    ∙ line_here (screen_in b) b))

pub returns-in-39 : goal.returns-in-39
unfolding screen_in
returns-in-39 c =
    let b = c.args.bytes.now in
    rw (c.fits_depth.ensures, c.u16_in-depth.ensures)
    (sym
    (ap (λ (k : ℕ). breaks_screen (screen_in b) b k) c.in-39.is
    ∙ red_here (screen_in b) b))

pub returns-in-41 : goal.returns-in-41
unfolding screen_in
returns-in-41 c =
    let b = c.args.bytes.now in
    rw (c.fits_depth-in-41.ensures, c.u16_in-depth.ensures)
    (sym
    (ap (λ (k : ℕ). breaks_screen (screen_in b) b k) c.in-41.is
    ∙ green_here (screen_in b) b))

pub returns-in-43 : goal.returns-in-43
unfolding screen_in
returns-in-43 c =
    let b = c.args.bytes.now in
    rw (c.fits_depth-in-43.ensures, c.u16_in-depth.ensures)
    (sym
    (ap (λ (k : ℕ). breaks_screen (screen_in b) b k) c.in-43.is
    ∙ blue_here (screen_in b) b))

pub returns-in-50 : goal.returns-in-50
unfolding screen_in
returns-in-50 c =
    let b = c.args.bytes.now in
    rw (c.u16_in-in-50.ensures)
    (sym
    (ap (λ (k : ℕ). breaks_screen (screen_in b) b k) c.in-50.is
    ∙ pages_here (screen_in b) b))

pub returns-in-54 : goal.returns-in-54
unfolding screen_in
returns-in-54 c =
    let b = c.args.bytes.now in
    rw (c.capabilities.ensures, c.u32_in-in-54.ensures, c.u32_in-ext_lfb_base.ensures)
    (sym
    (ap (λ (k : ℕ). breaks_screen (screen_in b) b k) c.in-54.is
    ∙ able_here (screen_in b) b))

pub returns-in-58 : goal.returns-in-58
unfolding screen_in
returns-in-58 c =
    let b = c.args.bytes.now in
    rw (c.is_placed.ensures)
    (sym
    (ap (λ (k : ℕ). breaks_screen (screen_in b) b k) c.in-58.is
    ∙ place_here (screen_in b) b))

pub returns-in_default : goal.returns-in_default
returns-in_default c =
    let b = c.args.bytes.now in
    c.breaks_untold.ensures
    ∙ sym
    (aside_is (screen_in b) b c.args.at
    record {
      not_12 = omega arith;
      not_14 = omega arith;
      not_16 = omega arith;
      not_1C = omega arith;
      not_24 = omega arith;
      not_27 = omega arith;
      not_29 = omega arith;
      not_2B = omega arith;
      not_32 = omega arith;
      not_36 = omega arith;
      not_3A = omega arith;
    })
