use Rattle.std.proofs.Common.{◌≡◌, ℕ, arith, ap, take}
use Rattle.bl_image.proofs.Inputs.{comes_as}
use Rattle.bl_image.proofs.read.read_end.Goals as goal

pub returns-clause-read : goal.returns-clause-read
returns-clause-read g c =
    let none : c.in_ok-fill.field-0 ≡ 0 = omega arith in
    record {
      ok =
          comes_as (ap (λ (n : ℕ). take n c.fill.new.out) none) c.in_ok-fill.ensures.gave;
      refused = tt;
      faults = omega (arith, c.in_ok-fill.ensures.sound);
    }

pub returns-clause-ended : goal.returns-clause-ended
returns-clause-ended g c = c.in_ok-fill.ensures.ended (omega arith)
