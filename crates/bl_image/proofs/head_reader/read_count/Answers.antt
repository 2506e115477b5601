use Rattle.std.proofs.Common.{◌≤◌, ◌<◌, true, false, arith}
use Rattle.std.specs.Prelude.{nat_le}
use Rattle.std.proofs.lemmas.Result.{err_from_is_err_and}
use Rattle.std.proofs.lemmas.Bool.Decides.{nat_tests}
use Rattle.bl_mem.specs.LittleEndian.{u32_bytes}
use Rattle.bl_mem.proofs.LittleEndianLaws.{length-u32_bytes}
use Rattle.bl_image.specs.declared.fault.ImageFault.TheVariants.{BadHeader}
use Rattle.bl_image.specs.Fields.{count_field}
use Rattle.bl_image.proofs.FieldLemmas.{field_cut, field_shows, word_tells}
use Rattle.bl_image.proofs.head_reader.read_count.Goals as goal

pub returns-in_err-count-clause-read : goal.returns-in_err-count-clause-read
unfolding count_field
returns-in_err-count-clause-read g c =
    let p = err_from_is_err_and c.from_residual.result c.from_residual.ensures.1 in
    rw (p.1, p.2)
    (record {
      field = λ fields. field_cut count_field fields _ _ _ c.in_err-count.ensures.read.cut;
      faults = c.in_err-count.ensures.read.faults;
    })

pub returns-then-count-gt-MAX_COUNT-clause-read : goal.returns-then-count-gt-MAX_COUNT-clause-read
unfolding count_field
returns-then-count-gt-MAX_COUNT-clause-read g c =
    let n = c.in_ok-count.count in
    let many : 256 < n = c.if-count-gt-MAX_COUNT.true in
    let fails =
    word_tells (λ k. nat_le k 256) BadHeader n false c.in_ok-count.ensures.fits
    (grind (arith, nat_tests)) in
    record {
      field = λ fields. field_shows count_field fields _ _ (u32_bytes n) c.in_ok-count.ensures.read.ok (length-u32_bytes n) fails;
      faults = c.in_ok-count.ensures.read.faults;
    }

pub returns-clause-read : goal.returns-clause-read
unfolding count_field
returns-clause-read g c =
    let n = c.in_ok-count.count in
    let few : n ≤ 256 = omega arith in
    record {
      field = record {
        comes = c.in_ok-count.ensures.read.ok;
        size = length-u32_bytes n;
        passes =
            word_tells (λ k. nat_le k 256) BadHeader n true c.in_ok-count.ensures.fits
            (grind (arith, nat_tests));
      };
      faults = c.in_ok-count.ensures.read.faults;
    }
