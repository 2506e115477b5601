use Rattle.std.proofs.Common.{◌≡◌, length, refl, rules}
use Rattle.std.proofs.lemmas.List.{places}
use Rattle.std.proofs.lemmas.Result.{err_from_is_err_and}
use Rattle.bl_image.specs.Fields.{magic_field}
use Rattle.bl_image.specs.Image.{magic}
use Rattle.bl_image.proofs.Inputs.{comes_as}
use Rattle.bl_image.proofs.FieldLemmas.{field_cut, field_shows}
use Rattle.bl_image.proofs.FieldTests.{text_differs, text_same}
use Rattle.bl_image.proofs.head_reader.read_magic.Goals as goal

pub returns-in_err-read_exact : goal.returns-in_err-read_exact
unfolding magic_field
returns-in_err-read_exact g c =
    let p = err_from_is_err_and c.from_residual.result c.from_residual.ensures.1 in
    let size : length c.read_exact.new.out ≡ 8 = search (rules, places) in
    let cut = rw size at c.in_err-read_exact.ensures.cut in
    rw (p.1, p.2)
    (record {
      field = λ fields. field_cut magic_field fields _ _ _ cut;
      faults = c.in_err-read_exact.ensures.faults;
    })

pub returns-then-ne : goal.returns-then-ne
unfolding magic_field
returns-then-ne g c =
    let size : length c.read_exact.new.out ≡ 8 = search (rules, places) in
    record {
      field = λ fields. field_shows magic_field fields _ _ _ c.in_ok-read_exact.ensures.ok size (text_differs c.read_exact.new.out magic c.if-ne.ensures);
      faults = c.in_ok-read_exact.ensures.faults;
    }

pub returns : goal.returns
unfolding magic_field
returns g c = record {
  field = record {
    comes =
        comes_as (text_same c.read_exact.new.out magic c.if-ne.ensures) c.in_ok-read_exact.ensures.ok;
    size = refl;
    passes = refl;
  };
  faults = c.in_ok-read_exact.ensures.faults;
}
