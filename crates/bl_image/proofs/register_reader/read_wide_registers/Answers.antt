use Rattle.std.proofs.Common.{◌≡◌, ◌<◌, ◌^◌, ◌++◌, ℕ, length, All, sym, ap, subst, rules}
use Rattle.std.proofs.lemmas.List.{places}
use Rattle.std.proofs.lemmas.Result.{err_from_is_err_and}
use Rattle.std.specs.List.{flat_map}
use Rattle.bl_mem.specs.LittleEndian.{u64_bytes}
use Rattle.bl_image.specs.Fields.{fields_fault, wide_register_field}
use Rattle.bl_image.specs.Layouts.{registers_2_wide}
use Rattle.bl_image.proofs.Inputs.{comes_as}
use Rattle.bl_image.proofs.FieldLemmas.{cut_refuses}
use Rattle.bl_image.proofs.RegisterLemmas.{any_short, wide_any, full_pass}
use Rattle.bl_image.proofs.register_reader.read_wide_registers.Goals as goal

pub returns-in_err-read_u64s-clause-read : goal.returns-in_err-read_u64s-clause-read
unfolding registers_2_wide wide_register_field
returns-in_err-read_u64s-clause-read g c =
    let p = err_from_is_err_and c.from_residual.result c.from_residual.ensures.1 in
    let size : length c.read_u64s.new.out ≡ 31 = search (rules, places) in
    let cut = rw size at c.in_err-read_u64s.ensures.read.cut in
    rw (p.1, p.2)
    (record {
      fields = (λ others. cut_refuses (fields_fault (registers_2_wide ++ others)) _ _ 248 _ (any_short wide_register_field wide_any 31 others) cut);
      faults = c.in_err-read_u64s.ensures.read.faults;
    })

pub returns-clause-read : goal.returns-clause-read
returns-clause-read g c = record {
  fields = record {
    comes =
        comes_as (ap (flat_map u64_bytes) (sym c.wide_registers_of.ensures))
        c.in_ok-read_u64s.ensures.read.ok;
    on = full_pass c.wide_registers_of.result;
  };
  faults = c.in_ok-read_u64s.ensures.read.faults;
}

pub returns-clause-fit : goal.returns-clause-fit
returns-clause-fit g c =
    let fits : ℕ → Type 0 = λ n. n < 2 ^ 64 in
    subst (All fits) (sym c.wide_registers_of.ensures) c.in_ok-read_u64s.ensures.fit
