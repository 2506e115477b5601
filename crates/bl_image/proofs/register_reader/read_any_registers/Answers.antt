use Rattle.std.proofs.Common.{◌≡◌, ◌<◌, ◌^◌, ◌++◌, ℕ, List, length, All, sym, ap, ◌∙◌, subst, rules}
use Rattle.std.proofs.lemmas.List.{places}
use Rattle.std.proofs.lemmas.Result.{err_from_is_err_and}
use Rattle.std.specs.List.{flat_map}
use Rattle.bl_mem.specs.LittleEndian.{u32_bytes}
use Rattle.bl_image.specs.Fields.{fields_fault, register_field}
use Rattle.bl_image.specs.Layouts.{registers_1}
use Rattle.bl_image.proofs.Inputs.{comes_as}
use Rattle.bl_image.proofs.FieldLemmas.{cut_refuses}
use Rattle.bl_image.proofs.Listed.{three_parts}
use Rattle.bl_image.proofs.RegisterLemmas.{any_short, register_any, narrow_pass}
use Rattle.bl_image.proofs.register_reader.read_any_registers.Goals as goal

all_fit : {xs ys : List ℕ} → All (λ n. n < 2 ^ 32) xs → xs ≡ ys → All (λ n. n < 2 ^ 32) ys
all_fit fit e = subst (All (λ n. n < 2 ^ 32)) e fit

pub returns-in_err-read_u32s-clause-read : goal.returns-in_err-read_u32s-clause-read
unfolding registers_1 register_field
returns-in_err-read_u32s-clause-read g c =
    let p = err_from_is_err_and c.from_residual.result c.from_residual.ensures.1 in
    let size : length c.read_u32s.new.out ≡ 20 = search (rules, places) in
    let cut = rw size at c.in_err-read_u32s.ensures.read.cut in
    rw (p.1, p.2)
    (record {
      fields = (λ others. cut_refuses (fields_fault (registers_1 ++ others)) _ _ 80 _ (any_short register_field register_any 20 others) cut);
      faults = c.in_err-read_u32s.ensures.read.faults;
    })

pub returns-clause-read : goal.returns-clause-read
returns-clause-read g c =
    let size : length c.read_u32s.new.out ≡ 20 = search (rules, places) in
    let numbers = c.narrow_registers_of.ensures ∙ three_parts c.read_u32s.new.out size in
    record {
      fields = record {
        comes = comes_as (ap (flat_map u32_bytes) (sym numbers)) c.in_ok-read_u32s.ensures.read.ok;
        on = narrow_pass c.narrow_registers_of.result;
      };
      faults = c.in_ok-read_u32s.ensures.read.faults;
    }

pub returns-clause-fit : goal.returns-clause-fit
returns-clause-fit g c =
    let size : length c.read_u32s.new.out ≡ 20 = search (rules, places) in
    let numbers = c.narrow_registers_of.ensures ∙ three_parts c.read_u32s.new.out size in
    all_fit c.in_ok-read_u32s.ensures.fit (sym numbers)
