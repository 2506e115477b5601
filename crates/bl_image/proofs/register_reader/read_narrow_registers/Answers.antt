use Rattle.std.proofs.Common.{◌≡◌, ◌<◌, ◌^◌, ◌++◌, ℕ, List, All, length, sym, ap, ◌∙◌, subst, rules, arith}
use Rattle.std.specs.Prelude.{replicate}
use Rattle.std.specs.List.{flat_map}
use Rattle.std.proofs.lemmas.List.{places}
use Rattle.std.proofs.lemmas.List.Elements.{All-append}
use Rattle.std.proofs.lemmas.Result.{err_from_is_err_and}
use Rattle.bl_mem.specs.LittleEndian.{u64_bytes}
use Rattle.bl_load.specs.declared.registers.Registers32.{Registers32}
use Rattle.bl_load.specs.declared.registers.Registers.TheVariants.{Bits32}
use Rattle.bl_image.specs.Fields.{Field, zero_extended_field, absent_field}
use Rattle.bl_image.specs.Image.{narrow_values, wide_values}
use Rattle.bl_image.specs.Layouts.{registers_2_narrow}
use Rattle.bl_image.specs.SourceFacts.{SourceFacts}
use Rattle.bl_image.specs.internal.SourceReading.{PassAll}
use Rattle.bl_image.proofs.FieldRows.{pass_as, pass_both, refused_before, refused_behind}
use Rattle.bl_image.proofs.WideLemmas.{wide_by, wide_spelling, spelled_wide}
use Rattle.bl_image.proofs.register_reader.read_narrow_registers.Goals as goal

abbrev narrow : ℕ → List Field
narrow n = replicate n zero_extended_field

abbrev absent : ℕ → List Field
absent n = replicate n absent_field

-- the fields behind the first, and so on
abbrev after_third : List Field
after_third = absent 3 ++ narrow 9

abbrev after_second : List Field
after_second = narrow 2 ++ after_third

abbrev after_first : List Field
after_first = absent 8 ++ after_second

-- so many numbers came
sized : {old new : SourceFacts} (ns : List ℕ) (n : ℕ) → length ns ≡ n
    → PassAll (narrow (length ns)) old new (flat_map u64_bytes ns)
    → PassAll (narrow n) old new (flat_map u64_bytes ns)
sized {old} {new} ns n size passed =
    subst (λ (k : ℕ). PassAll (narrow k) old new (flat_map u64_bytes ns)) size passed

same_bytes : (r : Registers32) (first flags last : List ℕ) → length first ≡ 9 → length flags ≡ 2
    → narrow_values r ≡ first ++ (flags ++ last)
    → wide_spelling first flags last ≡ flat_map u64_bytes (wide_values (Bits32 r))
same_bytes r first flags last nine two numbers =
    sym
    (ap (flat_map u64_bytes) (wide_by r first flags last nine two numbers)
    ∙ spelled_wide first flags last)

pub returns-in_err-read_narrows-clause-read : goal.returns-in_err-read_narrows-clause-read
unfolding registers_2_narrow
returns-in_err-read_narrows-clause-read g c =
    let p = err_from_is_err_and c.from_residual.result c.from_residual.ensures.1 in
    let nine : length c.read_narrows.new.out ≡ 9 = search (rules, places) in
    rw (p.1, p.2)
    (record {
      fields = (refused_before _ (narrow 9) after_first _ _ (rw nine at c.in_err-read_narrows.ensures.read.fields));
      faults = omega (arith, c.in_err-read_narrows.ensures.read.faults);
    })

pub returns-clause-fit : goal.returns-clause-fit
returns-clause-fit g c =
    let fits : ℕ → Type 0 = λ n. n < 2 ^ 32 in
    subst (All fits) (sym c.narrow_registers_of.ensures)
    (All-append fits _ _ c.in_ok-read_narrows.ensures.fit
    (All-append fits _ _ c.in_ok-read_narrows-2.ensures.fit c.in_ok-read_narrows-3.ensures.fit))

pub returns-clause-read : goal.returns-clause-read
unfolding registers_2_narrow
returns-clause-read g c =
    let first = c.read_narrows.new.out in
    let flags = c.read_narrows-2.new.out in
    let last = c.read_narrows-3.new.out in
    let nine : length first ≡ 9 = search (rules, places) in
    let two : length flags ≡ 2 = search (rules, places) in
    let others : length last ≡ 9 = search (rules, places) in
    let all =
    pass_both (narrow 9) after_first _ _ (sized first 9 nine c.in_ok-read_narrows.ensures.read.fields)
    (pass_both (absent 8) after_second _ _ c.in_ok-read_absents.ensures.fields
    (pass_both (narrow 2) after_third _ _ (sized flags 2 two c.in_ok-read_narrows-2.ensures.read.fields)
    (pass_both (absent 3) (narrow 9) _ _ c.in_ok-read_absents-2.ensures.fields
    (sized last 9 others c.in_ok-read_narrows-3.ensures.read.fields)))) in
    record {
      fields = pass_as registers_2_narrow _ _ (same_bytes c.narrow_registers_of.result first flags last nine two c.narrow_registers_of.ensures) all;
      faults = omega (arith, c.in_ok-read_narrows.ensures.read.faults, c.in_ok-read_absents.ensures.faults, c.in_ok-read_narrows-2.ensures.read.faults, c.in_ok-read_absents-2.ensures.faults, c.in_ok-read_narrows-3.ensures.read.faults);
    }

pub returns-in_err-read_absents-clause-read : goal.returns-in_err-read_absents-clause-read
unfolding registers_2_narrow
returns-in_err-read_absents-clause-read g c =
    let p =
    err_from_is_err_and c.from_residual-in_err-read_absents.result
    c.from_residual-in_err-read_absents.ensures.1 in
    let first = c.read_narrows.new.out in
    let nine : length first ≡ 9 = search (rules, places) in
    rw (p.1, p.2)
    (record {
      fields = (refused_behind (narrow 9) after_first _ (sized first 9 nine c.in_ok-read_narrows.ensures.read.fields) _ _ (refused_before _ (absent 8) after_second _ _ c.in_err-read_absents.ensures.fields));
      faults = omega (arith, c.in_ok-read_narrows.ensures.read.faults, c.in_err-read_absents.ensures.faults);
    })

pub returns-in_err-read_narrows-2-clause-read : goal.returns-in_err-read_narrows-2-clause-read
unfolding registers_2_narrow
returns-in_err-read_narrows-2-clause-read g c =
    let p =
    err_from_is_err_and c.from_residual-in_err-read_narrows-2.result
    c.from_residual-in_err-read_narrows-2.ensures.1 in
    let first = c.read_narrows.new.out in
    let nine : length first ≡ 9 = search (rules, places) in
    let two : length c.read_narrows-2.new.out ≡ 2 = search (rules, places) in
    rw (p.1, p.2)
    (record {
      fields = (refused_behind (narrow 9) after_first _ (sized first 9 nine c.in_ok-read_narrows.ensures.read.fields) _ _ (refused_behind (absent 8) after_second _ c.in_ok-read_absents.ensures.fields _ _ (refused_before _ (narrow 2) after_third _ _ (rw two at c.in_err-read_narrows-2.ensures.read.fields))));
      faults = omega (arith, c.in_ok-read_narrows.ensures.read.faults, c.in_ok-read_absents.ensures.faults, c.in_err-read_narrows-2.ensures.read.faults);
    })

pub returns-in_err-read_absents-2-clause-read : goal.returns-in_err-read_absents-2-clause-read
unfolding registers_2_narrow
returns-in_err-read_absents-2-clause-read g c =
    let p =
    err_from_is_err_and c.from_residual-in_err-read_absents-2.result
    c.from_residual-in_err-read_absents-2.ensures.1 in
    let first = c.read_narrows.new.out in
    let flags = c.read_narrows-2.new.out in
    let nine : length first ≡ 9 = search (rules, places) in
    let two : length flags ≡ 2 = search (rules, places) in
    rw (p.1, p.2)
    (record {
      fields = (refused_behind (narrow 9) after_first _ (sized first 9 nine c.in_ok-read_narrows.ensures.read.fields) _ _ (refused_behind (absent 8) after_second _ c.in_ok-read_absents.ensures.fields _ _ (refused_behind (narrow 2) after_third _ (sized flags 2 two c.in_ok-read_narrows-2.ensures.read.fields) _ _ (refused_before _ (absent 3) (narrow 9) _ _ c.in_err-read_absents-2.ensures.fields))));
      faults = omega (arith, c.in_ok-read_narrows.ensures.read.faults, c.in_ok-read_absents.ensures.faults, c.in_ok-read_narrows-2.ensures.read.faults, c.in_err-read_absents-2.ensures.faults);
    })

pub returns-in_err-read_narrows-3-clause-read : goal.returns-in_err-read_narrows-3-clause-read
unfolding registers_2_narrow
returns-in_err-read_narrows-3-clause-read g c =
    let p =
    err_from_is_err_and c.from_residual-in_err-read_narrows-3.result
    c.from_residual-in_err-read_narrows-3.ensures.1 in
    let first = c.read_narrows.new.out in
    let flags = c.read_narrows-2.new.out in
    let nine : length first ≡ 9 = search (rules, places) in
    let two : length flags ≡ 2 = search (rules, places) in
    let others : length c.read_narrows-3.new.out ≡ 9 = search (rules, places) in
    rw (p.1, p.2)
    (record {
      fields = (refused_behind (narrow 9) after_first _ (sized first 9 nine c.in_ok-read_narrows.ensures.read.fields) _ _ (refused_behind (absent 8) after_second _ c.in_ok-read_absents.ensures.fields _ _ (refused_behind (narrow 2) after_third _ (sized flags 2 two c.in_ok-read_narrows-2.ensures.read.fields) _ _ (refused_behind (absent 3) (narrow 9) _ c.in_ok-read_absents-2.ensures.fields _ _ (rw others at c.in_err-read_narrows-3.ensures.read.fields)))));
      faults = omega (arith, c.in_ok-read_narrows.ensures.read.faults, c.in_ok-read_absents.ensures.faults, c.in_ok-read_narrows-2.ensures.read.faults, c.in_ok-read_absents-2.ensures.faults, c.in_err-read_narrows-3.ensures.read.faults);
    })
