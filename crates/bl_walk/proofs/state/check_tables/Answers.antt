use Rattle.std.proofs.Common.{◌≡◌, ◌∙◌, ◌*◌, ℕ, Some, ap, subst}
use Rattle.bl_params.specs.Translation.{translation}
use Rattle.bl_load.specs.Registers.{page_tables_in}
use Rattle.bl_walk.specs.Faults.{page_tables, other_translation}
use Rattle.bl_walk.specs.PartBytes.{bytes_in}
use Rattle.bl_walk.specs.State.{IsIdentityMapping}
use Rattle.bl_walk.proofs.state.check_tables.Goals as goal

pub follow-requires : goal.follow-requires
follow-requires g c = rw (c.tables-base.ensures, c.registers.ensures) (page_tables c.requires)

pub returns-in-None : goal.returns-in-None
returns-in-None g c =
    let tables = c.in_ok-tables.tables.now in
    let base : c.tables-base.result ≡ page_tables_in c.args.image.now.registers =
    c.tables-base.ensures ∙ ap page_tables_in c.registers.ensures in
    record {
      ok = (
        tables,
        subst (λ (b : ℕ). bytes_in c.args.image.now.parts b 0x6000 ≡ Some tables) base
            c.in_ok-tables.ensures.bytes.ok,
        subst (λ (b : ℕ). IsIdentityMapping b tables) base c.in-None.ensures,
      );
      fault = tt;
    }

pub returns-in-Some : goal.returns-in-Some
returns-in-Some g c =
    let tables = c.in_ok-tables.tables.now in
    let page = c.in-Some.field-0 in
    let base : c.tables-base.result ≡ page_tables_in c.args.image.now.registers =
    c.tables-base.ensures ∙ ap page_tables_in c.registers.ensures in
    record {
      ok = tt;
      fault = other_translation tables page c.requires (subst (λ (b : ℕ). bytes_in c.args.image.now.parts b 0x6000 ≡ Some tables) base c.in_ok-tables.ensures.bytes.ok) c.in-Some.ensures.0 (subst (λ (b : ℕ). ¬ (translation tables b (page * 0x200000) ≡ Some (page * 0x200000))) base c.in-Some.ensures.1);
    }
