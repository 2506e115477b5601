use Rattle.std.proofs.Common.{arith, subst}
use Rattle.std.specs.Prelude.{IfSome}
use Rattle.std.proofs.lemmas.List.{length-map}
use Rattle.bl_load.specs.EntryValue.{IsWithinLimits}
use Rattle.program_desc.specs.Entries.{form_view, HasCopyLength}
use Rattle.program_boots.proofs.described_lemmas.MenuLemmas.{copied}
use Rattle.program_boots.proofs.described.menu.entry_of.Goals as goal

pub returns-in_ok-copy_of-in-Multiboot2-2-clause-few :
    goal.returns-in_ok-copy_of-in-Multiboot2-2-clause-few
unfolding IsWithinLimits
returns-in_ok-copy_of-in-Multiboot2-2-clause-few g c =
    let row = c.args.row.now in
    let form = c.in-Multiboot2.is in
    let modules = c.in_ok-modules_of-in-Multiboot2 in
    let lines = length-map modules.field-0.items (λ m. m.line) in
    let count = modules.ensures.count in
    let rows = c.deref.ensures.len in
    let few = c.in-Multiboot2.modules.few in
    record {
      few = omega (arith, lines, count, rows, few);
      rsdp_old =
          copied c.in-Multiboot2.rsdp_old c.in_ok-copy_of-in-Multiboot2.field-0
          c.in_ok-copy_of-in-Multiboot2.ensures
          (subst (λ f. IfSome (form_view f).rsdp_old HasCopyLength) form row.old);
      rsdp_new =
          copied c.in-Multiboot2.rsdp_new c.in_ok-copy_of-in-Multiboot2-2.field-0
          c.in_ok-copy_of-in-Multiboot2-2.ensures
          (subst (λ f. IfSome (form_view f).rsdp_new HasCopyLength) form row.new);
    }
