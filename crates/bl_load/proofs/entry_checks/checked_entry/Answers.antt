use Rattle.std.proofs.Common.{arith, ap, length}
use Rattle.std.proofs.lemmas.List.{length-map}
use Rattle.bl_load.specs.EntryValue.{IsWithinLimits}
use Rattle.bl_load.specs.declared.entry.Module.{Module}
use Rattle.bl_load.proofs.entry_checks.checked_entry.Goals as goal

pub multiboot2_entry-requires-clause-files : goal.multiboot2_entry-requires-clause-files
multiboot2_entry-requires-clause-files g c =
    let entry = c.in-Multiboot2 in
    let files = rw entry.is at c.requires.files in
    omega (arith, files, ap length c.as_slice-modules.ensures.value)

pub multiboot2_entry-requires-clause-few : goal.multiboot2_entry-requires-clause-few
unfolding IsWithinLimits
multiboot2_entry-requires-clause-few g c =
    let entry = c.in-Multiboot2 in
    let limits = rw entry.is at c.requires.limits in
    omega (
      arith,
      limits.few,
      ap length c.as_slice-modules.ensures.value,
      length-map entry.modules.items (λ (m : Module g.row.A.Denot). m.line),
    )

pub multiboot2_entry-requires-clause-old : goal.multiboot2_entry-requires-clause-old
unfolding IsWithinLimits
multiboot2_entry-requires-clause-old g c =
    let limits = rw c.in-Multiboot2.is at c.requires.limits in limits.rsdp_old

pub multiboot2_entry-requires-clause-new : goal.multiboot2_entry-requires-clause-new
unfolding IsWithinLimits
multiboot2_entry-requires-clause-new g c =
    let limits = rw c.in-Multiboot2.is at c.requires.limits in limits.rsdp_new
