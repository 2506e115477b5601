use Rattle.std.proofs.Common.{◌≡◌, ◌∙◌, sym, subst}
use Rattle.bl_mbi.specs.InfoToWriteFacts.{InfoToWriteFacts, info_size}
use Rattle.bl_mbi.specs.internal.FactsInside.{facts_inside}
use Rattle.bl_mbi.proofs.Sizes.{length-spelling}
use Rattle.bl_mbi.proofs.GroupLemmas.{parts_small, size_by_parts}
use Rattle.bl_mbi.proofs.write.info_size.Goals as goal

pub modules_len-requires : goal.modules_len-requires
modules_len-requires c = (parts_small _ c.facts.invariant).modules

pub size_by_lengths-requires-clause-line : goal.size_by_lengths-requires-clause-line
size_by_lengths-requires-clause-line c = (parts_small _ c.facts.invariant).line

pub size_by_lengths-requires-clause-runs : goal.size_by_lengths-requires-clause-runs
size_by_lengths-requires-clause-runs c = (parts_small _ c.facts.invariant).runs

pub size_by_lengths-requires-clause-module_tags : goal.size_by_lengths-requires-clause-module_tags
size_by_lengths-requires-clause-module_tags c =
    rw c.modules_len.ensures (parts_small _ c.facts.invariant).modules

pub size_by_lengths-requires-clause-old : goal.size_by_lengths-requires-clause-old
size_by_lengths-requires-clause-old c =
    rw c.copy_len.ensures (parts_small _ c.facts.invariant).rsdp_old

pub size_by_lengths-requires-clause-new : goal.size_by_lengths-requires-clause-new
size_by_lengths-requires-clause-new c =
    rw c.copy_len-2.ensures (parts_small _ c.facts.invariant).rsdp_new

pub size_by_lengths-requires-clause-efi : goal.size_by_lengths-requires-clause-efi
size_by_lengths-requires-clause-efi c =
    rw c.efi_map_len.ensures (parts_small _ c.facts.invariant).efi

pub size_by_lengths-requires-clause-smbios : goal.size_by_lengths-requires-clause-smbios
size_by_lengths-requires-clause-smbios c =
    rw c.smbios_len.ensures (parts_small _ c.facts.invariant).smbios

pub returns-clause-by_lengths : goal.returns-clause-by_lengths
returns-clause-by_lengths c =
    let here : c.size_by_lengths.result ≡ info_size (facts_inside c.facts.inside) =
    c.size_by_lengths.ensures
    ∙ rw (
      c.copy_len.ensures,
      c.copy_len-2.ensures,
      c.is_some.ensures,
      c.is_some-2.ensures,
      c.efi_map_len.ensures,
      c.smbios_len.ensures,
      c.modules_len.ensures,
    ) (size_by_parts (facts_inside c.facts.inside)) in
    subst (λ (f : InfoToWriteFacts). c.size_by_lengths.result ≡ info_size f) c.facts.view_is here

pub returns-clause-size : goal.returns-clause-size
returns-clause-size c =
    let here : c.size_by_lengths.result ≡ info_size (facts_inside c.facts.inside) =
    c.size_by_lengths.ensures
    ∙ rw (
      c.copy_len.ensures,
      c.copy_len-2.ensures,
      c.is_some.ensures,
      c.is_some-2.ensures,
      c.efi_map_len.ensures,
      c.smbios_len.ensures,
      c.modules_len.ensures,
    ) (size_by_parts (facts_inside c.facts.inside)) in
    subst (λ (f : InfoToWriteFacts). c.size_by_lengths.result ≡ info_size f) c.facts.view_is here
    ∙ sym (length-spelling c.args.facts.now)

pub returns-clause-small : goal.returns-clause-small
returns-clause-small c =
    let here : c.size_by_lengths.result ≡ info_size (facts_inside c.facts.inside) =
    c.size_by_lengths.ensures
    ∙ rw (
      c.copy_len.ensures,
      c.copy_len-2.ensures,
      c.is_some.ensures,
      c.is_some-2.ensures,
      c.efi_map_len.ensures,
      c.smbios_len.ensures,
      c.modules_len.ensures,
    ) (size_by_parts (facts_inside c.facts.inside)) in
    rw here c.facts.invariant.small
