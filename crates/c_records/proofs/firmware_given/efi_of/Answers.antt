use Rattle.std.proofs.Common.{ℕ, ◌<◌}
use Rattle.std.proofs.lemmas.List.Elements.{All-from_get_or}
use Rattle.c_records.proofs.firmware_given.efi_of.Goals as goal

pub invariant_of-result : goal.invariant_of-result
invariant_of-result c = record {
  map =
      All-from_get_or (λ (b : ℕ). b < 256) c.args.efi_map.now 0
      (λ i _. (c.type_inv.efi_map i).fits);
}
