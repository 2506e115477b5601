use Rattle.std.proofs.Common.{ℕ, ◌<◌, rules}
use Rattle.std.proofs.lemmas.List.Elements.{All-from_get_or}
use Rattle.c_records.proofs.firmware_given.smbios_of.Goals as goal

pub invariant_of-result : goal.invariant_of-result
invariant_of-result c = record {
  major = search rules;
  minor = search rules;
  tables =
      All-from_get_or (λ (b : ℕ). b < 256) c.args.tables.now 0
      (λ i _. (c.type_inv.tables i).fits);
}
