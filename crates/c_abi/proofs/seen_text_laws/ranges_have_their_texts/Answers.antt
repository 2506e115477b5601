use Rattle.c_abi.proofs.TextLaws.{line_first, module_lines, old_copy, new_copy, efi_map}
use Rattle.c_abi.proofs.TextLaws.{smbios_tables}
use Rattle.c_abi.proofs.seen_text_laws.ranges_have_their_texts.Goals as goal

pub returns : goal.returns
returns c = record {
  line = line_first;
  modules = module_lines;
  old = old_copy;
  new = new_copy;
  efi_map = efi_map;
  smbios = smbios_tables;
}
