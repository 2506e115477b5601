-- What boot information to be written tells, by the fields of its struct.
use Rattle.std.specs.Prelude.{option_map, option_copied}
use Rattle.bl_mbi.specs.declared.info_to_write.InfoToWrite.TheInside.{Inside}
use Rattle.bl_mbi.specs.InfoToWriteFacts.{InfoToWriteFacts, HasSpelling, efi_tables}

abbrev pub facts_inside : Inside → InfoToWriteFacts
facts_inside f = record {
  line = f.line.now;
  modules = f.modules.now;
  mem_lower = f.mem_lower;
  mem_upper = f.mem_upper;
  runs = f.runs.now;
  screen = f.screen;
  efi = option_map efi_tables (option_copied f.efi);
  smbios = option_copied f.smbios;
  rsdp_old = option_copied f.rsdp_old;
  rsdp_new = option_copied f.rsdp_new;
  load_base = f.load_base;
}

abbrev pub HasSpellingInside : Inside → Type 0
HasSpellingInside f = HasSpelling (facts_inside f)
