-- What the menu of a description attempts, and with which files. Own.
use Rattle.std.specs.Prelude.{ℕ, ◌*◌, List, [], map, slice_index_or}
use Rattle.std.specs.Str.{bytes_eq}
use Rattle.std.specs.List.{flat_map}
use Rattle.bl_plan.specs.declared.protocol.Protocol.TheVariants.{Multiboot2}
use Rattle.bl_load.specs.EntryValue.{EntryValue}
use Rattle.bl_session.specs.menu.Menu.{EntryFacts, MenuFacts}
use Rattle.bl_session.specs.menu.AttemptOrder.{without_repeats_by, attempt_order}
use Rattle.program_desc.specs.Described.{DescriptionFacts}
use Rattle.program_desc.specs.Entries.{Entry, bare_form}
use Rattle.program_desc.specs.EntryNames.{file_names, file_index}

-- ---- the files of an entry

-- the value of an entry whose files hold these texts
abbrev pub entry_value : Entry → List (List ℕ) → EntryValue
entry_value entry files = record {
  protocol = entry.form.protocol;
  line = entry.line;
  files = files;
  module_lines = map (λ m. m.line) entry.form.modules;
  rsdp_old = entry.form.rsdp_old;
  rsdp_new = entry.form.rsdp_new;
}

-- ---- the files of a menu

-- the entries that are attempted, by their index, in order
abbrev pub attempted : DescriptionFacts → List ℕ
attempted description = attempt_order description.default description.fallbacks

-- what is read after the last entry
abbrev pub absent_entry : Entry
absent_entry = record { title = []; kernel = []; line = []; form = bare_form Multiboot2 }

abbrev pub described_entry : DescriptionFacts → ℕ → Entry
described_entry description index = slice_index_or description.entries index absent_entry

-- the names of the files of these entries, by their index, in order, one that was named before left
-- out
abbrev pub names_of_entries : DescriptionFacts → List ℕ → List (List ℕ)
names_of_entries description indices =
    without_repeats_by bytes_eq []
    (flat_map (λ index. file_names (described_entry description index)) indices)

-- the names that are looked for: those of the entries that are attempted
abbrev pub attempted_file_names : DescriptionFacts → List (List ℕ)
attempted_file_names description = names_of_entries description (attempted description)

-- at most so many: 32 entries, each with a kernel and 64 modules
abbrev pub max_names : ℕ
max_names = 32 * 65

-- ---- the menu

abbrev pub entry_facts : List (List ℕ) → Entry → EntryFacts
entry_facts names entry = record {
  files = map (file_index names) (file_names entry);
  blank = entry_value entry [];
}

abbrev pub menu_of : DescriptionFacts → MenuFacts
menu_of description = record {
  entries = map (entry_facts (attempted_file_names description)) description.entries;
  attempts = attempted description;
}
