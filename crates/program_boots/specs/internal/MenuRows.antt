-- What the code keeps of entries and modules that are made of a description's rows. Own.
use Rattle.std.specs.Prelude.{◌≡◌, ℕ, List, All, length, map}
use Rattle.bl_load.specs.EntryValue.{IsWithinLimits}
use Rattle.bl_load.specs.declared.entry.Entry.{Entry}
use Rattle.bl_load.specs.declared.entry.Module.{Module}
use Rattle.bl_session.specs.menu.Menu.{facts_of}
use Rattle.program_desc.specs.EntryNames.{file_index}
use Rattle.program_desc.specs.Views.{entry_view, module_view}
use Rattle.program_desc.specs.declared.entry_form.ModuleRow.{ModuleRow}
use Rattle.program_desc.specs.declared.entry_row.EntryRow.{EntryRow}
use Rattle.program_boots.specs.described.DescribedMenu.{entry_facts}

-- these are the modules of rows, whose files go by their places among the names
pub record AreModulesOf {A : Type 0} (names : List (List ℕ)) (rows : List (ModuleRow A))
    (made : List (Module A)) : Type 0 where
  pub files : map (λ m. m.file) made
      ≡ map (file_index names) (map (λ m. m.file) (map module_view rows))
  pub lines : map (λ m. m.line) made ≡ map (λ m. m.line) (map module_view rows)
  pub count : length made ≡ length rows

-- these are the entries of rows, each within its limits
pub record AreEntriesOf {A : Type 0} (names : List (List ℕ)) (rows : List (EntryRow A))
    (made : List (Entry A)) : Type 0 where
  pub entries : map facts_of made ≡ map (entry_facts names) (map entry_view rows)
  pub count : length made ≡ length rows
  pub few : All IsWithinLimits made
