-- What the code tells a kernel, spelled from what its own functions are given.
use Rattle.std.specs.Prelude.{◌≡◌, ℕ, ◌+◌, List, Option, option_map, All, length}
use Rattle.bl_map.specs.NormalMap.{low_kib, high_kib}
use Rattle.bl_mem.specs.declared.byte_view.ByteView.{Ghosts}
use Rattle.bl_mbi.specs.InfoToWriteFacts.{InfoToWriteFacts, ModuleInfo, efi_tables}
use Rattle.bl_plan.specs.declared.part.Place.{Place}
use Rattle.bl_plan.specs.declared.part.Role.TheVariants.{Module}
use Rattle.bl_load.specs.declared.checked_entry.CheckedEntry.{CheckedEntry}
use Rattle.bl_load.specs.Addresses.{address_of}
use Rattle.bl_load.specs.internal.CheckedEntries.{texts_in}
use Rattle.bl_load.specs.internal.Placing.{EndsLow, ModulesEndLow}

-- a module, by its line and by how long its file is
abbrev pub module_info : ℕ → List ℕ → ℕ → List Place → ModuleInfo
module_info k line size places = record {
  mod_start = address_of Module k places;
  mod_end = address_of Module k places + size;
  line = line;
}

-- the information, by what it tells of the modules and by the load base
abbrev pub info_with : {A : Type 0} → {V : Type 0} → {view : Ghosts V} → CheckedEntry A V view
    → List ModuleInfo → Option ℕ → InfoToWriteFacts
info_with entry modules load_base = record {
  line = entry.line.now;
  modules = modules;
  mem_lower = low_kib entry.machine.now.runs;
  mem_upper = high_kib entry.machine.now.runs;
  runs = entry.machine.now.runs;
  screen = entry.machine.now.firmware.screen;
  efi = option_map efi_tables entry.machine.now.firmware.efi;
  smbios = entry.machine.now.firmware.smbios;
  rsdp_old = entry.rsdp_old.now;
  rsdp_new = entry.rsdp_new.now;
  load_base = load_base;
}

-- an entry has a file for each of its modules, and none of them ends too high, where the parts have
-- these places
pub record HasModulesAt {A V : Type 0} {view : Ghosts V} (entry : CheckedEntry A V view)
    (places : List Place) : Type 0 where
  pub files : length entry.files.now ≡ 1 + length entry.modules.now
  pub low : All EndsLow places
  pub ends : ModulesEndLow (texts_in entry) places (length entry.modules.now)
