-- What the code keeps of an entry with its files.
use Rattle.std.specs.Prelude.{◌≡◌, ◌≤◌, ◌+◌, ℕ, List, length, map, None}
use Rattle.bl_map.specs.MachineFacts.{MachineFacts}
use Rattle.bl_mem.specs.declared.byte_view.ByteView.{Ghosts}
use Rattle.bl_plan.specs.declared.protocol.Protocol.TheVariants.{Multiboot2}
use Rattle.bl_load.specs.declared.checked_entry.CheckedEntry.{CheckedEntry}
use Rattle.bl_load.specs.internal.Multiboot2Entries.{lines_of_modules}
use Rattle.bl_load.specs.internal.ReadKernels.{HasFiles}
use Rattle.bl_load.specs.KernelReading.{KernelReading, IsKernelReading}
use Rattle.bl_load.specs.EntryValue.{EntryValue, lines_fault, lines_of}

-- the files' bytes
abbrev pub texts_in : {A : Type 0} → {V : Type 0} → {view : Ghosts V} → CheckedEntry A V view
    → List (List ℕ)
texts_in {view = view} entry = map view.bytes entry.files.now

-- the entry's value
abbrev pub value_of_files : {A : Type 0} → {V : Type 0} → {view : Ghosts V} → CheckedEntry A V view
    → EntryValue
value_of_files entry = record {
  protocol = entry.protocol;
  line = entry.line.now;
  files = texts_in entry;
  module_lines = lines_of_modules entry.modules.now;
  rsdp_old = entry.rsdp_old.now;
  rsdp_new = entry.rsdp_new.now;
}

-- the entry of a value whose files hold these texts, on a machine of these facts: its lines have no
-- fault, and it has a file for its kernel and for each of its modules
pub record IsCheckedEntry {A : Type 0} {V : Type 0} {view : Ghosts V} (facts : MachineFacts)
    (contents : List (List ℕ)) (value : EntryValue) (entry : CheckedEntry A V view) : Type 0 where
  pub machine : entry.machine.now ≡ facts
  pub texts : texts_in entry ≡ contents
  pub is : value_of_files entry ≡ value
  pub lines : lines_fault (lines_of (value_of_files entry)) ≡ None
  pub some : 1 ≤ length entry.files.now
  pub each : entry.protocol ≡ Multiboot2 → length entry.files.now ≡ 1 + length entry.modules.now

-- the kernel was read so, and there is what it needs
pub record IsReadWithFiles {A : Type 0} {V : Type 0} {view : Ghosts V}
    (entry : CheckedEntry A V view) (reading : KernelReading) : Type 0 where
  pub read : IsKernelReading entry.machine.now (value_of_files entry) reading
  pub files : HasFiles (texts_in entry) (length entry.modules.now) reading
