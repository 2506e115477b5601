-- The table of places of an entry's parts; here those of Multiboot2. Own; the kernel's row with a
-- relocatable header tag is Multiboot2 3.1.13.
use Rattle.std.specs.Prelude.{ℕ, suc, ◌+◌, max, length, if◌then◌else◌, ◌==◌, List, [], ◌∷◌, ◌++◌}
use Rattle.std.specs.Prelude.{Option, Some, None, option_map}
use Rattle.bl_mem.specs.declared.segment.Segment.{Segment}
use Rattle.bl_map.specs.MachineFacts.{MachineFacts}
use Rattle.bl_map.specs.NormalMap.{low_kib, high_kib}
use Rattle.bl_map.specs.Limits.{frame_size, first_usable, max_size, high_start}
use Rattle.bl_map.specs.PoolFrames.{round_up_to_frames}
use Rattle.bl_mb2head.specs.declared.relocation.Relocation.{Relocation}
use Rattle.bl_mbi.specs.InfoToWriteFacts.{ModuleInfo, InfoToWriteFacts, efi_tables}
use Rattle.bl_mbi.specs.InfoToWriteFacts.{info_size}
use Rattle.bl_plan.specs.declared.part.Row.{Row}
use Rattle.bl_plan.specs.declared.part.Place.{Place}
use Rattle.bl_plan.specs.declared.part.Role.TheVariants.{Kernel, Module, Information}
use Rattle.bl_plan.specs.declared.part.Choice.{Choice}
use Rattle.bl_plan.specs.declared.part.Choice.TheVariants.{Fixed, Lowest, Highest, Preferred}
use Rattle.bl_load.specs.Addresses.{address_of}
use Rattle.bl_load.specs.EntryValue.{EntryValue, module_file, initrd_file}
use Rattle.bl_load.specs.KernelReading.{KernelReading, multiboot2, linux}
use Rattle.bl_load.specs.LinuxRows.{linux_rows}
use Rattle.bl_load.specs.KernelBlock.{low_of, span_of}

-- segments at their own addresses, numbered from k on
abbrev pub segment_rows : ℕ → List Segment → List Row
segment_rows k [] = []
segment_rows k (s ∷ segments) =
    record { role = Kernel; index = k; length = s.memsz; choice = Fixed s.address }
    ∷ segment_rows (suc k) segments

-- an alignment of 0 is one of 1
abbrev pub align_of : Relocation → ℕ
align_of r = if r.align == 0 then 1 else r.align

-- the preference for the lowest place, and for the highest
abbrev pub load_preference_low : ℕ
load_preference_low = 1

abbrev pub load_preference_high : ℕ
load_preference_high = 2

-- any other preference is the linked address, and the lowest place where that is not permitted
abbrev pub block_choice : Relocation → ℕ → Choice
block_choice r linked =
    if r.preference == load_preference_low then Lowest (align_of r) r.min_addr r.max_addr else
    if r.preference == load_preference_high then Highest (align_of r) r.min_addr r.max_addr else
    Preferred linked (align_of r) r.min_addr r.max_addr

-- each segment at its address; with a relocatable tag one block
abbrev pub kernel_rows : List Segment → Option Relocation → List Row
kernel_rows segments None = segment_rows 0 segments
kernel_rows segments (Some r) =
    record {
      role = Kernel;
      index = 0;
      length = span_of segments;
      choice = block_choice r (low_of segments);
    } ∷ []

-- a module takes whole frames, and at least one
abbrev pub module_length : List ℕ → ℕ
module_length file = round_up_to_frames (max (length file) 1)

-- each module in order, numbered from k on, at the lowest place from 1 MiB on
abbrev pub module_rows : List (List ℕ) → ℕ → List (List ℕ) → List Row
module_rows files k [] = []
module_rows files k (line ∷ lines) = record {
  role = Module;
  index = k;
  length = module_length (module_file files k);
  choice = Lowest frame_size high_start max_size;
} ∷ module_rows files (suc k) lines

-- what the information tells of each module in order, numbered from k on, where the parts have
-- these places: it ends where its file ends, and not with its frame
abbrev pub told_modules : List (List ℕ) → List Place → ℕ → List (List ℕ) → List ModuleInfo
told_modules files places k [] = []
told_modules files places k (line ∷ lines) = record {
  mod_start = address_of Module k places;
  mod_end = address_of Module k places + length (module_file files k);
  line = line;
} ∷ told_modules files places (suc k) lines

-- what the information tells, where the parts have these places: what firmware tells and the copies
-- of the RSDP as they stand, the load base only with a relocatable tag
abbrev pub information_of : MachineFacts → EntryValue → Option Relocation → List Place
    → InfoToWriteFacts
information_of facts value relocation places = record {
  line = value.line;
  modules = told_modules value.files places 0 value.module_lines;
  mem_lower = low_kib facts.runs;
  mem_upper = high_kib facts.runs;
  runs = facts.runs;
  screen = facts.firmware.screen;
  efi = option_map efi_tables facts.firmware.efi;
  smbios = facts.firmware.smbios;
  rsdp_old = value.rsdp_old;
  rsdp_new = value.rsdp_new;
  load_base = option_map (λ r. address_of Kernel 0 places) relocation;
}

-- the information, in whole frames, at the lowest place of all; its size does not depend on any
-- place
abbrev pub information_row : MachineFacts → EntryValue → Option Relocation → Row
information_row facts value relocation = record {
  role = Information;
  index = 0;
  length = round_up_to_frames (info_size (information_of facts value relocation []));
  choice = Lowest frame_size first_usable max_size;
}

-- the rows of an entry, by what was read of its kernel
abbrev pub rows_of : MachineFacts → EntryValue → KernelReading → List Row
rows_of facts value (multiboot2 kernel) =
    kernel_rows kernel.segments kernel.relocation
    ++ (module_rows value.files 0 value.module_lines
    ++ information_row facts value kernel.relocation ∷ [])
rows_of facts value (linux setup) =
    linux_rows value.protocol setup (initrd_file value.files)
