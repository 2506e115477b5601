-- The table of places of a Linux entry's parts (Linux/x86 Boot Protocol: "kernel_alignment",
-- "pref_address", "init_size", "initrd_addr_max"; what the text leaves open is own), and what the
-- kernel is told of them.
use Rattle.std.specs.Prelude.{ℕ, ◌+◌, ◌-◌, max, if◌then◌else◌, ◌==◌, List, [], ◌∷◌, ◌++◌, length}
use Rattle.std.specs.Prelude.{Option, Some, None, option_map, option_to_list}
use Rattle.bl_map.specs.Firmware.{efi_info}
use Rattle.bl_map.specs.MachineFacts.{MachineFacts}
use Rattle.bl_map.specs.Limits.{frame_size, first_usable, max_size, high_start}
use Rattle.bl_map.specs.PoolFrames.{round_up_to_frames}
use Rattle.bl_bzimage.specs.declared.setup.Setup.{Setup}
use Rattle.bl_params.specs.ParamsToWriteFacts.{ParamsToWriteFacts}
use Rattle.bl_params.specs.SizesAndOffsets.{page_tables_size}
use Rattle.bl_plan.specs.declared.protocol.Protocol.{Protocol}
use Rattle.bl_plan.specs.declared.protocol.Protocol.TheVariants as protocols
use Rattle.bl_plan.specs.declared.part.Row.{Row}
use Rattle.bl_plan.specs.declared.part.Place.{Place}
use Rattle.bl_plan.specs.declared.part.Role.{Role}
use Rattle.bl_plan.specs.declared.part.Role.TheVariants.{Kernel, BootParams, CommandLine, Gdt}
use Rattle.bl_plan.specs.declared.part.Role.TheVariants.{Initrd, PageTables}
use Rattle.bl_plan.specs.declared.part.Choice.TheVariants.{Fixed, Lowest, Highest}
use Rattle.bl_load.specs.Addresses.{address_of}
use Rattle.bl_load.specs.EntryValue.{EntryValue, initrd_file}

-- a kernel that is loaded high lies from 1 MiB on ("loadflags", LOADED_HIGH); a relocatable one
-- that is loaded below "pref_address" moves itself up to it, so it is not
-- placed below; it needs "init_size" bytes where it lies
abbrev pub relocatable_kernel_row : Setup → Row
relocatable_kernel_row setup = record {
  role = Kernel;
  index = 0;
  length = max setup.payload_size setup.init_size;
  choice = Lowest setup.kernel_alignment (max high_start setup.pref_address) max_size;
}

-- another one lies at 1 MiB, and needs "init_size" bytes from "pref_address" on
abbrev pub fixed_kernel_row : Setup → Row
fixed_kernel_row setup = record {
  role = Kernel;
  index = 0;
  length =
      max (high_start + setup.payload_size) (setup.pref_address + setup.init_size) - high_start;
  choice = Fixed high_start;
}

abbrev pub linux_kernel_row : Setup → Row
linux_kernel_row setup =
    if setup.relocatable_kernel == 0 then fixed_kernel_row setup else relocatable_kernel_row setup

-- a part of one frame, at the lowest place below a limit
abbrev pub frame_row : Role → ℕ → Row
frame_row role high = record {
  role = role;
  index = 0;
  length = frame_size;
  choice = Lowest frame_size first_usable high;
}

-- the line lies below 0xA0000 ("cmd_line_ptr")
abbrev pub line_end_limit : ℕ
line_end_limit = 0xA0000

-- page tables of six frames are a part where a kernel is entered with paging ("64-bit Boot
-- Protocol"); else it is entered without ("32-bit Boot Protocol")
abbrev pub paging_row : Protocol → Option Row
paging_row protocols.Multiboot2 = None
paging_row protocols.Linux = None
paging_row protocols.Linux64 = Some (record {
  role = PageTables;
  index = 0;
  length = page_tables_size;
  choice = Lowest frame_size first_usable max_size;
})

-- the rows before the initrd's
abbrev pub front_rows : Protocol → Setup → List Row
front_rows protocol setup =
    linux_kernel_row setup
    ∷ frame_row BootParams max_size
    ∷ frame_row CommandLine line_end_limit
    ∷ frame_row Gdt max_size
    ∷ option_to_list (paging_row protocol)

-- the initrd, in whole frames, at the highest place of which no byte lies above "initrd_addr_max";
-- an empty one is no part
abbrev pub initrd_rows : Setup → List ℕ → List Row
initrd_rows setup [] = []
initrd_rows setup (byte ∷ bytes) = record {
  role = Initrd;
  index = 0;
  length = round_up_to_frames (length (byte ∷ bytes));
  choice = Highest frame_size first_usable (setup.initrd_addr_max + 1);
} ∷ []

-- the rows of a Linux entry of this protocol whose initial ramdisk has these bytes
abbrev pub linux_rows : Protocol → Setup → List ℕ → List Row
linux_rows protocol setup initrd = front_rows protocol setup ++ initrd_rows setup initrd

-- what boot parameters tell, where the parts have these places: without an initrd its address and
-- its length are 0. UEFI's memory map stays where it lies
abbrev pub boot_params_facts : MachineFacts → EntryValue → List Place → ParamsToWriteFacts
boot_params_facts facts value places = record {
  code32_start = address_of Kernel 0 places;
  ramdisk_image = address_of Initrd 0 places;
  ramdisk_size = length (initrd_file value.files);
  cmd_line_ptr = address_of CommandLine 0 places;
  runs = facts.runs;
  screen = facts.firmware.screen;
  rsdp = facts.firmware.rsdp;
  efi = option_map efi_info facts.firmware.efi;
}
