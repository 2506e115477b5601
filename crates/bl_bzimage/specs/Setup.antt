-- The setup header of a Linux kernel's file (Linux/x86 Boot Protocol, "The Real-Mode Kernel Header"
-- and "Details of Header Fields"): its fields at their offsets, and the first fault that a file
-- has.
use Rattle.std.specs.Prelude.{◌≡◌, ◌+◌, ◌-◌, ◌*◌, ℕ, Bool, ◌&&◌, ◌||◌, not, if◌then◌else◌, ◌==◌}
use Rattle.std.specs.Prelude.{nat_lt, nat_le, min, bit_and, List, length, slice_index, slice_range}
use Rattle.std.specs.Prelude.{Option, Some, None}
use Rattle.std.specs.Int.{is_power_of_two}
use Rattle.bl_mem.specs.LittleEndian.{u16_at, u32_at, u64_at}
use Rattle.bl_bzimage.specs.declared.setup.Setup.{Setup}
use Rattle.bl_bzimage.specs.declared.fault.SetupFault.{SetupFault}
use Rattle.bl_bzimage.specs.declared.fault.SetupFault.TheVariants.{NotBzImage, OldProtocol, NotHigh}
use Rattle.bl_bzimage.specs.declared.fault.SetupFault.TheVariants.{SetupCut, BadAlign, BadPreferred}

-- "jump": a jump of two bytes, whose second one is the distance from 0x202 to the header's end.
-- Own: a header is read up to 0x290 at most, where its place in boot_params ends
abbrev pub header_end : List ℕ → ℕ
header_end bytes = min (0x202 + slice_index bytes 0x201) 0x290

-- "setup_sects": the size of the setup in sectors of 512 bytes, where 0 means 4; the boot sector
-- comes before it, and the payload after it ("Loading The Rest of The Kernel")
abbrev pub payload_at : List ℕ → ℕ
payload_at bytes = ((if slice_index bytes 0x1F1 == 0 then 4 else slice_index bytes 0x1F1) + 1) * 512

-- the fields, each at its offset, the header's bytes, and where the payload is, which ends with the
-- file
unfoldable pub setup_of : List ℕ → Setup
setup_of bytes = record {
  setup_sects = slice_index bytes 0x1F1;
  version = u16_at bytes 0x206;
  loadflags = slice_index bytes 0x211;
  initrd_addr_max = u32_at bytes 0x22C;
  kernel_alignment = u32_at bytes 0x230;
  relocatable_kernel = slice_index bytes 0x234;
  xloadflags = u16_at bytes 0x236;
  cmdline_size = u32_at bytes 0x238;
  pref_address = u64_at bytes 0x258;
  init_size = u32_at bytes 0x260;
  header = slice_range bytes 0x1F1 (header_end bytes);
  payload_offset = payload_at bytes;
  payload_size = length bytes - payload_at bytes;
}

-- "boot_flag" is 0xAA55, and "header" is the bytes `HdrS`, in a file of at least 1024 bytes
abbrev pub is_bz_image : List ℕ → Bool
is_bz_image bytes =
    nat_le 1024 (length bytes)
    && u16_at bytes 0x1FE == 0xAA55
    && u32_at bytes 0x202 == 0x53726448

-- "loadflags", bit 0 (LOADED_HIGH)
abbrev pub is_loaded_high : List ℕ → Bool
is_loaded_high bytes = not (bit_and (slice_index bytes 0x211) 1 == 0)

-- own: the header has each field up to "init_size", and the payload has a byte
abbrev pub is_whole : List ℕ → Bool
is_whole bytes = nat_le 0x264 (header_end bytes) && nat_lt (payload_at bytes) (length bytes)

-- "relocatable_kernel": not 0 where the kernel may lie at any multiple of "kernel_alignment"
abbrev pub is_relocatable : List ℕ → Bool
is_relocatable bytes = not (slice_index bytes 0x234 == 0)

-- own: "kernel_alignment" of a relocatable kernel is a power of two
abbrev pub has_sound_alignment : List ℕ → Bool
has_sound_alignment bytes = not (is_relocatable bytes) || is_power_of_two (u32_at bytes 0x230)

-- "pref_address" of a kernel that is not relocatable, which runs there. Own: from 1 MiB on, within
-- 32 bits
abbrev pub has_sound_pref_address : List ℕ → Bool
has_sound_pref_address bytes =
    is_relocatable bytes
    || (nat_le 0x100000 (u64_at bytes 0x258) && nat_le (u64_at bytes 0x258) 0xFFFFFFFF)

-- the first fault of a file. "version" is the major number times 256 and the minor: 2.10 is the
-- least; own: one above 2.12 is read as 2.12
unfoldable pub setup_fault : List ℕ → Option SetupFault
setup_fault bytes =
    if not (is_bz_image bytes) then Some NotBzImage else
    if nat_lt (u16_at bytes 0x206) 0x020A then Some OldProtocol else
    if not (is_loaded_high bytes) then Some NotHigh else
    if not (is_whole bytes) then Some SetupCut else
    if not (has_sound_alignment bytes) then Some BadAlign else
    if not (has_sound_pref_address bytes) then Some BadPreferred else
    None

-- a file without a fault, and what is read of it
pub record IsSetup (bytes : List ℕ) (setup : Setup) : Type 0 where
  pub sound : setup_fault bytes ≡ None
  pub is : setup ≡ setup_of bytes
