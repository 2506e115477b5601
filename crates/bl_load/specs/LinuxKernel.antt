-- A Linux kernel's file: its setup, or its first fault (Linux/x86 Boot Protocol, "Details of Header
-- Fields").
use Rattle.std.specs.Prelude.{◌≡◌, ℕ, Bool, not, ◌&&◌, if◌then◌else◌, nat_lt, nat_le, ◌==◌, ◌%◌}
use Rattle.std.specs.Prelude.{List, length, Option, Some, None}
use Rattle.std.specs.Prelude.{option_map}
use Rattle.std.specs.Option.{option_or}
use Rattle.bl_map.specs.declared.region.Region.{Region}
use Rattle.bl_bzimage.specs.declared.setup.Setup.{Setup}
use Rattle.bl_bzimage.specs.declared.fault.SetupFault.{SetupFault}
use Rattle.bl_bzimage.specs.declared.fault.SetupFault.TheVariants as setup_fault
use Rattle.bl_bzimage.specs.Setup.{setup_of}
use Rattle.bl_bzimage.specs.Setup as bzimage
use Rattle.bl_params.specs.ParamsToWriteFacts.{max_e820_entries}
use Rattle.bl_plan.specs.declared.protocol.Protocol.{Protocol}
use Rattle.bl_plan.specs.declared.protocol.Protocol.TheVariants.{Multiboot2, Linux, Linux64}
use Rattle.bl_load.specs.declared.refusal.Refusal.{Refusal}
use Rattle.bl_load.specs.declared.refusal.Refusal.TheVariants as refusal

-- the setup's fault as a refusal of the entry
abbrev pub setup_refusal : SetupFault → Refusal
setup_refusal setup_fault.NotBzImage = refusal.NotBzImage
setup_refusal setup_fault.OldProtocol = refusal.OldProtocol
setup_refusal setup_fault.NotHigh = refusal.NotHigh
setup_refusal setup_fault.SetupCut = refusal.SetupCut
setup_refusal setup_fault.BadAlign = refusal.BadAlign
setup_refusal setup_fault.BadPreferred = refusal.BadPreferred

-- "xloadflags" tells of the 64-bit entry from version 2.12 on, by bit 0 (XLF_KERNEL_64)
abbrev pub has_64_bit_entry : Setup → Bool
has_64_bit_entry setup = nat_le 0x020C setup.version && (setup.xloadflags % 2 == 1)

-- the 64-bit entry lies so many bytes behind the first one that is loaded ("64-bit Boot Protocol")
abbrev pub entry_64 : ℕ
entry_64 = 0x200

-- why a kernel of this setup can't be entered by a protocol: each has the 32-bit entry ("32-bit
-- Boot Protocol"), and Multiboot2 asks nothing of a setup; the 64-bit entry must be there, and be
-- loaded
abbrev pub entering_fault : Protocol → Setup → Option Refusal
entering_fault Multiboot2 setup = None
entering_fault Linux setup = None
entering_fault Linux64 setup =
    if not (has_64_bit_entry setup) then Some refusal.No64Entry else
    if nat_le setup.payload_size entry_64 then Some refusal.EntryOutside else
    None

-- what a kernel of this setup can't be told: a line that is longer than "cmdline_size" says; a
-- memory map of more runs than boot parameters have room for
abbrev pub telling_fault : List Region → List ℕ → Setup → Option Refusal
telling_fault runs line setup =
    if nat_lt setup.cmdline_size (length line) then Some refusal.LineTooLong else
    if nat_lt max_e820_entries (length runs) then Some refusal.MapTooLong else
    None

-- the first fault of a file whose kernel is entered by this protocol, and is told this line and
-- these runs: the setup's, then why it can't be entered, then what it can't be told
abbrev pub linux_fault : Protocol → List Region → List ℕ → List ℕ → Option Refusal
linux_fault protocol runs line file =
    option_or (option_map setup_refusal (bzimage.setup_fault file))
    (option_or (entering_fault protocol (setup_of file)) (telling_fault runs line (setup_of file)))

-- the file has none, and this is its setup
pub record IsLinuxKernel (protocol : Protocol) (runs : List Region) (line file : List ℕ)
    (setup : Setup) : Type 0 where
  pub sound : linux_fault protocol runs line file ≡ None
  pub is : setup ≡ setup_of file

-- the file has this one
abbrev pub HasLinuxFault : Protocol → List Region → List ℕ → List ℕ → Refusal → Type 0
HasLinuxFault protocol runs line file refused = linux_fault protocol runs line file ≡ Some refused
