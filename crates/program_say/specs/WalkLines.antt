-- The lines that tell what a kernel sees in an image. Own.
use Rattle.std.specs.Prelude.{ℕ, ◌==◌, if◌then◌else◌, List, [], ◌++◌, Option, Some, None}
use Rattle.std.specs.Prelude.{length, codes, decimal}
use Rattle.std.specs.List.{flat_map}
use Rattle.hex.specs.Hex.{encode_lower}
use Rattle.bl_map.specs.declared.region.Region.{Region}
use Rattle.bl_map.specs.Kinds.{kind_number}
use Rattle.bl_map.specs.NormalMap.{region_end}
use Rattle.bl_plan.specs.declared.protocol.Protocol.{Protocol}
use Rattle.bl_plan.specs.Protocols.{protocol_name}
use Rattle.bl_walk.specs.SeenFacts.{SeenModuleFacts, SeenFileFacts, SeenFacts}
use Rattle.bl_walk.specs.declared.seen.SeenPart.{SeenPart}
use Rattle.program_say.specs.Addresses.{hex8}
use Rattle.program_say.specs.BootAndMapLines.{hex16}
use Rattle.program_say.specs.FirmwareLines.{firmware_lines}

-- a text: how many bytes it has, and after a space its bytes in hexadecimal digits, if there are
-- any
unfoldable pub text_word : List ℕ → List ℕ
text_word bytes =
    if length bytes == 0 then codes "0" else
    decimal (length bytes) ++ codes " " ++ encode_lower bytes

-- a protocol is called as in a description
abbrev pub protocol_line : Protocol → List ℕ
protocol_line protocol = codes "protocol " ++ protocol_name protocol ++ codes "\n"

abbrev pub entry_address_line : ℕ → List ℕ
entry_address_line entry = codes "entry " ++ hex8 entry ++ codes "\n"

abbrev pub command_line_line : List ℕ → List ℕ
command_line_line line = codes "line " ++ text_word line ++ codes "\n"

-- a part of the kernel: its address, its length
abbrev pub kernel_line : SeenPart → List ℕ
kernel_line part =
    codes "kernel " ++ hex8 part.address ++ codes " " ++ decimal part.length ++ codes "\n"

-- the front of a module's line: its address, its length
abbrev pub module_front : SeenModuleFacts → List ℕ
module_front m =
    codes "module " ++ hex8 m.mod_start ++ codes " " ++ decimal (length m.bytes) ++ codes " "

-- a module: its address, its length, its line
abbrev pub module_line : SeenModuleFacts → List ℕ
module_line m = module_front m ++ text_word m.line ++ codes "\n"

-- the initial ramdisk: its address, its length
abbrev pub ramdisk_line : SeenFileFacts → List ℕ
ramdisk_line file =
    codes "initrd " ++ hex8 file.address ++ codes " " ++ decimal (length file.bytes) ++ codes "\n"

abbrev pub initrd_line : Option SeenFileFacts → List ℕ
initrd_line None = []
initrd_line (Some file) = ramdisk_line file

-- the front of the line of a run of the memory map: its start
abbrev pub run_front : ℕ → List ℕ
run_front start = codes "map " ++ hex16 start ++ codes " "

abbrev pub run_kind : ℕ → List ℕ
run_kind kind = codes " " ++ decimal kind ++ codes "\n"

abbrev pub seen_run_line : Region → List ℕ
seen_run_line run =
    run_front run.base ++ hex16 (region_end run) ++ run_kind (kind_number run.kind)

-- a copy of an RSDP, if there is one
abbrev pub rsdp_copy_line : List ℕ → Option (List ℕ) → List ℕ
rsdp_copy_line word None = []
rsdp_copy_line word (Some copy) = word ++ text_word copy ++ codes "\n"

-- the lines of what a kernel sees, in order
abbrev pub walk_lines : SeenFacts → List ℕ
walk_lines seen =
    protocol_line seen.protocol ++ entry_address_line seen.entry ++ command_line_line seen.line
    ++ flat_map kernel_line seen.kernel ++ flat_map module_line seen.modules
    ++ initrd_line seen.initrd ++ flat_map seen_run_line seen.map
    ++ rsdp_copy_line (codes "rsdp-old ") seen.rsdp_old
    ++ rsdp_copy_line (codes "rsdp-new ") seen.rsdp_new
    ++ firmware_lines seen.firmware
