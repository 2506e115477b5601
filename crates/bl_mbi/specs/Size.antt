-- How many bytes boot information takes, by the lengths of what it tells (Multiboot2 3.6 "Boot
-- information format").
use Rattle.std.specs.Prelude.{◌+◌, ◌*◌, ◌/◌, ℕ, Bool, if◌then◌else◌, List, sum_by, Option, Some}
use Rattle.std.specs.Prelude.{None, is_some, option_map}
use Rattle.bl_mbi.specs.declared.tag_types.TheConstants.{FRAMEBUFFER_BODY}

-- information has at least total_size, reserved, and the tag that ends it
abbrev pub min_info_size : ℕ
min_info_size = 16

-- an entry of the memory map: its entry_size (3.6.8 "Memory map")
abbrev pub map_entry_size : ℕ
map_entry_size = 24

-- the tag of the loader's name `bootcore`
abbrev pub loader_name_size : ℕ
loader_name_size = 24

-- a size up to the next multiple of 8
abbrev pub padded : ℕ → ℕ
padded size = (size + 7) / 8 * 8

-- a tag whose body has so many bytes: its type and size take 8
abbrev pub tag_size : ℕ → ℕ
tag_size body = 8 + padded body

-- a tag that may be missing, by how many bytes its body has
abbrev pub tag_size_if : Option ℕ → ℕ
tag_size_if None = 0
tag_size_if (Some body) = tag_size body

-- a body of so many bytes, where there is one
abbrev pub body_if : Bool → ℕ → Option ℕ
body_if given size = if given then Some size else None

-- tables that stand in a body after 8 other bytes of it
abbrev pub behind_8 : Option ℕ → Option ℕ
behind_8 tables = option_map (λ n. n + 8) tables

-- all of it, by the lengths of the line and of each module's line, the number of runs, the lengths
-- of the copies, whether a load base and whether a screen are told, and the lengths of UEFI's
-- memory map and of SMBIOS's tables. No address and no other number has a part in it: the pointer
-- to UEFI's system table takes the same with 32 and with 64 bits.
abbrev pub size_by_lengths : ℕ → List ℕ → ℕ → Option ℕ → Option ℕ → Bool → Bool → Option ℕ
    → Option ℕ → ℕ
size_by_lengths line lines runs rsdp_old rsdp_new load_base screen efi smbios =
    8 + tag_size (line + 1) + loader_name_size + sum_by (λ length. tag_size (length + 9)) lines
    + 16 + (16 + map_entry_size * runs) + tag_size_if (body_if screen FRAMEBUFFER_BODY)
    + tag_size_if (body_if (is_some efi) 8) + tag_size_if (behind_8 smbios)
    + tag_size_if rsdp_old + tag_size_if rsdp_new + tag_size_if (behind_8 efi)
    + tag_size_if (body_if load_base 4) + 8
