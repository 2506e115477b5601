-- The descriptors of segments (Linux/x86 Boot Protocol, "32-bit Boot Protocol" and "64-bit Boot
-- Protocol": __BOOT_CS and __BOOT_DS, flat 4 GiB).
use Rattle.std.specs.Prelude.{ℕ, List, [], ◌∷◌, ◌++◌, replicate}
use Rattle.std.specs.List.{flat_map}
use Rattle.byteorder.specs.Endian.{little_bytes}

-- two null descriptors, the code segment at 0x10, the data segment at 0x18
abbrev pub gdt : List ℕ
gdt = flat_map (little_bytes 8) (0 ∷ 0 ∷ 0x00CF9A000000FFFF ∷ 0x00CF92000000FFFF ∷ [])

-- the same for the 64-bit entry: the code segment at 0x10 is one of 64-bit code
abbrev pub gdt64 : List ℕ
gdt64 = flat_map (little_bytes 8) (0 ∷ 0 ∷ 0x00AF9A000000FFFF ∷ 0x00CF92000000FFFF ∷ [])

unfoldable pub zeros : ℕ → List ℕ
zeros n = replicate n 0

-- own: they stand at the front of a frame, and the rest of it is zeros
abbrev pub gdt_part : List ℕ
gdt_part = gdt ++ zeros 4064
