-- How many steps and own bytes a plan has at most, so that arrays may have a fixed room. Own.
use Rattle.std.specs.Prelude.{ℕ}

-- three for each of 128 segments of a block (zeros before it, its bytes, zeros after them), one of
-- zeros after the block, two for each of 64 modules, two for the information: 515, rounded up
abbrev pub max_steps : ℕ
max_steps = 520

-- 400 KiB. The information has most: 4112 bytes for each of 64 modules, 4104 for the kernel's line,
-- 24 for each of 256 runs of memory, 264 for each of two copies of the RSDP, 64 KiB for the memory
-- map of UEFI and for the tables of SMBIOS each, 176 for the rest
abbrev pub max_own : ℕ
max_own = 409600
