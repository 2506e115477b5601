-- The limits of memory: in bytes, in KiB where it says so, and how many regions and runs there are.
-- Own.
use Rattle.std.specs.Prelude.{ℕ, ◌^◌}

-- a frame: files are staged in these, and a machine's size and its pool are whole ones
abbrev pub frame_size : ℕ
frame_size = 4096

-- a machine's size: 1 MiB to 4 GiB, both included
abbrev pub min_size : ℕ
min_size = 0x100000

abbrev pub max_size : ℕ
max_size = 2 ^ 32

-- a machine is made of at most so many regions
abbrev pub max_regions : ℕ
max_regions = 128

-- where a region ends at most
abbrev pub max_region_end : ℕ
max_region_end = 2 ^ 52

-- bytes in a KiB
abbrev pub kib : ℕ
kib = 1024

-- Multiboot2 3.6.3 "Basic memory information": the most KiB that mem_lower tells
abbrev pub max_low_kib : ℕ
max_low_kib = 640

-- where high memory starts: 1 MiB
abbrev pub high_start : ℕ
high_start = 0x100000

-- the most KiB that mem_upper tells: what 32 bits hold
abbrev pub max_high_kib : ℕ
max_high_kib = 0xFFFFFFFF

-- a normal map has at most so many runs
abbrev pub max_runs : ℕ
max_runs = 256

-- where usable memory may lie: neither in the first frame nor from the last frame below 4 GiB on
abbrev pub first_usable : ℕ
first_usable = 4096

abbrev pub usable_limit : ℕ
usable_limit = 0xFFFFF000
