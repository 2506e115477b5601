-- Sizes and offsets of boot parameters, and sizes of page tables, in bytes.
use Rattle.std.specs.Prelude.{ℕ}

-- boot parameters (Linux/x86 Boot Protocol, "Zero Page")
abbrev pub params_size : ℕ
params_size = 4096

-- "e820_entries": how many entries "e820_table" has
abbrev pub e820_entries_at : ℕ
e820_entries_at = 0x1E8

-- "e820_table"
abbrev pub e820_table_at : ℕ
e820_table_at = 0x2D0

-- an entry of it: addr, size, type
abbrev pub e820_entry_size : ℕ
e820_entry_size = 20

-- where its size and its type stand in it
abbrev pub e820_size_at : ℕ
e820_size_at = 8

abbrev pub e820_type_at : ℕ
e820_type_at = 16

-- the setup header, from "setup_sects" on ("The Real-Mode Kernel Header")
abbrev pub header_at : ℕ
header_at = 0x1F1

-- page tables (Intel SDM, volume 3, chapter 4.5): six frames
abbrev pub page_tables_size : ℕ
page_tables_size = 0x6000

-- own: pages of 2 MiB, and how many of them lie below 4 GiB
abbrev pub page_size : ℕ
page_size = 0x200000

abbrev pub mapped_page_count : ℕ
mapped_page_count = 2048
