-- How large a menu and its texts may be. Own.
use Rattle.std.specs.Prelude.{ℕ}

-- a menu has at most so many entries
abbrev pub max_entries : ℕ
max_entries = 32

-- an entry has at most so many modules
abbrev pub max_modules : ℕ
max_modules = 64

-- a line has at most so many bytes, its zero byte not counted
abbrev pub max_line : ℕ
max_line = 4095

-- a copy of an ACPI root table has at most so many
abbrev pub max_rsdp_length : ℕ
max_rsdp_length = 256
