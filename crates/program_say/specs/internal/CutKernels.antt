-- Where a Linux kernel ends in its file. Own.
use Rattle.std.specs.Prelude.{ℕ, ◌+◌, ◌*◌, List}
use Rattle.bl_mem.specs.LittleEndian.{u32_at}
use Rattle.bl_bzimage.specs.Setup.{payload_at}

-- where a kernel's code ends in its file: "syssize" (Linux/x86 Boot Protocol, "Details of Header
-- Fields") is its size in units of 16 bytes, and it stands where the payload does
abbrev pub code_end : List ℕ → ℕ
code_end bytes = payload_at bytes + u32_at bytes 0x1F4 * 16
