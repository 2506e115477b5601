-- Where a Multiboot2 header stands (Multiboot2 2.0, "3.1.1 The layout of Multiboot2 header" and
-- "3.1.2 The magic fields of Multiboot2 header").
use Rattle.std.specs.Prelude.{◌≡◌, ◌≤◌, ◌+◌, ◌%◌, ◌^◌, ℕ, List, length}
use Rattle.bl_mem.specs.LittleEndian.{u32_at}

-- where the header ends at the latest
abbrev pub search_end : ℕ
search_end = 32768

-- the first word
abbrev pub header_magic : ℕ
header_magic = 0xE85250D6

-- its four words summed: magic, architecture, header_length, checksum
abbrev pub sum_at : List ℕ → ℕ → ℕ
sum_at bytes h =
    u32_at bytes h + u32_at bytes (h + 4) + u32_at bytes (h + 8) + u32_at bytes (h + 12)

-- a header stands at h: at a multiple of 8, its first 16 bytes within the file and the file's first
-- 32768 bytes, with the magic number, and with four words that sum to 0 in 32 bits
pub record IsHeaderAt (bytes : List ℕ) (h : ℕ) : Type 0 where
  pub aligned : h % 8 ≡ 0
  pub in_file : h + 16 ≤ length bytes
  pub in_front : h + 16 ≤ search_end
  pub magic : u32_at bytes h ≡ header_magic
  pub sums : sum_at bytes h % 2 ^ 32 ≡ 0
