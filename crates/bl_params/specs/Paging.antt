-- The page tables that a Linux kernel is entered with in 64-bit mode (Linux/x86 Boot Protocol,
-- "64-bit Boot Protocol"): the first 4 GiB, each address translated to itself, in pages of 2 MiB.
-- Their form is the processor's (Intel SDM, volume 3, chapter 4.5, "4-Level Paging and 5-Level
-- Paging"): frames of 512 words of 64 bits, the lowest byte first.
use Rattle.std.specs.Prelude.{ℕ, ◌+◌, ◌-◌, ◌*◌, ◌==◌, nat_lt, if◌then◌else◌, List}
use Rattle.std.specs.List.{flat_map, range_with_len}
use Rattle.bl_params.specs.FieldBytes.{number_bytes}
use Rattle.bl_params.specs.SizesAndOffsets.{page_size}

-- the address of a frame, present and writable: how an upper table names the next one
abbrev pub next_table_word : ℕ → ℕ → ℕ
next_table_word base frame = base + 0x1000 * frame + 3

-- the nth page of 2 MiB, present, writable and of that size (bit 7)
abbrev pub page_word : ℕ → ℕ
page_word n = n * page_size + 0x83

-- the word at an index of a frame: the page map of level 4 names the page-directory-pointer table,
-- which names the four page directories, whose words are the pages in order
unfoldable pub paging_word : ℕ → ℕ → ℕ → ℕ
paging_word base frame index =
    if frame == 0 then (if index == 0 then next_table_word base 1 else 0) else
    if frame == 1 then (if nat_lt index 4 then next_table_word base (2 + index) else 0) else
    page_word (512 * (frame - 2) + index)

-- the bytes of a frame
unfoldable pub paging_frame : ℕ → ℕ → List ℕ
paging_frame base frame =
    flat_map (λ index. number_bytes 8 (paging_word base frame index)) (range_with_len 0 512)

-- the six frames, one after the other
unfoldable pub paging : ℕ → List ℕ
paging base = flat_map (paging_frame base) (range_with_len 0 6)
