-- The translation of an address by page tables (Intel SDM, volume 3, chapter 4.5, "4-Level Paging
-- and 5-Level Paging"), for tables of six frames that name each other and pages of 2 MiB that are
-- present and writable, and no more (own: all else translates to nothing). It is a processor's
-- where the base is a multiple of 4096 and bits 52 to 63 of each word are 0: a processor ignores
-- the low bits of the base, and reads those bits of a word as something else than an address.
use Rattle.std.specs.Prelude.{ℕ, ◌+◌, ◌*◌, ◌/◌, ◌%◌, ◌^◌, ◌==◌, ◌&&◌, nat_lt, if◌then◌else◌}
use Rattle.std.specs.Prelude.{List, length, Option, None, Some}
use Rattle.bl_mem.specs.LittleEndian.{u64_at}
use Rattle.bl_params.specs.Paging.{next_table_word}
use Rattle.bl_params.specs.SizesAndOffsets.{page_tables_size, page_size}

-- nine bits of an address from a bit on: the index into the tables of one level
abbrev pub index_at : ℕ → ℕ → ℕ
index_at bit a = a / 2 ^ bit % 512

-- the word that an index names in a frame
abbrev pub table_entry_at : List ℕ → ℕ → ℕ → ℕ
table_entry_at tables frame index = u64_at tables (0x1000 * frame + 8 * index)

-- the frame that an upper word leads to
unfoldable pub frame_in_word : ℕ → ℕ → Option ℕ
frame_in_word base word =
    if word == next_table_word base 0 then Some 0 else
    if word == next_table_word base 1 then Some 1 else
    if word == next_table_word base 2 then Some 2 else
    if word == next_table_word base 3 then Some 3 else
    if word == next_table_word base 4 then Some 4 else
    if word == next_table_word base 5 then Some 5 else
    None

-- the address in the page that a last word names: its low 21 bits tell that it is one
unfoldable pub in_page : ℕ → ℕ → Option ℕ
in_page a word =
    if word % page_size == 0x83 then Some (word / page_size * page_size + a % page_size) else None

-- the frame that the word of an address leads to, in a frame of the level that has this bit
abbrev pub next_frame : List ℕ → ℕ → ℕ → ℕ → ℕ → Option ℕ
next_frame tables base a bit frame =
    frame_in_word base (table_entry_at tables frame (index_at bit a))

-- the walk goes on in the frame that a word leads to
abbrev pub walk_if : Option ℕ → (ℕ → Option ℕ) → Option ℕ
walk_if None walk = None
walk_if (Some frame) walk = walk frame

-- level 4, level 3, and the page that level 2 names
unfoldable pub page_walk : List ℕ → ℕ → ℕ → Option ℕ
page_walk tables base a =
    walk_if (next_frame tables base a 39 0) (λ pointers.
    walk_if (next_frame tables base a 30 pointers) (λ directory.
    in_page a (table_entry_at tables directory (index_at 21 a))))

-- the translation of an address by tables whose bytes stand at base
unfoldable pub translation : List ℕ → ℕ → ℕ → Option ℕ
translation tables base a =
    if length tables == page_tables_size && nat_lt a (2 ^ 48) then page_walk tables base a else None
