-- A relocatable kernel's image: one block from the least to the greatest address of its segments,
-- with zeros in the gaps (Multiboot2 3.1.13 "Relocatable header tag").
use Rattle.std.specs.Prelude.{ℕ, zero, suc, ◌+◌, ◌-◌, if◌then◌else◌, min, max, List, [], ◌∷◌, ◌++◌}
use Rattle.std.specs.Prelude.{slice_index}
use Rattle.bl_mem.specs.declared.segment.Segment.{Segment}
use Rattle.bl_mem.specs.SegmentContents.{contents_of, segment_holds}

-- the least address of segments, of which there is one at least
abbrev pub low_of : List Segment → ℕ
low_of [] = 0
low_of (s ∷ []) = s.address
low_of (s ∷ t ∷ segments) = min s.address (low_of (t ∷ segments))

-- the address after the last byte of segments
abbrev pub high_of : List Segment → ℕ
high_of [] = 0
high_of (s ∷ segments) = max (s.address + s.memsz) (high_of segments)

-- how many bytes the block has
abbrev pub span_of : List Segment → ℕ
span_of segments = high_of segments - low_of segments

-- the byte at a linked address: that of the segment which holds it, 0 where none does
abbrev pub block_byte : List ℕ → List Segment → ℕ → ℕ
block_byte file [] a = 0
block_byte file (s ∷ segments) a =
    if segment_holds s a
    then slice_index (contents_of file s) (a - s.address)
    else block_byte file segments a

-- the first n values of a function
unfoldable pub first_values : ℕ → (ℕ → ℕ) → List ℕ
first_values zero f = []
first_values (suc n) f = first_values n f ++ f n ∷ []

-- the block: its byte i is that at the least address + i
unfoldable pub block_of : List ℕ → List Segment → List ℕ
block_of file segments =
    first_values (span_of segments) (λ i. block_byte file segments (low_of segments + i))
