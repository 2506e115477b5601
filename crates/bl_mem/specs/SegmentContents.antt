-- The bytes that a segment puts into memory (System V gABI, "Program Header": p_offset, p_filesz,
-- p_memsz).
use Rattle.std.specs.Prelude.{ℕ, ◌+◌, ◌-◌, Bool, ◌&&◌, nat_le, nat_lt, List, ◌++◌, replicate}
use Rattle.std.specs.Prelude.{slice_range}
use Rattle.bl_mem.specs.declared.segment.Segment.{Segment}

-- its bytes of the file
abbrev pub file_part : List ℕ → Segment → List ℕ
file_part file segment = slice_range file segment.offset (segment.offset + segment.filesz)

-- those, and zeros up to memsz
abbrev pub contents_of : List ℕ → Segment → List ℕ
contents_of file segment = file_part file segment ++ replicate (segment.memsz - segment.filesz) 0

-- an address lies in the segment, where it is linked
abbrev pub segment_holds : Segment → ℕ → Bool
segment_holds segment a = nat_le segment.address a && nat_lt a (segment.address + segment.memsz)

-- the same as a test of segments
abbrev pub is_in_segment : ℕ → Segment → Bool
is_in_segment a segment = segment_holds segment a
