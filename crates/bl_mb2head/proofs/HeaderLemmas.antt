-- Where the fields of a header lie that begins with no fault.
use Rattle.std.proofs.Common.{◌≤◌, ◌+◌, ℕ, List, Option, Some, None, IfSome, length, arith}
use Rattle.std.proofs.lemmas.Bool.{ltb-false, or_parts}
use Rattle.bl_mem.specs.LittleEndian.{u32_at}
use Rattle.bl_mb2head.specs.declared.tag.Tag.{Tag}
use Rattle.bl_mb2head.specs.Header.{tags_end, BeginsAt}

-- the header ends within the file
pub ends_in_file : (bytes : List ℕ) (h : ℕ) → BeginsAt bytes h → tags_end bytes h ≤ length bytes
ends_in_file bytes h begins = ltb-false _ _ (or_parts _ _ (or_parts _ _ begins.whole).0).1

-- a tag has room before the header's end
pub ends_after_tag : (bytes : List ℕ) (h : ℕ) → BeginsAt bytes h → h + 24 ≤ tags_end bytes h
ends_after_tag bytes h begins =
    let long : 24 ≤ u32_at bytes (h + 8) =
    ltb-false _ _ (or_parts _ _ (or_parts _ _ begins.whole).0).0 in
    omega arith

-- and within the file's first 32768 bytes
pub ends_in_front : (bytes : List ℕ) (h : ℕ) → BeginsAt bytes h → tags_end bytes h ≤ 32768
ends_in_front bytes h begins = ltb-false _ _ (or_parts _ _ begins.whole).1

-- fields that lie before the header's end lie before what is after it
pub lies_before : (tag : Option Tag) (fields end later : ℕ)
    → IfSome tag (λ t. t.place + fields ≤ end) → end ≤ later
    → IfSome tag (λ t. t.place + fields ≤ later)
lies_before None fields end later inside le = inside
lies_before (Some t) fields end later inside le = omega arith
