-- The segment and the entry of a header are numbers that stay small, where the file's bytes are
-- bytes.
use Rattle.std.proofs.Common.{◌≡◌, ◌≤◌, ◌<◌, ◌+◌, ◌^◌, ℕ, Bool, true, false, if◌then◌else◌, Option}
use Rattle.std.proofs.Common.{Some, None, IfSome, List, length, slice_index, refl, sym, subst}
use Rattle.std.proofs.Common.{arith}
use Rattle.std.proofs.lemmas.Bool.Decides.{nat_tests}
use Rattle.bl_mem.proofs.LittleEndianLaws.{u32_at-lt}
use Rattle.bl_mem.specs.declared.segment.Segment.{Segment}
use Rattle.bl_mb2head.specs.declared.address.AddressTag.{AddressTag}
use Rattle.bl_mb2head.specs.declared.fault.HeadFault.{HeadFault}
use Rattle.bl_mb2head.specs.declared.fault.HeadFault.TheVariants.{BadTag}
use Rattle.bl_mb2head.specs.declared.header.Header.{Header}
use Rattle.bl_mb2head.specs.declared.tag.Tag.{Tag}
use Rattle.bl_mb2head.specs.Address.{address_tag_at, segment_by_tag, is_bad_address, address_fault}
use Rattle.bl_mb2head.specs.Address.{address_segment}
use Rattle.bl_mb2head.specs.Header.{SegmentFitsFile, IsHeader, entry_address_of}
use Rattle.bl_mb2head.specs.Tags.{last_of}

-- what an address tag with no fault gives
segment_fits : (bytes : List ℕ) (h : ℕ) (tag : AddressTag) → h ≤ length bytes
    → tag.header_addr < 2 ^ 32 → tag.load_addr < 2 ^ 32 → tag.bss_end_addr < 2 ^ 32
    → is_bad_address (length bytes) h tag ≡ false
    → SegmentFitsFile bytes (segment_by_tag (length bytes) h tag)
unfolding is_bad_address
segment_fits bytes h tag inside header load bss sound = record {
  filled = grind (arith, nat_tests);
  in_file = grind (arith, nat_tests);
  address = grind (arith, nat_tests);
  size = grind (arith, nat_tests);
}

no_fault : (bad : Bool) (fault : HeadFault) → (if bad then Some fault else None) ≡ None
    → bad ≡ false
no_fault true fault sound = cc
no_fault false fault sound = refl

address_fits : (bytes : List ℕ) (h : ℕ) (tag : Option Tag) → ((k : ℕ) → slice_index bytes k < 256)
    → h ≤ length bytes → address_fault bytes h tag ≡ None
    → IfSome (address_segment bytes h tag) (SegmentFitsFile bytes)
address_fits bytes h None small inside sound = tt
address_fits bytes h (Some t) small inside sound =
    let tag = address_tag_at bytes t.place in
    segment_fits bytes h tag inside (u32_at-lt bytes (t.place + 8) small)
    (u32_at-lt bytes (t.place + 12) small) (u32_at-lt bytes (t.place + 20) small)
    (no_fault (is_bad_address (length bytes) h tag) (BadTag t.place) sound)

pub header_segment_fits : (screen : Bool) (bytes : List ℕ) (header : Header) → ((k : ℕ) → slice_index bytes k < 256)
    → IsHeader screen bytes header → IfSome header.segment (SegmentFitsFile bytes)
header_segment_fits screen bytes header small is =
    let here = is.begins.place.holds.in_file in
    subst (λ (s : Option Segment). IfSome s (SegmentFitsFile bytes)) (sym is.segment)
    (address_fits bytes header.place (last_of 2 is.tags) small (omega arith) is.sound)

entry_fits : (bytes : List ℕ) (tag : Option Tag) → ((k : ℕ) → slice_index bytes k < 256)
    → IfSome (entry_address_of bytes tag) (λ entry. entry < 2 ^ 32)
entry_fits bytes None small = tt
entry_fits bytes (Some t) small = u32_at-lt bytes (t.place + 8) small

pub header_entry_fits : (screen : Bool) (bytes : List ℕ) (header : Header) → ((k : ℕ) → slice_index bytes k < 256)
    → IsHeader screen bytes header → IfSome header.entry (λ entry. entry < 2 ^ 32)
header_entry_fits screen bytes header small is =
    subst (λ (e : Option ℕ). IfSome e (λ entry. entry < 2 ^ 32)) (sym is.entry)
    (entry_fits bytes (last_of 3 is.tags) small)
