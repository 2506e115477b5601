-- A whole header: its place, its length, its architecture, its tags (Multiboot2 2.0, "3.1 OS image
-- format").
use Rattle.std.specs.Prelude.{◌≡◌, ◌≢◌, ◌≤◌, ◌<◌, ◌+◌, ◌^◌, ◌⊎◌, ℕ, Bool, true, false, ◌&&◌, ◌||◌}
use Rattle.std.specs.Prelude.{nat_lt, max, List, length, Option, Some, None}
use Rattle.bl_mem.specs.Least.{IsLeast}
use Rattle.bl_mem.specs.LittleEndian.{u32_at}
use Rattle.bl_mem.specs.declared.segment.Segment.{Segment}
use Rattle.bl_mb2head.specs.HeaderPlace.{IsHeaderAt, search_end}
use Rattle.bl_mb2head.specs.Tags.{has_framebuffer_tag, AreAllTags, IsFirstTagFault, last_of}
use Rattle.bl_mb2head.specs.Tags.{address_type, entry_type, relocatable_type}
use Rattle.bl_mb2head.specs.Address.{address_fault, address_segment}
use Rattle.bl_mb2head.specs.declared.tag.Tag.{Tag}
use Rattle.bl_mb2head.specs.declared.relocation.Relocation.{Relocation}
use Rattle.bl_mb2head.specs.declared.header.Header.{Header}
use Rattle.bl_mb2head.specs.declared.fault.HeadFault.{HeadFault}
use Rattle.bl_mb2head.specs.declared.fault.HeadFault.TheVariants.{NoHeader, HeaderCut}
use Rattle.bl_mb2head.specs.declared.fault.HeadFault.TheVariants.{BadArchitecture, BadTag}
use Rattle.bl_mb2head.specs.declared.fault.HeadFault.TheVariants.{UnsupportedTag}
use Rattle.bl_mb2head.specs.declared.fault.HeadFault.TheVariants.{UnsupportedRequest, NoConsole}

-- where the header at h ends: header_length counts from its first byte (3.1.2)
abbrev pub tags_end : List ℕ → ℕ → ℕ
tags_end bytes h = h + u32_at bytes (h + 8)

-- a header whose only tag is the last has 24 bytes
abbrev pub min_length : ℕ
min_length = 24

-- the header at h has no room for the tag that ends its tags, or does not lie in the file and its
-- first 32768 bytes (3.1)
abbrev pub is_cut : List ℕ → ℕ → Bool
is_cut bytes h =
    nat_lt (u32_at bytes (h + 8)) min_length
    || nat_lt (length bytes) (tags_end bytes h)
    || nat_lt search_end (tags_end bytes h)

-- the header's second word: architecture 0 is the protected mode of i386 (3.1.2)
abbrev pub architecture_at : List ℕ → ℕ → ℕ
architecture_at bytes h = u32_at bytes (h + 4)

-- own: a screen is the console of a kernel whose header has a framebuffer tag, before the console
-- flags or after them. It has fewer tags than bytes
abbrev pub has_console : Bool → List ℕ → ℕ → Bool
has_console has_screen bytes h =
    has_screen && has_framebuffer_tag bytes (tags_end bytes h) (tags_end bytes h) (h + 16)

-- the entry address that a tag gives (3.1.6)
abbrev pub entry_address_of : List ℕ → Option Tag → Option ℕ
entry_address_of bytes None = None
entry_address_of bytes (Some t) = Some (u32_at bytes (t.place + 8))

-- where the image may be moved to, as a tag gives it (3.1.13)
abbrev pub relocation_of : List ℕ → Option Tag → Option Relocation
relocation_of bytes None = None
relocation_of bytes (Some t) = Some (record {
  min_addr = u32_at bytes (t.place + 8);
  max_addr = u32_at bytes (t.place + 12);
  align = u32_at bytes (t.place + 16);
  preference = u32_at bytes (t.place + 20);
})

-- the file's header stands at h, and nothing is wrong with it up to its tags
pub record BeginsAt (bytes : List ℕ) (h : ℕ) : Type 0 where
  pub place : IsLeast (IsHeaderAt bytes) h
  pub whole : is_cut bytes h ≡ false
  pub architecture : architecture_at bytes h ≡ 0

-- these are all tags of the header at h, none of them with a fault of its own
abbrev pub AreTagsOf : Bool → List ℕ → ℕ → List Tag → Type 0
AreTagsOf has_screen bytes h tags =
    AreAllTags (has_console has_screen bytes h) bytes (tags_end bytes h) (h + 16) tags

-- the first tag of the header at h with a fault has this one
abbrev pub IsTagFaultOf : Bool → List ℕ → ℕ → HeadFault → Type 0
IsTagFaultOf has_screen bytes h fault =
    IsFirstTagFault (has_console has_screen bytes h) bytes (tags_end bytes h) (h + 16) fault

-- no tag of the header at h has a fault of its own, and the address tag that counts has this one
pub record IsAddressFault (has_screen : Bool) (bytes : List ℕ) (h : ℕ) (fault : HeadFault) : Type 0
  where
    pub tags : List Tag
    pub all : AreTagsOf has_screen bytes h tags
    pub faulty : address_fault bytes h (last_of address_type tags) ≡ Some fault

-- on a machine that has a screen or none, the file has a header with no fault, and this is what it
-- says
pub record IsHeader (has_screen : Bool) (bytes : List ℕ) (header : Header) : Type 0 where
  pub begins : BeginsAt bytes header.place
  pub tags : List Tag
  pub all : AreTagsOf has_screen bytes header.place tags
  pub sound : address_fault bytes header.place (last_of address_type tags) ≡ None
  pub segment : header.segment ≡ address_segment bytes header.place (last_of address_type tags)
  pub entry : header.entry ≡ entry_address_of bytes (last_of entry_type tags)
  pub relocation : header.relocation ≡ relocation_of bytes (last_of relocatable_type tags)

-- the file's first fault, in the order of these lines. The tags are judged one after the other, and
-- the address tag that counts after all of them
abbrev pub HasFirstHeadFault : Bool → List ℕ → HeadFault → Type 0
HasFirstHeadFault has_screen bytes NoHeader = (h : ℕ) → IsHeaderAt bytes h → ⊥
HasFirstHeadFault has_screen bytes HeaderCut =
    (h : ℕ) × IsLeast (IsHeaderAt bytes) h × (is_cut bytes h ≡ true)
HasFirstHeadFault has_screen bytes BadArchitecture =
    (h : ℕ) × IsLeast (IsHeaderAt bytes) h × (is_cut bytes h ≡ false)
    × (architecture_at bytes h ≢ 0)
HasFirstHeadFault has_screen bytes (BadTag at) =
    (h : ℕ) × BeginsAt bytes h
    × (IsTagFaultOf has_screen bytes h (BadTag at)
    ⊎ IsAddressFault has_screen bytes h (BadTag at))
HasFirstHeadFault has_screen bytes (UnsupportedTag kind) =
    (h : ℕ) × BeginsAt bytes h × IsTagFaultOf has_screen bytes h (UnsupportedTag kind)
HasFirstHeadFault has_screen bytes (UnsupportedRequest kind) =
    (h : ℕ) × BeginsAt bytes h × IsTagFaultOf has_screen bytes h (UnsupportedRequest kind)
HasFirstHeadFault has_screen bytes NoConsole =
    (h : ℕ) × BeginsAt bytes h × IsTagFaultOf has_screen bytes h NoConsole

-- a segment that the file can fill, with sums that stay small
pub record SegmentFitsFile (bytes : List ℕ) (segment : Segment) : Type 0 where
  pub filled : segment.filesz ≤ segment.memsz
  pub in_file : segment.offset + segment.filesz ≤ length bytes
  pub address : segment.address < 2 ^ 32
  pub size : segment.memsz ≤ max (2 ^ 32) (length bytes)
