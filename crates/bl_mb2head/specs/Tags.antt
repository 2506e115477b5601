-- The tags of a Multiboot2 header, from a place to the header's end
-- (Multiboot2 2.0, "3.1.3 General tag structure" to "3.1.13 Relocatable header tag").
use Rattle.std.specs.Prelude.{◌≡◌, ◌+◌, ◌-◌, ◌*◌, ◌/◌, ℕ, zero, suc, Bool, false, ◌&&◌, ◌||◌, not}
use Rattle.std.specs.Prelude.{if◌then◌else◌, ◌==◌, nat_eq, nat_lt, nat_le, bit_and, List, [], ◌∷◌}
use Rattle.std.specs.Prelude.{reverse, Option, Some, None}
use Rattle.std.specs.List.{find}
use Rattle.bl_mem.specs.LittleEndian.{u16_at, u32_at}
use Rattle.bl_mb2head.specs.declared.tag.Tag.{Tag}
use Rattle.bl_mb2head.specs.declared.fault.HeadFault.{HeadFault}
use Rattle.bl_mb2head.specs.declared.fault.HeadFault.TheVariants.{BadTag, UnsupportedTag}
use Rattle.bl_mb2head.specs.declared.fault.HeadFault.TheVariants.{UnsupportedRequest, NoConsole}

-- the types of tags that are read: end (3.1.3), information request (3.1.4), address (3.1.5), entry
-- address (3.1.6), console flags (3.1.9), framebuffer (3.1.10), relocatable (3.1.13)
abbrev pub end_type : ℕ
end_type = 0

abbrev pub request_type : ℕ
request_type = 1

abbrev pub address_type : ℕ
address_type = 2

abbrev pub entry_type : ℕ
entry_type = 3

abbrev pub console_type : ℕ
console_type = 4

abbrev pub framebuffer_type : ℕ
framebuffer_type = 5

abbrev pub relocatable_type : ℕ
relocatable_type = 10

-- the last type that the specification has
abbrev pub last_type : ℕ
last_type = 10

-- the tag whose first byte is at a place (3.1.3)
abbrev pub tag_at : List ℕ → ℕ → Tag
tag_at bytes at = record {
  place = at;
  kind = u16_at bytes at;
  flags = u16_at bytes (at + 2);
  size = u32_at bytes (at + 4);
}

-- the next multiple of 8 after a tag: padding is not part of its size (3.1.3)
abbrev pub next_tag_place : Tag → ℕ
next_tag_place t = (t.place + t.size + 7) / 8 * 8

-- the least size of a kind of tag: that of the fields which are read (3.1.5, 3.1.6, 3.1.9, 3.1.13)
abbrev pub min_tag_size : ℕ → ℕ
min_tag_size kind =
    if kind == address_type || kind == relocatable_type then 24 else
    if kind == entry_type || kind == console_type then 12 else 8

-- type, flags and size lie before the header's end, and so does the whole tag; its size is one of
-- its kind, and the tag that ends the tags has size 8
unfoldable pub is_well_formed : List ℕ → ℕ → ℕ → Bool
is_well_formed bytes end at =
    nat_le (at + 8) end && nat_le (at + u32_at bytes (at + 4)) end
    && nat_le (min_tag_size (u16_at bytes at)) (u32_at bytes (at + 4))
    && (not (u16_at bytes at == end_type) || u32_at bytes (at + 4) == 8)

-- bit 0 of the flags: the tag may be ignored (3.1.3)
abbrev pub is_optional : Tag → Bool
is_optional t = not (bit_and t.flags 1 == 0)

-- n words from a place on
abbrev pub words_at : List ℕ → ℕ → ℕ → List ℕ
words_at bytes at zero = []
words_at bytes at (suc n) = u32_at bytes at ∷ words_at bytes (at + 4) n

-- own: the types of information that can be given are 1 to 21 without 9, the ELF symbols
abbrev pub can_be_given : ℕ → Bool
can_be_given kind = nat_le 1 kind && nat_le kind 21 && not (kind == 9)

-- the first type that an information request names and that can't be given (3.1.4)
unfoldable pub first_unsupported : List ℕ → Tag → Option ℕ
first_unsupported bytes t =
    find (λ kind. not (can_be_given kind)) (words_at bytes (t.place + 8) ((t.size - 8) / 4))

-- what is wrong with what a request names
abbrev pub request_fault : Option ℕ → Option HeadFault
request_fault None = None
request_fault (Some kind) = Some (UnsupportedRequest kind)

-- bit 0 of the console flags: the tag asks for a console (3.1.9)
abbrev pub asks_for_console : List ℕ → Tag → Bool
asks_for_console bytes t =
    t.kind == console_type && not (bit_and (u32_at bytes (t.place + 8)) 1 == 0)

-- a framebuffer tag (3.1.10) is one of the n tags from a place on, as far as they can be followed:
-- none follows the last, or a bad one
abbrev pub has_framebuffer_tag : List ℕ → ℕ → ℕ → ℕ → Bool
has_framebuffer_tag bytes end zero at = false
has_framebuffer_tag bytes end (suc n) at =
    is_well_formed bytes end at && not (u16_at bytes at == end_type)
    && (u16_at bytes at == framebuffer_type
    || has_framebuffer_tag bytes end n (next_tag_place (tag_at bytes at)))

-- what is wrong with the tag at a place: the first fault in this order
unfoldable pub tag_fault_at : Bool → List ℕ → ℕ → ℕ → Option HeadFault
tag_fault_at has_console bytes end at =
    let t = tag_at bytes at in
    if not (is_well_formed bytes end at) then Some (BadTag at) else
    if is_optional t then None else
    if nat_lt last_type t.kind then Some (UnsupportedTag t.kind) else
    if t.kind == request_type then request_fault (first_unsupported bytes t) else
    if asks_for_console bytes t && not has_console then Some NoConsole else
    None

-- these tags stand one after the other from at to next, none of them the last, with no fault
abbrev pub AreTags : Bool → List ℕ → ℕ → ℕ → ℕ → List Tag → Type 0
AreTags has_console bytes end at next [] = at ≡ next
AreTags has_console bytes end at next (t ∷ ts) =
    (t ≡ tag_at bytes at) × (tag_fault_at has_console bytes end at ≡ None)
    × (nat_eq t.kind end_type ≡ false)
    × AreTags has_console bytes end (next_tag_place t) next ts

-- these are all tags from at on, up to the tag of type 0 at some place
pub record AreAllTags (has_console : Bool) (bytes : List ℕ) (end at : ℕ) (ts : List Tag) : Type 0
  where
    pub next : ℕ
    pub tags : AreTags has_console bytes end at next ts
    pub sound : tag_fault_at has_console bytes end next ≡ None
    pub ends : u16_at bytes next ≡ end_type

-- the first tag with a fault has this one
pub record IsFirstTagFault (has_console : Bool) (bytes : List ℕ) (end at : ℕ) (fault : HeadFault)
    : Type 0 where
  pub before : List Tag
  pub next : ℕ
  pub tags : AreTags has_console bytes end at next before
  pub faulty : tag_fault_at has_console bytes end next ≡ Some fault

-- own: of several tags of one kind the last one counts, be it optional or not
abbrev pub last_of : ℕ → List Tag → Option Tag
last_of kind ts = find (λ t. nat_eq t.kind kind) (reverse ts)
