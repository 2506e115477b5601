-- Which faults a tag can have, and that they are the file's first faults.
use Rattle.std.proofs.Common.{◌≡◌, ℕ, Bool, true, false, if◌then◌else◌, Option, Some, None}
use Rattle.std.proofs.Common.{List, length, refl, sym, ap, ◌∙◌, inl, inr}
use Rattle.bl_mb2head.specs.declared.fault.HeadFault.{HeadFault}
use Rattle.bl_mb2head.specs.declared.fault.HeadFault.TheVariants.{NoHeader, HeaderCut}
use Rattle.bl_mb2head.specs.declared.fault.HeadFault.TheVariants.{BadArchitecture, BadTag}
use Rattle.bl_mb2head.specs.declared.fault.HeadFault.TheVariants.{UnsupportedTag}
use Rattle.bl_mb2head.specs.declared.fault.HeadFault.TheVariants.{UnsupportedRequest, NoConsole}
use Rattle.bl_mb2head.specs.declared.tag.Tag.{Tag}
use Rattle.bl_mb2head.specs.Tags.{request_fault, tag_fault_at, last_of}
use Rattle.bl_mb2head.specs.Address.{address_fault, address_tag_at, is_bad_address}
use Rattle.bl_mb2head.specs.Header.{tags_end, has_console, BeginsAt, IsTagFaultOf, IsAddressFault}
use Rattle.bl_mb2head.specs.Header.{HasFirstHeadFault}

-- no fault, or one that a tag can have
abbrev is_of_tag : Option HeadFault → Bool
is_of_tag None = true
is_of_tag (Some NoHeader) = false
is_of_tag (Some HeaderCut) = false
is_of_tag (Some BadArchitecture) = false
is_of_tag (Some (BadTag at)) = true
is_of_tag (Some (UnsupportedTag kind)) = true
is_of_tag (Some (UnsupportedRequest kind)) = true
is_of_tag (Some NoConsole) = true

-- no fault, or one that an address tag can have
abbrev is_of_address : Option HeadFault → Bool
is_of_address None = true
is_of_address (Some NoHeader) = false
is_of_address (Some HeaderCut) = false
is_of_address (Some BadArchitecture) = false
is_of_address (Some (BadTag at)) = true
is_of_address (Some (UnsupportedTag kind)) = false
is_of_address (Some (UnsupportedRequest kind)) = false
is_of_address (Some NoConsole) = false

is_of_tag-if : (test : Bool) (x y : Option HeadFault) → is_of_tag x ≡ true → is_of_tag y ≡ true
    → is_of_tag (if test then x else y) ≡ true
is_of_tag-if true x y first second = first
is_of_tag-if false x y first second = second

request_is_of_tag : (kind : Option ℕ) → is_of_tag (request_fault kind) ≡ true
request_is_of_tag None = refl
request_is_of_tag (Some kind) = refl

fault_is_of_tag : (console : Bool) (bytes : List ℕ) (end at : ℕ) → is_of_tag (tag_fault_at console bytes end at) ≡ true
unfolding tag_fault_at
fault_is_of_tag console bytes end at = search (is_of_tag-if, request_is_of_tag)

address_is_of_address : (bytes : List ℕ) (h : ℕ) (tag : Option Tag)
    → is_of_address (address_fault bytes h tag) ≡ true
address_is_of_address bytes h None = refl
address_is_of_address bytes h (Some t) =
    elim (is_bad_address (length bytes) h (address_tag_at bytes t.place)) as (λ bad.
    is_of_address (if bad then Some (BadTag t.place) else None) ≡ true)
    [ true ↦ refl | false ↦ refl ]

-- the first fault among the tags is the file's
pub tag_fault_first : (screen : Bool) (bytes : List ℕ) (h : ℕ) (fault : HeadFault) → BeginsAt bytes h
    → IsTagFaultOf screen bytes h fault → HasFirstHeadFault screen bytes fault
tag_fault_first screen bytes h NoHeader begins first =
    let bad : is_of_tag (Some NoHeader) ≡ true =
    ap is_of_tag (sym first.faulty) ∙ fault_is_of_tag (has_console screen bytes h) bytes (tags_end bytes h) first.next in
    absurd cc
tag_fault_first screen bytes h HeaderCut begins first =
    let bad : is_of_tag (Some HeaderCut) ≡ true =
    ap is_of_tag (sym first.faulty) ∙ fault_is_of_tag (has_console screen bytes h) bytes (tags_end bytes h) first.next in
    absurd cc
tag_fault_first screen bytes h BadArchitecture begins first =
    let bad : is_of_tag (Some BadArchitecture) ≡ true =
    ap is_of_tag (sym first.faulty) ∙ fault_is_of_tag (has_console screen bytes h) bytes (tags_end bytes h) first.next in
    absurd cc
tag_fault_first screen bytes h (BadTag at) begins first = (h, begins, inl first)
tag_fault_first screen bytes h (UnsupportedTag kind) begins first = (h, begins, first)
tag_fault_first screen bytes h (UnsupportedRequest kind) begins first = (h, begins, first)
tag_fault_first screen bytes h NoConsole begins first = (h, begins, first)

-- and so is that of the address tag that counts, where no tag has one of its own
pub address_fault_first : (screen : Bool) (bytes : List ℕ) (h : ℕ) (fault : HeadFault) → BeginsAt bytes h
    → IsAddressFault screen bytes h fault → HasFirstHeadFault screen bytes fault
address_fault_first screen bytes h (BadTag at) begins address = (h, begins, inr address)
address_fault_first screen bytes h NoHeader begins address =
    let bad : false ≡ true =
    ap is_of_address (sym address.faulty)
    ∙ address_is_of_address bytes h (last_of 2 address.tags) in absurd cc
address_fault_first screen bytes h HeaderCut begins address =
    let bad : false ≡ true =
    ap is_of_address (sym address.faulty)
    ∙ address_is_of_address bytes h (last_of 2 address.tags) in absurd cc
address_fault_first screen bytes h BadArchitecture begins address =
    let bad : false ≡ true =
    ap is_of_address (sym address.faulty)
    ∙ address_is_of_address bytes h (last_of 2 address.tags) in absurd cc
address_fault_first screen bytes h (UnsupportedTag kind) begins address =
    let bad : false ≡ true =
    ap is_of_address (sym address.faulty)
    ∙ address_is_of_address bytes h (last_of 2 address.tags) in absurd cc
address_fault_first screen bytes h (UnsupportedRequest kind) begins address =
    let bad : false ≡ true =
    ap is_of_address (sym address.faulty)
    ∙ address_is_of_address bytes h (last_of 2 address.tags) in absurd cc
address_fault_first screen bytes h NoConsole begins address =
    let bad : false ≡ true =
    ap is_of_address (sym address.faulty)
    ∙ address_is_of_address bytes h (last_of 2 address.tags) in absurd cc
