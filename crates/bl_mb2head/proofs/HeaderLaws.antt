-- A file's header, or its first fault, is determined by its bytes.
use Rattle.std.proofs.Common.{◌≡◌, ◌≢◌, ◌+◌, ℕ, Bool, true, false, not, if◌then◌else◌, ◌==◌, ◌⊎◌}
use Rattle.std.proofs.Common.{Option, Some, None, List, refl, sym, ap, subst, ◌∙◌, inl, inr, arith}
use Rattle.std.proofs.lemmas.Bool.Decides.{nat_tests}
use Rattle.std.proofs.lemmas.Option.{same_Some}
use Rattle.bl_mem.specs.Least.{IsLeast}
use Rattle.bl_mem.proofs.LeastLaws.{one_least}
use Rattle.bl_mem.specs.declared.segment.Segment.{Segment}
use Rattle.bl_mb2head.specs.declared.fault.HeadFault.{HeadFault}
use Rattle.bl_mb2head.specs.declared.fault.HeadFault.TheVariants.{NoHeader, HeaderCut}
use Rattle.bl_mb2head.specs.declared.fault.HeadFault.TheVariants.{BadArchitecture, BadTag}
use Rattle.bl_mb2head.specs.declared.fault.HeadFault.TheVariants.{UnsupportedTag}
use Rattle.bl_mb2head.specs.declared.fault.HeadFault.TheVariants.{UnsupportedRequest, NoConsole}
use Rattle.bl_mb2head.specs.declared.header.Header.{Header}
use Rattle.bl_mb2head.specs.declared.relocation.Relocation.{Relocation}
use Rattle.bl_mb2head.specs.declared.tag.Tag.{Tag}
use Rattle.bl_mb2head.specs.Address.{address_fault, address_segment}
use Rattle.bl_mb2head.specs.HeaderPlace.{IsHeaderAt}
use Rattle.bl_mb2head.specs.Tags.{last_of}
use Rattle.bl_mb2head.specs.Header.{tags_end, is_cut, architecture_at, entry_address_of}
use Rattle.bl_mb2head.specs.Header.{relocation_of, has_console, AreTagsOf, IsTagFaultOf}
use Rattle.bl_mb2head.specs.Header.{BeginsAt, IsAddressFault, IsHeader, HasFirstHeadFault}
use Rattle.bl_mb2head.proofs.TagLaws as tags

-- what is wrong with the header at h before its tags
abbrev early_fault : List ℕ → ℕ → Option HeadFault
early_fault bytes h =
    if is_cut bytes h then Some HeaderCut else
    if not (architecture_at bytes h == 0) then Some BadArchitecture else
    None

-- a fault of the header at h: one before its tags, in a tag, or of the address tag that counts
abbrev HasFaultAt : Bool → List ℕ → ℕ → HeadFault → Type 0
HasFaultAt screen bytes h fault =
    (early_fault bytes h ≡ Some fault)
    ⊎ ((early_fault bytes h ≡ None)
    × (IsTagFaultOf screen bytes h fault ⊎ IsAddressFault screen bytes h fault))

no_early_fault : (bytes : List ℕ) (h : ℕ) → BeginsAt bytes h → early_fault bytes h ≡ None
no_early_fault bytes h begins = grind (arith, nat_tests, begins.whole, begins.architecture)

cut_early : (bytes : List ℕ) (h : ℕ) → is_cut bytes h ≡ true → early_fault bytes h ≡ Some HeaderCut
cut_early bytes h cut = rw cut refl

architecture_early : (bytes : List ℕ) (h : ℕ) → is_cut bytes h ≡ false → architecture_at bytes h ≢ 0
    → early_fault bytes h ≡ Some BadArchitecture
architecture_early bytes h whole other = rw whole (grind (arith, nat_tests))

-- a first fault, by where it stands
by_place : (screen : Bool) (bytes : List ℕ) (fault : HeadFault) → HasFirstHeadFault screen bytes fault
    → (((h : ℕ) → IsHeaderAt bytes h → ⊥) × (fault ≡ NoHeader))
    ⊎ ((h : ℕ) × IsLeast (IsHeaderAt bytes) h × HasFaultAt screen bytes h fault)
by_place screen bytes NoHeader none = inl (none, refl)
by_place screen bytes HeaderCut (h, place, cut) = inr (h, place, inl (cut_early bytes h cut))
by_place screen bytes BadArchitecture (h, place, whole, other) =
    inr (h, place, inl (architecture_early bytes h whole other))
by_place screen bytes (BadTag at) (h, begins, first) =
    inr (h, begins.place, inr (no_early_fault bytes h begins, first))
by_place screen bytes (UnsupportedTag kind) (h, begins, first) =
    inr (h, begins.place, inr (no_early_fault bytes h begins, inl first))
by_place screen bytes (UnsupportedRequest kind) (h, begins, first) =
    inr (h, begins.place, inr (no_early_fault bytes h begins, inl first))
by_place screen bytes NoConsole (h, begins, first) =
    inr (h, begins.place, inr (no_early_fault bytes h begins, inl first))

-- the fault of the address tag that counts, after all tags
address_after_all : (screen : Bool) (bytes : List ℕ) (h : ℕ) (ts : List Tag) (fault : HeadFault)
    → AreTagsOf screen bytes h ts → IsAddressFault screen bytes h fault
    → address_fault bytes h (last_of 2 ts) ≡ Some fault
address_after_all screen bytes h ts fault all address =
    ap (λ (us : List Tag). address_fault bytes h (last_of 2 us))
    (tags.one_list (has_console screen bytes h) bytes (tags_end bytes h) (h + 16) ts address.tags all address.all)
    ∙ address.faulty

one_fault_at : (screen : Bool) (bytes : List ℕ) (h : ℕ) (f g : HeadFault) → HasFaultAt screen bytes h f
    → HasFaultAt screen bytes h g → f ≡ g
one_fault_at screen bytes h f g (inl a) (inl b) = same_Some f g (sym a ∙ b)
one_fault_at screen bytes h f g (inl a) (inr b) = let bad : Some f ≡ None = sym a ∙ b.0 in cc
one_fault_at screen bytes h f g (inr a) (inl b) = let bad : None ≡ Some g = sym a.0 ∙ b in cc
one_fault_at screen bytes h f g (inr (_, inl a)) (inr (_, inl b)) =
    tags.one_fault (has_console screen bytes h) bytes (tags_end bytes h) (h + 16) f g a b
one_fault_at screen bytes h f g (inr (_, inl a)) (inr (_, inr b)) =
    absurd (tags.not_both (has_console screen bytes h) bytes (tags_end bytes h) (h + 16) b.tags f b.all a)
one_fault_at screen bytes h f g (inr (_, inr a)) (inr (_, inl b)) =
    absurd (tags.not_both (has_console screen bytes h) bytes (tags_end bytes h) (h + 16) a.tags g a.all b)
one_fault_at screen bytes h f g (inr (_, inr a)) (inr (_, inr b)) =
    same_Some f g (sym a.faulty ∙ address_after_all screen bytes h a.tags g a.all b)

-- a file has one first fault
pub one_fault : (screen : Bool) (bytes : List ℕ) (f g : HeadFault) → HasFirstHeadFault screen bytes f
    → HasFirstHeadFault screen bytes g
    → f ≡ g
one_fault screen bytes f g a b =
    elim (by_place screen bytes f a) [
      | inl none_a ↦ elim (by_place screen bytes g b) [
        | inl none_b ↦ none_a.1 ∙ sym none_b.1
        | inr at_b ↦ absurd (none_a.0 at_b.0 at_b.1.holds)
      ]
      | inr at_a ↦ elim (by_place screen bytes g b) [
        | inl none_b ↦ absurd (none_b.0 at_a.0 at_a.1.holds)
        | inr at_b ↦
            one_fault_at screen bytes at_a.0 f g at_a.2
            (subst (λ (h : ℕ). HasFaultAt screen bytes h g)
            (one_least (IsHeaderAt bytes) at_b.0 at_a.0 at_b.1 at_a.1) at_b.2)
      ]
    ]

none_at : (screen : Bool) (bytes : List ℕ) (h : ℕ) (ts : List Tag) (fault : HeadFault) → BeginsAt bytes h
    → AreTagsOf screen bytes h ts → address_fault bytes h (last_of 2 ts) ≡ None
    → HasFaultAt screen bytes h fault → ⊥
none_at screen bytes h ts fault begins all sound (inl early) =
    let bad : None ≡ Some fault = sym (no_early_fault bytes h begins) ∙ early in cc
none_at screen bytes h ts fault begins all sound (inr (_, inl first)) =
    tags.not_both (has_console screen bytes h) bytes (tags_end bytes h) (h + 16) ts fault all first
none_at screen bytes h ts fault begins all sound (inr (_, inr address)) =
    let bad : None ≡ Some fault = sym sound ∙ address_after_all screen bytes h ts fault all address in cc

-- a file with a header has no fault
pub not_both : (screen : Bool) (bytes : List ℕ) (header : Header) (fault : HeadFault) → IsHeader screen bytes header
    → HasFirstHeadFault screen bytes fault → ⊥
not_both screen bytes header fault is has =
    elim (by_place screen bytes fault has) [
      | inl none ↦ none.0 header.place is.begins.place.holds
      | inr at ↦
          none_at screen bytes header.place is.tags fault is.begins is.all is.sound
          (subst (λ (h : ℕ). HasFaultAt screen bytes h fault)
          (one_least (IsHeaderAt bytes) at.0 header.place at.1 is.begins.place) at.2)
    ]

header_of : ℕ → Option Segment → Option ℕ → Option Relocation → Header
header_of place segment entry relocation =
    record { place = place; segment = segment; entry = entry; relocation = relocation }

same_header : (a b : Header) → a.place ≡ b.place → a.segment ≡ b.segment → a.entry ≡ b.entry
    → a.relocation ≡ b.relocation → a ≡ b
unfolding header_of
same_header a b place segment entry relocation =
    ap (λ (p : ℕ). header_of p a.segment a.entry a.relocation) place
    ∙ ap (λ (s : Option Segment). header_of b.place s a.entry a.relocation) segment
    ∙ ap (λ (e : Option ℕ). header_of b.place b.segment e a.relocation) entry
    ∙ ap (λ (r : Option Relocation). header_of b.place b.segment b.entry r) relocation

-- a file has one header
pub one_header : (screen : Bool) (bytes : List ℕ) (a b : Header) → IsHeader screen bytes a → IsHeader screen bytes b → a ≡ b
one_header screen bytes a b is_a is_b =
    let place : a.place ≡ b.place =
    one_least (IsHeaderAt bytes) a.place b.place is_a.begins.place is_b.begins.place in
    let moved : AreTagsOf screen bytes b.place is_a.tags =
    subst (λ (h : ℕ). AreTagsOf screen bytes h is_a.tags) place is_a.all in
    let same : is_a.tags ≡ is_b.tags =
    tags.one_list (has_console screen bytes b.place) bytes (tags_end bytes b.place) (b.place + 16) is_a.tags is_b.tags moved
    is_b.all in
    same_header a b place
    (is_a.segment ∙ ap (λ (h : ℕ). address_segment bytes h (last_of 2 is_a.tags)) place
    ∙ ap (λ (ts : List Tag). address_segment bytes b.place (last_of 2 ts)) same
    ∙ sym is_b.segment)
    (is_a.entry ∙ ap (λ (ts : List Tag). entry_address_of bytes (last_of 3 ts)) same ∙ sym is_b.entry)
    (is_a.relocation ∙ ap (λ (ts : List Tag). relocation_of bytes (last_of 10 ts)) same
    ∙ sym is_b.relocation)
