use Rattle.std.proofs.Common.{◌≡◌, ◌+◌, ℕ, Bool, List, Some, arith, subst, ap, sym, ◌∙◌}
use Rattle.std.proofs.lemmas.Result.{err_from_is_err_and}
use Rattle.bl_mem.specs.LittleEndian.{u32_at}
use Rattle.bl_mb2head.specs.declared.fault.HeadFault.{HeadFault}
use Rattle.bl_mb2head.specs.declared.last_tags.LastTags.{LastTags}
use Rattle.bl_mb2head.specs.declared.tag.Tag.{Tag}
use Rattle.bl_mb2head.specs.Address.{address_fault}
use Rattle.bl_mb2head.specs.Header.{tags_end, has_console, AreTagsOf, BeginsAt}
use Rattle.bl_mb2head.specs.Header.{HasFirstHeadFault}
use Rattle.bl_mb2head.specs.internal.LastTags.{last_tags}
use Rattle.bl_mb2head.specs.Tags.{AreAllTags, IsFirstTagFault}
use Rattle.bl_mb2head.proofs.FaultLemmas.{tag_fault_first, address_fault_first}
use Rattle.bl_mb2head.proofs.HeaderLemmas.{ends_after_tag, ends_in_file, ends_in_front}
use Rattle.bl_mb2head.proofs.HeaderLemmas.{lies_before}
use Rattle.bl_mb2head.proofs.header.find_header_for.Goals as goal

tag_fault : (screen console : Bool) (bytes : List ℕ) (h word : ℕ) (fault : HeadFault)
    → word ≡ u32_at bytes (h + 8) → console ≡ has_console screen bytes h → BeginsAt bytes h
    → IsFirstTagFault console bytes (h + word) (h + 16) fault
    → HasFirstHeadFault screen bytes fault
tag_fault screen console bytes h word fault is same begins first =
    tag_fault_first screen bytes h fault begins
    (subst (λ (b : Bool). IsFirstTagFault b bytes (tags_end bytes h) (h + 16) fault) same
    (subst (λ (w : ℕ). IsFirstTagFault console bytes (h + w) (h + 16) fault) is first))

all_tags : (screen console : Bool) (bytes : List ℕ) (h word : ℕ) (ts : List Tag)
    → word ≡ u32_at bytes (h + 8) → console ≡ has_console screen bytes h
    → AreAllTags console bytes (h + word) (h + 16) ts → AreTagsOf screen bytes h ts
all_tags screen console bytes h word ts is same all =
    subst (λ (b : Bool). AreAllTags b bytes (tags_end bytes h) (h + 16) ts) same
    (subst (λ (w : ℕ). AreAllTags console bytes (h + w) (h + 16) ts) is all)

address_tag_fault : (screen console : Bool) (bytes : List ℕ) (h word : ℕ) (fault : HeadFault)
    (last : LastTags) → word ≡ u32_at bytes (h + 8) → console ≡ has_console screen bytes h
    → BeginsAt bytes h
    → (ts : List Tag) × AreAllTags console bytes (h + word) (h + 16) ts × (last ≡ last_tags ts)
    → address_fault bytes h last.address ≡ Some fault → HasFirstHeadFault screen bytes fault
address_tag_fault screen console bytes h word fault last is same begins tags faulty =
    address_fault_first screen bytes h fault begins record {
      tags = tags.0;
      all = all_tags screen console bytes h word tags.0 is same tags.1;
      faulty = ap (λ (l : LastTags). address_fault bytes h l.address) (sym tags.2) ∙ faulty;
    }

pub returns-in_err-place-clause-first_fault : goal.returns-in_err-place-clause-first_fault
returns-in_err-place-clause-first_fault g c =
    let p =
    err_from_is_err_and c.from_residual.result c.from_residual.ensures.1 in
    rw (p.1, p.2) (c.in_err-place.ensures.first_fault c.args.has_screen)

pub returns-in_err-last-clause-first_fault : goal.returns-in_err-last-clause-first_fault
returns-in_err-last-clause-first_fault g c =
    let p =
    err_from_is_err_and c.from_residual-in_err-last.result
    c.from_residual-in_err-last.ensures.1 in
    rw (p.1, p.2)
    (tag_fault c.args.has_screen c.has_console-console.result _ c.in_ok-place.place
    c.u32_at.result _ c.u32_at.ensures c.has_console-console.ensures
    c.in_ok-place.ensures.begins c.in_err-last.ensures.first_fault)

pub returns-in_err-address_segment-clause-first_fault : goal.returns-in_err-address_segment-clause-first_fault
returns-in_err-address_segment-clause-first_fault g c =
    let p =
    err_from_is_err_and c.from_residual-in_err-address_segment.result
    c.from_residual-in_err-address_segment.ensures.1 in
    rw (p.1, p.2)
    (address_tag_fault c.args.has_screen c.has_console-console.result _ c.in_ok-place.place
    c.u32_at.result _ c.in_ok-last.last c.u32_at.ensures c.has_console-console.ensures
    c.in_ok-place.ensures.begins c.in_ok-last.ensures.last
    c.in_err-address_segment.ensures.exact)

pub address_segment-requires-clause-in_front : goal.address_segment-requires-clause-in_front
address_segment-requires-clause-in_front g c =
    lies_before _ _ _ _ c.in_ok-last.ensures.fits.address
    (omega (arith, ends_in_front _ _ c.in_ok-place.ensures.begins, c.u32_at.ensures))

pub entry_address_of-requires-clause-in_file : goal.entry_address_of-requires-clause-in_file
entry_address_of-requires-clause-in_file g c =
    lies_before _ _ _ _ c.in_ok-last.ensures.fits.entry
    (omega (arith, ends_in_file _ _ c.in_ok-place.ensures.begins, c.u32_at.ensures))

pub entry_address_of-requires-clause-in_front : goal.entry_address_of-requires-clause-in_front
entry_address_of-requires-clause-in_front g c =
    lies_before _ _ _ _ c.in_ok-last.ensures.fits.entry
    (omega (arith, ends_in_front _ _ c.in_ok-place.ensures.begins, c.u32_at.ensures))

pub relocation_of-requires-clause-in_file : goal.relocation_of-requires-clause-in_file
relocation_of-requires-clause-in_file g c =
    lies_before _ _ _ _ c.in_ok-last.ensures.fits.relocation
    (omega (arith, ends_in_file _ _ c.in_ok-place.ensures.begins, c.u32_at.ensures))

pub relocation_of-requires-clause-in_front : goal.relocation_of-requires-clause-in_front
relocation_of-requires-clause-in_front g c =
    lies_before _ _ _ _ c.in_ok-last.ensures.fits.relocation
    (omega (arith, ends_in_front _ _ c.in_ok-place.ensures.begins, c.u32_at.ensures))

pub u32_at-requires : goal.u32_at-requires
u32_at-requires g c = omega (arith, c.in_ok-place.ensures.begins.place.holds.in_file)

pub overflow_add-place : goal.overflow_add-place
overflow_add-place g c = omega (arith, c.in_ok-place.ensures.begins.place.holds.in_front)

pub overflow_add-place-2 : goal.overflow_add-place-2
overflow_add-place-2 g c = omega (arith, c.in_ok-place.ensures.begins.place.holds.in_front)

pub overflow_add-end : goal.overflow_add-end
overflow_add-end g c =
    omega (arith, ends_in_front _ _ c.in_ok-place.ensures.begins, c.u32_at.ensures)

pub last_tags-requires-clause-in_file : goal.last_tags-requires-clause-in_file
last_tags-requires-clause-in_file g c =
    omega (arith, ends_in_file _ _ c.in_ok-place.ensures.begins, c.u32_at.ensures)

pub last_tags-requires-clause-in_front : goal.last_tags-requires-clause-in_front
last_tags-requires-clause-in_front g c =
    omega (arith, ends_in_front _ _ c.in_ok-place.ensures.begins, c.u32_at.ensures)

pub last_tags-requires-clause-in_order : goal.last_tags-requires-clause-in_order
last_tags-requires-clause-in_order g c =
    omega (arith, ends_after_tag _ _ c.in_ok-place.ensures.begins, c.u32_at.ensures)

pub address_segment-requires-clause-in_file : goal.address_segment-requires-clause-in_file
address_segment-requires-clause-in_file g c =
    lies_before _ _ _ _ c.in_ok-last.ensures.fits.address
    (omega (arith, ends_in_file _ _ c.in_ok-place.ensures.begins, c.u32_at.ensures))

pub has_console-console-requires-clause-in_file : goal.has_console-console-requires-clause-in_file
has_console-console-requires-clause-in_file g c =
    omega (arith, ends_in_file _ _ c.in_ok-place.ensures.begins, c.u32_at.ensures)

pub has_console-console-requires-clause-in_front : goal.has_console-console-requires-clause-in_front
has_console-console-requires-clause-in_front g c =
    omega (arith, ends_in_front _ _ c.in_ok-place.ensures.begins, c.u32_at.ensures)

pub has_console-console-requires-clause-in_order : goal.has_console-console-requires-clause-in_order
has_console-console-requires-clause-in_order g c =
    omega (arith, ends_after_tag _ _ c.in_ok-place.ensures.begins, c.u32_at.ensures)
