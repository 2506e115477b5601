-- The segments of a Multiboot2 kernel, whatever numbers its file's bytes are: there is one, they
-- are few, full, and share no byte.
use Rattle.std.proofs.Common.{◌≡◌, ◌≤◌, ◌+◌, ℕ, Bool, true, false, if◌then◌else◌, List, [], ◌∷◌}
use Rattle.std.proofs.Common.{length, get_or, Option, Some, None, IfSome, arith, rules, refl, sym}
use Rattle.std.proofs.Common.{ap, subst, All, AllPairs, slice_range}
use Rattle.std.proofs.lemmas.Bool.Decides.{nat_tests}
use Rattle.std.proofs.lemmas.List.{places}
use Rattle.std.proofs.lemmas.List.Elements.{All-nil, All-cons}
use Rattle.bl_mem.specs.declared.segment.Segment.{Segment}
use Rattle.bl_elf.specs.Elf.{ElfFacts, AreApartSegments}
use Rattle.bl_elf.proofs.ElfLaws.{elf_few, elf_loadable, elf_apart}
use Rattle.bl_mb2head.specs.Address.{is_bad_address, segment_by_tag, address_tag_at, address_fault}
use Rattle.bl_mb2head.specs.Address.{address_segment}
use Rattle.bl_mb2head.specs.Header.{IsHeader}
use Rattle.bl_mb2head.specs.Tags.{last_of}
use Rattle.bl_mb2head.specs.declared.address.AddressTag.{AddressTag}
use Rattle.bl_mb2head.specs.declared.fault.HeadFault.{HeadFault}
use Rattle.bl_mb2head.specs.declared.fault.HeadFault.TheVariants.{BadTag}
use Rattle.bl_mb2head.specs.declared.header.Header.{Header}
use Rattle.bl_mb2head.specs.declared.relocation.Relocation.{Relocation}
use Rattle.bl_mb2head.specs.declared.tag.Tag.{Tag}
use Rattle.bl_load.specs.Multiboot2Kernel.{Multiboot2KernelFacts, IsMultiboot2Kernel, IsLoadedBy}
use Rattle.bl_load.specs.Multiboot2Kernel.{entry_point_fault}
use Rattle.bl_load.specs.Multiboot2Kernel.{effective_entry_point}
use Rattle.bl_load.specs.internal.Placing.{HasKernelLength}
use Rattle.bl_load.specs.Parts.{kernel_content, no_segment}
use Rattle.bl_load.proofs.KernelLaws.{some_segment, one_filled}
use Rattle.bl_load.proofs.BlockLemmas.{length-block_of}

-- a segment that takes memory, and of the file no more than that
pub record IsFull (s : Segment) : Type 0 where
  pub filled : 1 ≤ s.memsz
  pub fits : s.filesz ≤ s.memsz

tag_fits : (size h : ℕ) (tag : AddressTag) → is_bad_address size h tag ≡ false
    → (segment_by_tag size h tag).filesz ≤ (segment_by_tag size h tag).memsz
unfolding is_bad_address
tag_fits size h tag sound = grind (arith, nat_tests)

no_fault : (bad : Bool) (fault : HeadFault) → (if bad then Some fault else None) ≡ None
    → bad ≡ false
no_fault true fault sound = absurd cc
no_fault false fault sound = refl

address_fits : (bytes : List ℕ) (h : ℕ) (tag : Option Tag) → address_fault bytes h tag ≡ None
    → IfSome (address_segment bytes h tag) (λ s. s.filesz ≤ s.memsz)
address_fits bytes h None sound = tt
address_fits bytes h (Some t) sound =
    let tag = address_tag_at bytes t.place in
    tag_fits (length bytes) h tag
    (no_fault (is_bad_address (length bytes) h tag) (BadTag t.place) sound)

header_fits : {screen : Bool} (bytes : List ℕ) (header : Header) → IsHeader screen bytes header
    → IfSome header.segment (λ s. s.filesz ≤ s.memsz)
header_fits bytes header is =
    subst (λ (s : Option Segment). IfSome s (λ t. t.filesz ≤ t.memsz)) (sym is.segment)
    (address_fits bytes header.place (last_of 2 is.tags) is.sound)

loaded_full : (file : List ℕ) (segment : Option Segment) (facts : ElfFacts) (entry : Option ℕ)
    → IfSome segment (λ s. s.filesz ≤ s.memsz) → IsLoadedBy file segment facts
    → entry_point_fault facts.segments entry ≡ None → All IsFull facts.segments
loaded_full file (Some s) facts entry fits loaded sound =
    let e : facts.segments ≡ s ∷ [] = ap (λ (f : ElfFacts). f.segments) loaded in
    let filled =
    one_filled s entry (subst (λ (ss : List Segment). entry_point_fault ss entry ≡ None) e sound) in
    subst (All IsFull) (sym e)
    (All-cons IsFull s [] (record { filled = filled; fits = fits }) (All-nil IsFull))
loaded_full file None facts entry fits loaded sound =
    let all = elf_loadable file facts loaded in
    λ k d within. record { filled = (all k d within).filled; fits = (all k d within).fits }

-- a kernel has a segment, and each of its segments is full
pub kernel_full : {screen : Bool} (file : List ℕ) (kernel : Multiboot2KernelFacts)
    → IsMultiboot2Kernel screen file kernel
    → (1 ≤ length kernel.segments) × All IsFull kernel.segments
kernel_full file kernel is =
    let counted = effective_entry_point is.header is.facts in (
      subst (λ (ss : List Segment). 1 ≤ length ss) (sym is.segments)
          (some_segment is.facts.segments counted is.sound),
      subst (All IsFull) (sym is.segments)
          (loaded_full file is.header.segment is.facts counted
          (header_fits file is.header is.is_header) is.loaded is.sound),
    )

-- they are few
loaded_few : (file : List ℕ) (segment : Option Segment) (facts : ElfFacts)
    → IsLoadedBy file segment facts → length facts.segments ≤ 128
loaded_few file (Some segment) facts loaded =
    subst (λ (f : ElfFacts). length f.segments ≤ 128) (sym loaded) (omega arith)
loaded_few file None facts loaded = elf_few file facts loaded

pub kernel_few : {screen : Bool} (file : List ℕ) (kernel : Multiboot2KernelFacts)
    → IsMultiboot2Kernel screen file kernel
    → length kernel.segments ≤ 128
kernel_few file kernel is =
    subst (λ (ss : List Segment). length ss ≤ 128) (sym is.segments)
    (loaded_few file is.header.segment is.facts is.loaded)

-- they share no byte
loaded_apart : (file : List ℕ) (segment : Option Segment) (facts : ElfFacts)
    → IsLoadedBy file segment facts → AllPairs AreApartSegments facts.segments
loaded_apart file (Some segment) facts loaded =
    subst (λ (f : ElfFacts). AllPairs AreApartSegments f.segments) (sym loaded)
    (λ i j d ij within. absurd (omega arith))
loaded_apart file None facts loaded = elf_apart file facts loaded

pub kernel_apart : {screen : Bool} (file : List ℕ) (kernel : Multiboot2KernelFacts)
    → IsMultiboot2Kernel screen file kernel
    → AllPairs AreApartSegments kernel.segments
kernel_apart file kernel is =
    subst (λ (ss : List Segment). AllPairs AreApartSegments ss) (sym is.segments)
    (loaded_apart file is.header.segment is.facts is.loaded)

-- each part takes what it holds of the file
pub kernel_short : (file : List ℕ) (segments : List Segment) (relocation : Option Relocation)
    (i count : ℕ) → All IsFull segments → HasKernelLength segments relocation i count
    → length (kernel_content file segments relocation i) ≤ count
kernel_short file segments None i count full has =
    let s = get_or segments i no_segment in
    let fits = (full i no_segment has.0).fits in
    let size = has.1 in
    let most : length (slice_range file s.offset (s.offset + s.filesz)) ≤ s.filesz =
    search (rules, places) in
    omega arith
kernel_short file segments (Some r) i count full has =
    let e = length-block_of file segments in omega arith
