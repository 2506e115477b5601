-- A Multiboot2 kernel's file has one kernel, or one first fault, and never both.
use Rattle.std.proofs.Common.{◌≡◌, ℕ, Bool, List, Option, Some, None, sym, ap, subst, ◌∙◌, inl, inr}
use Rattle.std.proofs.lemmas.Option.{same_Some}
use Rattle.bl_mem.specs.declared.segment.Segment.{Segment}
use Rattle.bl_elf.specs.Elf.{ElfFacts}
use Rattle.bl_elf.specs.declared.fault.ElfFault.{ElfFault}
use Rattle.bl_elf.specs.declared.fault.ElfFault.TheVariants as elf_fault
use Rattle.bl_elf.proofs.ElfLaws.{elf_is_determined, fault_is_determined, elf_not_fault}
use Rattle.bl_mb2head.specs.Header.{IsHeader}
use Rattle.bl_mb2head.specs.declared.header.Header.{Header}
use Rattle.bl_mb2head.specs.declared.relocation.Relocation.{Relocation}
use Rattle.bl_mb2head.proofs.HeaderLaws as headers
use Rattle.bl_load.specs.declared.refusal.Refusal.{Refusal}
use Rattle.bl_load.specs.Multiboot2Kernel.{Multiboot2KernelFacts, IsLoadedBy, IsMultiboot2Kernel}
use Rattle.bl_load.specs.Multiboot2Kernel.{HasElfRefusal}
use Rattle.bl_load.specs.Multiboot2Kernel.{HasMultiboot2Fault}
use Rattle.bl_load.specs.Multiboot2Kernel.{entry_point_fault, effective_entry_point, head_refusal}
use Rattle.bl_load.specs.Multiboot2Kernel.{elf_refusal}

-- ---- a Multiboot2 kernel's file

-- a header leads to one list of segments and one entry
one_loaded : (file : List ℕ) (segment : Option Segment) (f g : ElfFacts) → IsLoadedBy file segment f
    → IsLoadedBy file segment g → f ≡ g
one_loaded file (Some segment) f g a b = a ∙ sym b
one_loaded file None f g a b = elf_is_determined file f g a b

-- two headers of a file are one, and so is what they lead to
same_header : (screen : Bool) (file : List ℕ) (h k : Header) → IsHeader screen file h → IsHeader screen file k → k ≡ h
same_header screen file h k a b = headers.one_header screen file k h b a

same_loaded : (screen : Bool) (file : List ℕ) (h k : Header) (f g : ElfFacts) → IsHeader screen file h → IsHeader screen file k
    → IsLoadedBy file h.segment f → IsLoadedBy file k.segment g → g ≡ f
same_loaded screen file h k f g is_h is_k a b =
    one_loaded file h.segment g f
    (subst (λ (x : Header). IsLoadedBy file x.segment g) (same_header screen file h k is_h is_k) b) a

kernel_from : List Segment → ℕ → Option Relocation → Multiboot2KernelFacts
kernel_from segments entry relocation =
    record { segments = segments; entry = entry; relocation = relocation }

same_kernel : (a b : Multiboot2KernelFacts) → a.segments ≡ b.segments → a.entry ≡ b.entry
    → a.relocation ≡ b.relocation → a ≡ b
unfolding kernel_from
same_kernel a b segments entry relocation =
    ap (λ (s : List Segment). kernel_from s a.entry a.relocation) segments
    ∙ ap (λ (e : ℕ). kernel_from b.segments e a.relocation) entry
    ∙ ap (λ (r : Option Relocation). kernel_from b.segments b.entry r) relocation

-- a file is one kernel
pub one_kernel : (screen : Bool) (file : List ℕ) (a b : Multiboot2KernelFacts) → IsMultiboot2Kernel screen file a → IsMultiboot2Kernel screen file b
    → a ≡ b
one_kernel screen file a b is_a is_b =
    let header : is_b.header ≡ is_a.header =
    same_header screen file is_a.header is_b.header is_a.is_header is_b.is_header in
    let facts : is_b.facts ≡ is_a.facts =
    same_loaded screen file is_a.header is_b.header is_a.facts is_b.facts is_a.is_header is_b.is_header
    is_a.loaded is_b.loaded in
    let entry : effective_entry_point is_a.header is_a.facts ≡ Some b.entry =
    sym (ap (λ (h : Header). effective_entry_point h is_a.facts) header)
    ∙ sym (ap (λ (f : ElfFacts). effective_entry_point is_b.header f) facts) ∙ is_b.entry in
    same_kernel a b
    (is_a.segments ∙ sym (ap (λ (f : ElfFacts). f.segments) facts) ∙ sym is_b.segments)
    (same_Some a.entry b.entry (sym is_a.entry ∙ entry))
    (is_a.relocation ∙ sym (ap (λ (h : Header). h.relocation) header) ∙ sym is_b.relocation)

-- a fault that refuses is no want of memory
refuses : (fault : ElfFault) (r : Refusal) → elf_refusal fault ≡ Some r
    → ¬ (fault ≡ elf_fault.NoMemory)
refuses fault r h = λ none. let bad : None ≡ Some r = sym (ap elf_refusal none) ∙ h in absurd cc

one_load_fault : (file : List ℕ) (segment : Option Segment) (r s : Refusal)
    → HasElfRefusal file segment r → HasElfRefusal file segment s → r ≡ s
one_load_fault file (Some segment) r s a b = absurd a
one_load_fault file None r s (f, f_is, a) (g, g_is, b) =
    let same = fault_is_determined file f g (refuses f r f_is) (refuses g s g_is) a b in
    same_Some r s (sym f_is ∙ ap elf_refusal same ∙ g_is)

-- what is loaded has no fault
loaded_no_fault : (file : List ℕ) (segment : Option Segment) (facts : ElfFacts) (r : Refusal)
    → IsLoadedBy file segment facts → HasElfRefusal file segment r → ⊥
loaded_no_fault file (Some segment) facts r is has = has
loaded_no_fault file None facts r is (f, f_is, a) =
    elf_not_fault file facts f (refuses f r f_is) is a

-- where its header leads to a fault, a file has nothing to load
sound_no_fault : (screen : Bool) (file : List ℕ) (h k : Header) (facts : ElfFacts) (r : Refusal) → IsHeader screen file h
    → IsHeader screen file k → IsLoadedBy file h.segment facts → HasElfRefusal file k.segment r → ⊥
sound_no_fault screen file h k facts r is_h is_k is has =
    loaded_no_fault file h.segment facts r is
    (subst (λ (x : Header). HasElfRefusal file x.segment r) (same_header screen file h k is_h is_k) has)

same_entry_fault : (screen : Bool) (file : List ℕ) (h k : Header) (f g : ElfFacts) → IsHeader screen file h
    → IsHeader screen file k → IsLoadedBy file h.segment f → IsLoadedBy file k.segment g
    → entry_point_fault f.segments (effective_entry_point h f) ≡ entry_point_fault g.segments (effective_entry_point k g)
same_entry_fault screen file h k f g is_h is_k a b =
    ap (λ (x : Header). entry_point_fault f.segments (effective_entry_point x f))
    (sym (same_header screen file h k is_h is_k))
    ∙ ap (λ (x : ElfFacts). entry_point_fault x.segments (effective_entry_point k x))
    (sym (same_loaded screen file h k f g is_h is_k a b))

-- or it has one first fault
pub one_kernel_fault : (screen : Bool) (file : List ℕ) (r s : Refusal) → HasMultiboot2Fault screen file r
    → HasMultiboot2Fault screen file s
    → r ≡ s
one_kernel_fault screen file r s (inl (f, a, r_is)) (inl (g, b, s_is)) =
    r_is ∙ ap head_refusal (headers.one_fault screen file f g a b) ∙ sym s_is
one_kernel_fault screen file r s (inl (f, a, r_is)) (inr (inl (h, is, load))) =
    absurd (headers.not_both screen file h f is a)
one_kernel_fault screen file r s (inl (f, a, r_is)) (inr (inr (h, facts, is, loaded, b))) =
    absurd (headers.not_both screen file h f is a)
one_kernel_fault screen file r s (inr (inl (h, is, load))) (inl (g, b, s_is)) =
    absurd (headers.not_both screen file h g is b)
one_kernel_fault screen file r s (inr (inl (h, is_h, a))) (inr (inl (k, is_k, b))) =
    one_load_fault file h.segment r s a
    (subst (λ (x : Header). HasElfRefusal file x.segment s) (same_header screen file h k is_h is_k) b)
one_kernel_fault screen file r s (inr (inl (h, is_h, a))) (inr (inr (k, facts, is_k, loaded, b))) =
    absurd (sound_no_fault screen file k h facts r is_k is_h loaded a)
one_kernel_fault screen file r s (inr (inr (h, facts, is, loaded, a))) (inl (g, b, s_is)) =
    absurd (headers.not_both screen file h g is b)
one_kernel_fault screen file r s (inr (inr (h, facts, is_h, loaded, a))) (inr (inl (k, is_k, b))) =
    absurd (sound_no_fault screen file h k facts s is_h is_k loaded b)
one_kernel_fault screen file r s (inr (inr (h, f, is_h, f_is, a))) (inr (inr (k, g, is_k, g_is, b))) =
    same_Some r s (sym a ∙ same_entry_fault screen file h k f g is_h is_k f_is g_is ∙ b)

-- and never both
pub kernel_not_fault : (screen : Bool) (file : List ℕ) (kernel : Multiboot2KernelFacts) (r : Refusal)
    → IsMultiboot2Kernel screen file kernel
    → HasMultiboot2Fault screen file r → ⊥
kernel_not_fault screen file kernel r is (inl (f, a, r_is)) =
    headers.not_both screen file is.header f is.is_header a
kernel_not_fault screen file kernel r is (inr (inl (h, is_h, a))) =
    sound_no_fault screen file is.header h is.facts r is.is_header is_h is.loaded a
kernel_not_fault screen file kernel r is (inr (inr (h, f, is_h, f_is, a))) =
    let bad : None ≡ Some r =
    sym is.sound ∙ same_entry_fault screen file is.header h is.facts f is.is_header is_h is.loaded f_is
    ∙ a in absurd cc
