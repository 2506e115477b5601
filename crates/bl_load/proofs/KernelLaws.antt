-- What holds of a kernel with no fault.
use Rattle.std.proofs.Common.{◌≡◌, ◌<◌, ◌≤◌, ◌+◌, ◌^◌, ℕ, Bool, true, false, List, [], ◌∷◌, length}
use Rattle.std.proofs.Common.{Option, Some, None, cond, arith, refl, sym, ap, subst, ◌∙◌, inl, inr}
use Rattle.std.proofs.Common.{All}
use Rattle.std.specs.Prelude.{IfSome}
use Rattle.std.specs.List.{list_any}
use Rattle.std.proofs.Math.Bool.{or-false}
use Rattle.std.proofs.lemmas.List.Elements.{All-nil, All-cons, All-head, All-tail}
use Rattle.std.proofs.lemmas.Bool.Decides.{nat_tests}
use Rattle.std.proofs.lemmas.Grind.{common_steps}
use Rattle.bl_mem.specs.declared.segment.Segment.{Segment}
use Rattle.bl_mem.specs.SegmentContents.{segment_holds, is_in_segment}
use Rattle.bl_elf.specs.Elf.{ElfFacts, IsElf}
use Rattle.bl_elf.proofs.ElfLaws.{elf_few, elf_loadable, elf_apart}
use Rattle.bl_mb2head.specs.Header.{SegmentFitsFile, IsHeader}
use Rattle.bl_mb2head.specs.declared.header.Header.{Header}
use Rattle.bl_load.specs.declared.refusal.Refusal.TheVariants as refusal
use Rattle.bl_load.specs.KernelBlock.{high_of}
use Rattle.bl_load.specs.declared.refusal.PrepFault.{PrepFault}
use Rattle.bl_load.specs.declared.refusal.PrepFault.TheVariants as prep
use Rattle.bl_load.specs.Multiboot2Kernel.{IsLoadedBy, entry_point_fault}
use Rattle.bl_load.specs.internal.ReadMultiboot2Kernels.{IsElfRefusal, IsMultiboot2Fault}
use Rattle.bl_load.specs.internal.ReadMultiboot2Kernels.{AreLoadable}

none_when : {X : Type 0} (b : Bool) (x : X) → cond b None (Some x) ≡ None → b ≡ true
none_when true x h = refl
none_when false x h = absurd cc

-- the entry that counts lies in a segment
pub entry_held : (segments : List Segment) (entry : ℕ) → entry_point_fault segments (Some entry) ≡ None
    → list_any (is_in_segment entry) segments ≡ true
entry_held segments entry h =
    none_when (list_any (is_in_segment entry) segments) refusal.EntryOutside h

-- a segment that holds an address
pub held_within : (s : Segment) (a : ℕ) → segment_holds s a ≡ true
    → (s.address ≤ a) × (a < s.address + s.memsz)
held_within s a h = (grind (arith, nat_tests, common_steps), grind (arith, nat_tests, common_steps))

-- there is a segment
pub some_segment : (segments : List Segment) (entry : Option ℕ) → entry_point_fault segments entry ≡ None
    → 1 ≤ length segments
some_segment segments None h = absurd cc
some_segment [] (Some entry) h = let e = entry_held [] entry h in absurd cc
some_segment (s ∷ segments) (Some entry) h = omega arith

-- no segment ends above a bound, so the block does not
pub high_below : (segments : List Segment) (n : ℕ) → All (λ s. s.address + s.memsz ≤ n) segments
    → high_of segments ≤ n
high_below [] n h = omega arith
high_below (s ∷ segments) n h =
    let first : s.address + s.memsz ≤ n = All-head (λ s. s.address + s.memsz ≤ n) s segments h in
    let rest =
    high_below segments n (All-tail (λ s. s.address + s.memsz ≤ n) s segments h) in omega arith

pub one_filled : (s : Segment) (entry : Option ℕ) → entry_point_fault (s ∷ []) entry ≡ None → 1 ≤ s.memsz
one_filled s None h = absurd cc
one_filled s (Some a) h =
    let w =
    held_within s a (sym (or-false (segment_holds s a)) ∙ entry_held (s ∷ []) a h) in
    omega (arith, w.0, w.1)

one_loadable : (file : List ℕ) (s : Segment) (entry : Option ℕ) → SegmentFitsFile file s
    → entry_point_fault (s ∷ []) entry ≡ None → length file < 2 ^ 64 → AreLoadable file (s ∷ [])
one_loadable file s entry fits sound short =
    let size = fits.size in
    let low = fits.address in
    record {
      some = omega arith;
      few = omega arith;
      filled = All-cons (λ (s : Segment). 1 ≤ s.memsz) s [] (one_filled s entry sound) (All-nil _);
      fits = All-cons (λ (s : Segment). s.filesz ≤ s.memsz) s [] fits.filled (All-nil _);
      in_file =
          All-cons (λ (s : Segment). 0 < s.filesz → s.offset + s.filesz ≤ length file) s []
          (λ _. fits.in_file) (All-nil _);
      small = All-cons (λ (s : Segment). s.memsz < 2 ^ 64) s [] (omega arith) (All-nil _);
      low = All-cons (λ (s : Segment). s.address < 2 ^ 32) s [] low (All-nil _);
      apart = λ i j d ij within. absurd (omega arith);
      span = omega arith;
    }

elf_as_loadable : (file : List ℕ) (facts : ElfFacts) (entry : Option ℕ) → IsElf file facts
    → entry_point_fault facts.segments entry ≡ None → AreLoadable file facts.segments
elf_as_loadable file facts entry elf sound =
    let all = elf_loadable file facts elf in
    let high = high_below facts.segments (2 ^ 32) (λ k d within. (all k d within).low) in
    record {
      some = some_segment facts.segments entry sound;
      few = elf_few file facts elf;
      filled = λ k d within. (all k d within).filled;
      fits = λ k d within. (all k d within).fits;
      in_file = λ k d within. (all k d within).in_file;
      small = λ k d within. let low = (all k d within).low in omega arith;
      low = λ k d within. let low = (all k d within).low in
          let some = (all k d within).filled in omega arith;
      apart = elf_apart file facts elf;
      span = omega arith;
    }

-- the segments of a kernel with no fault can be loaded
pub kernel_loadable : (file : List ℕ) (segment : Option Segment) (facts : ElfFacts)
    (entry : Option ℕ) → IfSome segment (SegmentFitsFile file) → IsLoadedBy file segment facts
    → entry_point_fault facts.segments entry ≡ None → length file < 2 ^ 64
    → AreLoadable file facts.segments
kernel_loadable file (Some s) facts entry fits loaded sound short =
    let e : facts.segments ≡ s ∷ [] = ap (λ (f : ElfFacts). f.segments) loaded in
    subst (AreLoadable file) (sym e)
    (one_loadable file s entry fits
    (subst (λ (ss : List Segment). entry_point_fault ss entry ≡ None) e sound) short)
kernel_loadable file None facts entry fits loaded sound short =
    elf_as_loadable file facts entry loaded sound

-- a fault of what the header leads to refuses the kernel
pub load_refused : {screen : Bool} (file : List ℕ) (head : Header) (fault : PrepFault)
    → IsHeader screen file head → IsElfRefusal file head.segment fault
    → IsMultiboot2Fault screen file fault
load_refused file head (prep.Refused refused) is h = inr (inl (head, is, h))
load_refused file head prep.NoMemory is h = tt
