-- A plan of an entry is one for all files that have the same kernel and the same lengths.
use Rattle.std.proofs.Common.{◌≡◌, ℕ, List, ◌∷◌, length, map, sym, ap, subst, ◌∙◌}
use Rattle.std.specs.Prelude.{Result, Ok, Err, IfOk, Option}
use Rattle.bl_map.specs.MachineFacts.{MachineFacts}
use Rattle.bl_mem.specs.FileSet.{nth_file}
use Rattle.bl_plan.specs.declared.part.Row.{Row}
use Rattle.bl_load.specs.declared.entry.Entry.{Entry}
use Rattle.bl_load.specs.declared.entry.Entry.TheVariants.{Multiboot2, Linux}
use Rattle.bl_load.specs.declared.known_file.KnownFile.{KnownFile}
use Rattle.bl_load.specs.declared.plan.Plan.{Plan}
use Rattle.bl_load.specs.declared.refusal.PrepFault.{PrepFault}
use Rattle.bl_load.specs.EntryValue.{value_of}
use Rattle.bl_load.specs.FilesByLengths.{HaveKernelAndLengths}
use Rattle.bl_load.specs.Loadable.{lengths_of, IsLoadable}
use Rattle.bl_load.specs.Origins.{PartOrigin, planned_origin, AreOrigins}
use Rattle.bl_load.specs.Parts.{IsHandover, IsPrepFault}
use Rattle.bl_load.specs.PlanContents.{handover_by}
use Rattle.bl_load.specs.Unplaced.{IsUnplaced, IsFaultBeforePlacing}
use Rattle.bl_load.specs.internal.KnownFiles.{blank_file, known_bytes}
use Rattle.bl_load.proofs.FileLengthLemmas.{AreAsLong, as_long, blank_lengths}
use Rattle.bl_load.proofs.OtherFilesLemmas.{origins_with, fault_with}
use Rattle.bl_load.proofs.OtherFilesLemmas.{unplaced_with, early_fault_with}
use Rattle.bl_load.proofs.OtherContentsLemmas.{handover_with}

pub all_lengths : (kernel lengths : List ℕ) (texts : List (List ℕ))
    → HaveKernelAndLengths kernel lengths texts → lengths_of texts ≡ length kernel ∷ lengths
all_lengths kernel lengths texts have =
    ap lengths_of have.are ∙ ap (λ (sizes : List ℕ). length kernel ∷ sizes) have.are_long

same_kernel : (kernel lengths : List ℕ) (xs ys : List (List ℕ))
    → HaveKernelAndLengths kernel lengths xs → HaveKernelAndLengths kernel lengths ys
    → nth_file ys 0 ≡ nth_file xs 0
same_kernel kernel lengths xs ys a b =
    ap (λ (texts : List (List ℕ)). nth_file texts 0) b.are
    ∙ sym (ap (λ (texts : List (List ℕ)). nth_file texts 0) a.are)

same_lengths : (kernel lengths : List ℕ) (xs ys : List (List ℕ))
    → HaveKernelAndLengths kernel lengths xs → HaveKernelAndLengths kernel lengths ys
    → AreAsLong ys xs
same_lengths kernel lengths xs ys a b =
    as_long ys xs (all_lengths kernel lengths ys b ∙ sym (all_lengths kernel lengths xs a))

pub same_handover : {A B : Type 0} (facts : MachineFacts) (entry : Entry A)
    (kernel lengths : List ℕ) (xs ys : List (List ℕ)) (plan : Plan B)
    → HaveKernelAndLengths kernel lengths xs → HaveKernelAndLengths kernel lengths ys
    → IsHandover facts (value_of xs entry) (handover_by xs plan)
    → AreOrigins facts (value_of xs entry) (map planned_origin plan.parts.items)
    → IsHandover facts (value_of ys entry) (handover_by ys plan)
same_handover facts (Multiboot2 k line modules old new) kernel lengths xs ys plan a b h origins =
    handover_with facts (value_of xs (Multiboot2 k line modules old new)) ys
    (same_kernel kernel lengths xs ys a b) (same_lengths kernel lengths xs ys a b) plan h origins
same_handover {A = A} facts (Linux k line initrd wide) kernel lengths xs ys plan a b h origins =
    handover_with facts (value_of {A = A} xs (Linux k line initrd wide)) ys
    (same_kernel kernel lengths xs ys a b) (same_lengths kernel lengths xs ys a b) plan h origins

pub same_origins : {A : Type 0} (facts : MachineFacts) (entry : Entry A)
    (kernel lengths : List ℕ) (xs ys : List (List ℕ)) (parts : List PartOrigin)
    → HaveKernelAndLengths kernel lengths xs → HaveKernelAndLengths kernel lengths ys
    → AreOrigins facts (value_of xs entry) parts → AreOrigins facts (value_of ys entry) parts
same_origins facts (Multiboot2 k line modules old new) kernel lengths xs ys parts a b origins =
    origins_with facts (value_of xs (Multiboot2 k line modules old new)) ys
    (same_kernel kernel lengths xs ys a b) (same_lengths kernel lengths xs ys a b) parts origins
same_origins {A = A} facts (Linux k line initrd wide) kernel lengths xs ys parts a b origins =
    origins_with facts (value_of {A = A} xs (Linux k line initrd wide)) ys
    (same_kernel kernel lengths xs ys a b) (same_lengths kernel lengths xs ys a b) parts origins

pub same_fault : {A : Type 0} (facts : MachineFacts) (entry : Entry A) (kernel lengths : List ℕ)
    (xs ys : List (List ℕ)) (fault : PrepFault) → HaveKernelAndLengths kernel lengths xs
    → HaveKernelAndLengths kernel lengths ys
    → IsPrepFault facts (value_of xs entry) fault → IsPrepFault facts (value_of ys entry) fault
same_fault facts (Multiboot2 k line modules old new) kernel lengths xs ys fault a b is =
    fault_with facts (value_of xs (Multiboot2 k line modules old new)) ys
    (same_kernel kernel lengths xs ys a b) (same_lengths kernel lengths xs ys a b) fault is
same_fault {A = A} facts (Linux k line initrd wide) kernel lengths xs ys fault a b is =
    fault_with facts (value_of {A = A} xs (Linux k line initrd wide)) ys
    (same_kernel kernel lengths xs ys a b) (same_lengths kernel lengths xs ys a b) fault is

pub same_unplaced : {A : Type 0} (facts : MachineFacts) (entry : Entry A)
    (kernel lengths : List ℕ) (xs ys : List (List ℕ)) (which : Option Row)
    → HaveKernelAndLengths kernel lengths xs → HaveKernelAndLengths kernel lengths ys
    → IsUnplaced facts (value_of xs entry) which → IsUnplaced facts (value_of ys entry) which
same_unplaced facts (Multiboot2 k line modules old new) kernel lengths xs ys which a b is =
    unplaced_with facts (value_of xs (Multiboot2 k line modules old new)) ys
    (same_kernel kernel lengths xs ys a b) (same_lengths kernel lengths xs ys a b) which is
same_unplaced {A = A} facts (Linux k line initrd wide) kernel lengths xs ys which a b is =
    unplaced_with facts (value_of {A = A} xs (Linux k line initrd wide)) ys
    (same_kernel kernel lengths xs ys a b) (same_lengths kernel lengths xs ys a b) which is

pub same_early_fault : {A : Type 0} (facts : MachineFacts) (entry : Entry A)
    (kernel lengths : List ℕ) (xs ys : List (List ℕ)) (fault : PrepFault)
    → HaveKernelAndLengths kernel lengths xs → HaveKernelAndLengths kernel lengths ys
    → IsFaultBeforePlacing facts (value_of xs entry) fault
    → IsFaultBeforePlacing facts (value_of ys entry) fault
same_early_fault facts (Multiboot2 k line modules old new) kernel lengths xs ys fault a b is =
    early_fault_with facts (value_of xs (Multiboot2 k line modules old new)) ys
    (same_kernel kernel lengths xs ys a b) (same_lengths kernel lengths xs ys a b) fault is
same_early_fault {A = A} facts (Linux k line initrd wide) kernel lengths xs ys fault a b is =
    early_fault_with facts (value_of {A = A} xs (Linux k line initrd wide)) ys
    (same_kernel kernel lengths xs ys a b) (same_lengths kernel lengths xs ys a b) fault is

pub same_loadable : {B : Type 0} (size : ℕ) (kernel lengths : List ℕ) (xs ys : List (List ℕ))
    (plan : Plan B)
    → HaveKernelAndLengths kernel lengths xs → HaveKernelAndLengths kernel lengths ys
    → IsLoadable (lengths_of xs) size plan → IsLoadable (lengths_of ys) size plan
same_loadable size kernel lengths xs ys plan a b is =
    subst (λ (sizes : List ℕ). IsLoadable sizes size plan)
    (all_lengths kernel lengths xs a ∙ sym (all_lengths kernel lengths ys b)) is

-- ---- what the code makes of the lengths

pub known_by : {V : Type 0} (bytes : V → List ℕ) (lengths : List ℕ) {kernel : List ℕ}
    {files items : List (KnownFile V)} → files ≡ items
    → map (known_bytes bytes) items ≡ kernel ∷ map blank_file lengths
    → HaveKernelAndLengths kernel lengths (map (known_bytes bytes) files)
known_by bytes lengths same are = record {
  others = map blank_file lengths;
  are = ap (map (known_bytes bytes)) same ∙ are;
  are_long = blank_lengths lengths;
}

pub ok_both : {T E : Type 0} (r : Result T E) (P Q : T → Type 0) → IfOk r P → IfOk r Q
    → IfOk r (λ x. P x × Q x)
ok_both (Ok x) P Q p q = (p, q)
ok_both (Err e) P Q p q = tt
