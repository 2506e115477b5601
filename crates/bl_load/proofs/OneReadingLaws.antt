-- A kernel's file is read in one way, or has one first fault, and never both.
use Rattle.std.proofs.Common.{◌≡◌, ℕ, true, false, List, Some, None, sym, ap, ◌∙◌, inl, inr}
use Rattle.std.proofs.lemmas.Option.{same_Some}
use Rattle.bl_map.specs.MachineFacts.{MachineFacts}
use Rattle.bl_map.specs.declared.region.Region.{Region}
use Rattle.bl_bzimage.specs.declared.setup.Setup.{Setup}
use Rattle.bl_plan.specs.declared.protocol.Protocol.{Protocol}
use Rattle.bl_plan.specs.declared.protocol.Protocol.TheVariants.{Multiboot2}
use Rattle.bl_load.specs.declared.refusal.Refusal.{Refusal}
use Rattle.bl_load.specs.EntryValue.{EntryValue, kernel_file}
use Rattle.bl_load.specs.KernelReading.{KernelReading, multiboot2, linux, IsKernelReading}
use Rattle.bl_load.specs.KernelReading.{has_screen, HasKernelFileFault}
use Rattle.bl_load.specs.LinuxKernel.{IsLinuxKernel, HasLinuxFault}
use Rattle.bl_load.specs.Protocols.{has_params}
use Rattle.bl_load.proofs.OneKernelLaws.{one_kernel, one_kernel_fault, kernel_not_fault}

-- ---- a Linux kernel's file

-- a file has one setup
one_setup : (protocol : Protocol) (runs : List Region) (line file : List ℕ) (a b : Setup)
    → IsLinuxKernel protocol runs line file a → IsLinuxKernel protocol runs line file b → a ≡ b
one_setup protocol runs line file a b is_a is_b = is_a.is ∙ sym is_b.is

-- or one first fault, and never both
linux_not_fault : (protocol : Protocol) (runs : List Region) (line file : List ℕ) (setup : Setup)
    (r : Refusal)
    → IsLinuxKernel protocol runs line file setup → HasLinuxFault protocol runs line file r → ⊥
linux_not_fault protocol runs line file setup r is has =
    let bad : None ≡ Some r = sym is.sound ∙ has in absurd cc

-- ---- by the entry's protocol

pub not_two : (p : Protocol) → p ≡ Multiboot2 → has_params p ≡ true → ⊥
not_two p is params = let bad : false ≡ true = sym (ap has_params is) ∙ params in absurd cc

pub one_reading : (facts : MachineFacts) (value : EntryValue) (a b : KernelReading) → IsKernelReading facts value a
    → IsKernelReading facts value b → a ≡ b
one_reading facts value (multiboot2 k) (multiboot2 l) a b =
    ap multiboot2 (one_kernel (has_screen facts) (kernel_file value) k l a.1 b.1)
one_reading facts value (multiboot2 k) (linux y) a b = absurd (not_two value.protocol a.0 b.0)
one_reading facts value (linux x) (multiboot2 l) a b = absurd (not_two value.protocol b.0 a.0)
one_reading facts value (linux x) (linux y) a b =
    ap linux
    (one_setup value.protocol facts.runs value.line (kernel_file value) x y a.1 b.1)

pub one_read_fault : (facts : MachineFacts) (value : EntryValue) (r s : Refusal)
    → HasKernelFileFault facts value r → HasKernelFileFault facts value s → r ≡ s
one_read_fault facts value r s (inl a) (inl b) = one_kernel_fault (has_screen facts) (kernel_file value) r s a.1 b.1
one_read_fault facts value r s (inl a) (inr b) = absurd (not_two value.protocol a.0 b.0)
one_read_fault facts value r s (inr a) (inl b) = absurd (not_two value.protocol b.0 a.0)
one_read_fault facts value r s (inr a) (inr b) =
    same_Some r s (sym a.1 ∙ b.1)

pub read_not_fault : (facts : MachineFacts) (value : EntryValue) (reading : KernelReading) (r : Refusal)
    → IsKernelReading facts value reading → HasKernelFileFault facts value r → ⊥
read_not_fault facts value (multiboot2 kernel) r is (inl fault) =
    kernel_not_fault (has_screen facts) (kernel_file value) kernel r is.1 fault.1
read_not_fault facts value (multiboot2 kernel) r is (inr fault) =
    not_two value.protocol is.0 fault.0
read_not_fault facts value (linux setup) r is (inl fault) = not_two value.protocol fault.0 is.0
read_not_fault facts value (linux setup) r is (inr fault) =
    linux_not_fault value.protocol facts.runs value.line (kernel_file value) setup r is.1 fault.1
