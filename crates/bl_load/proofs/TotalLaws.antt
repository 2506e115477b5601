-- Each entry has a handover or a first refusal.
use Rattle.std.proofs.Common.{◌≡◌, ◌≢◌, ℕ, Bool, true, List, [], ◌∷◌, Option, Some, None, ◌⊎◌, inl, inr}
use Rattle.std.proofs.Common.{refl}
use Rattle.bl_mem.specs.declared.segment.Segment.{Segment}
use Rattle.bl_map.specs.MachineFacts.{MachineFacts}
use Rattle.bl_map.specs.declared.region.Region.{Region}
use Rattle.bl_bzimage.specs.Setup.{setup_of}
use Rattle.bl_bzimage.specs.declared.setup.Setup.{Setup}
use Rattle.bl_elf.specs.Elf.{ElfFacts}
use Rattle.bl_elf.specs.declared.fault.ElfFault.{ElfFault}
use Rattle.bl_elf.specs.declared.fault.ElfFault.TheVariants as elf_fault
use Rattle.bl_elf.proofs.TotalLaws.{elf_or_fault}
use Rattle.bl_mb2head.specs.Header.{IsHeader}
use Rattle.bl_mb2head.specs.declared.header.Header.{Header}
use Rattle.bl_mb2head.proofs.TotalLaws.{header_or_fault}
use Rattle.bl_plan.specs.Placed.{IsFirstPlaceFault}
use Rattle.bl_plan.proofs.TotalLaws.{placed_or_fault}
use Rattle.bl_plan.specs.declared.fault.PlanFault.{PlanFault}
use Rattle.bl_plan.specs.declared.fault.PlanFault.TheVariants as plan_fault
use Rattle.bl_plan.specs.declared.protocol.Protocol.{Protocol}
use Rattle.bl_plan.specs.declared.protocol.Protocol.TheVariants as protocol
use Rattle.bl_load.specs.declared.refusal.Refusal.{Refusal}
use Rattle.bl_load.specs.declared.refusal.Refusal.TheVariants as refusal
use Rattle.bl_load.specs.EntryValue.{EntryValue, kernel_file, lines_fault, lines_of}
use Rattle.bl_load.specs.Multiboot2Kernel.{Multiboot2KernelFacts, IsLoadedBy, IsMultiboot2Kernel}
use Rattle.bl_load.specs.Multiboot2Kernel.{HasElfRefusal}
use Rattle.bl_load.specs.Multiboot2Kernel.{HasMultiboot2Fault}
use Rattle.bl_load.specs.Multiboot2Kernel.{entry_point_fault, effective_entry_point, head_refusal}
use Rattle.bl_load.specs.Multiboot2Kernel.{elf_refusal}
use Rattle.bl_load.specs.KernelReading.{KernelReading, multiboot2, linux, IsKernelReading}
use Rattle.bl_load.specs.KernelReading.{has_screen, HasKernelFileFault}
use Rattle.bl_load.specs.LinuxKernel.{IsLinuxKernel, HasLinuxFault, linux_fault}
use Rattle.bl_load.specs.Protocols.{has_params}
use Rattle.bl_load.specs.Rows.{rows_of}
use Rattle.bl_load.specs.Handover.{Handover}
use Rattle.bl_load.specs.Parts.{IsHandover, IsRefusal, HasRowFault, handover_of}
use Rattle.bl_load.proofs.ReadingLaws.{reading_no_overlap}

some_or_none : {X : Type 0} (o : Option X) → ((x : X) × (o ≡ Some x)) ⊎ (o ≡ None)
some_or_none None = inr refl
some_or_none (Some x) = inl (x, refl)

-- ---- a Multiboot2 kernel's file

-- a fault that is no want of memory refuses
elf_refused : (fault : ElfFault) → ¬ (fault ≡ elf_fault.NoMemory)
    → (r : Refusal) × (elf_refusal fault ≡ Some r)
elf_refused elf_fault.NotElf some = (refusal.NotElf, refl)
elf_refused elf_fault.BadElf some = (refusal.BadElf, refl)
elf_refused (elf_fault.SegmentCut i) some = (refusal.SegmentCut i, refl)
elf_refused (elf_fault.AddressTooHigh i) some = (refusal.AddressTooHigh i, refl)
elf_refused (elf_fault.SegmentsOverlap i j) some = (refusal.SegmentsOverlap i j, refl)
elf_refused elf_fault.NoEntry some = (refusal.NoEntry, refl)
elf_refused elf_fault.NoMemory some = absurd (some refl)

loaded_or_fault : (file : List ℕ) (segment : Option Segment)
    → ((facts : ElfFacts) × IsLoadedBy file segment facts)
    ⊎ ((r : Refusal) × HasElfRefusal file segment r)
loaded_or_fault file (Some segment) = inl (record { segments = segment ∷ []; entry = None }, refl)
loaded_or_fault file None =
    elim (elf_or_fault file) [
      | inl elf ↦ inl elf
      | inr (fault, some, has) ↦
          inr ((elf_refused fault some).0, (fault, (elf_refused fault some).1, has))
    ]

entry_given : (segments : List Segment) (entry : Option ℕ) → entry_point_fault segments entry ≡ None
    → (a : ℕ) × (entry ≡ Some a)
entry_given segments None sound = absurd cc
entry_given segments (Some a) sound = (a, refl)

kernel_of : (screen : Bool) (file : List ℕ) (header : Header) (facts : ElfFacts) → IsHeader screen file header
    → IsLoadedBy file header.segment facts
    → entry_point_fault facts.segments (effective_entry_point header facts) ≡ None
    → (kernel : Multiboot2KernelFacts) × IsMultiboot2Kernel screen file kernel
kernel_of screen file header facts is loaded sound =
    let entry = entry_given facts.segments (effective_entry_point header facts) sound in (
      record { segments = facts.segments; entry = entry.0; relocation = header.relocation },
      record {
        header = header;
        facts = facts;
        is_header = is;
        loaded = loaded;
        sound = sound;
        entry = entry.1;
        segments = refl;
        relocation = refl;
      },
    )

kernel_or_fault : (screen : Bool) (file : List ℕ)
    → ((kernel : Multiboot2KernelFacts) × IsMultiboot2Kernel screen file kernel)
    ⊎ ((r : Refusal) × HasMultiboot2Fault screen file r)
kernel_or_fault screen file =
    elim (header_or_fault screen file) [
      | inr (fault, has) ↦ inr (head_refusal fault, inl (fault, has, refl))
      | inl (header, is) ↦ elim (loaded_or_fault file header.segment) [
        | inr (r, has) ↦ inr (r, inr (inl (header, is, has)))
        | inl (facts, loaded) ↦
            elim (some_or_none (entry_point_fault facts.segments (effective_entry_point header facts))) [
              | inl (r, has) ↦ inr (r, inr (inr (header, facts, is, loaded, has)))
              | inr sound ↦ inl (kernel_of screen file header facts is loaded sound)
            ]
      ]
    ]

-- ---- a Linux kernel's file

linux_or_fault : (protocol : Protocol) (runs : List Region) (line file : List ℕ)
    → ((setup : Setup) × IsLinuxKernel protocol runs line file setup)
    ⊎ ((r : Refusal) × HasLinuxFault protocol runs line file r)
linux_or_fault protocol runs line file =
    elim (some_or_none (linux_fault protocol runs line file)) [
      | inl (r, has) ↦ inr (r, has)
      | inr sound ↦ inl (setup_of file, record { sound = sound; is = refl })
    ]

-- ---- by the entry's protocol

-- its kernel is a Multiboot2 kernel, or is handed boot parameters
is_either : (p : Protocol) → (p ≡ protocol.Multiboot2) ⊎ (has_params p ≡ true)
is_either protocol.Multiboot2 = inl refl
is_either protocol.Linux = inr refl
is_either protocol.Linux64 = inr refl

read_or_fault : (facts : MachineFacts) (value : EntryValue)
    → ((reading : KernelReading) × IsKernelReading facts value reading)
    ⊎ ((r : Refusal) × HasKernelFileFault facts value r)
read_or_fault facts value =
    elim (is_either value.protocol) [
      | inl is ↦ elim (kernel_or_fault (has_screen facts) (kernel_file value)) [
        | inl (kernel, is_kernel) ↦ inl (multiboot2 kernel, (is, is_kernel))
        | inr (r, has) ↦ inr (r, inl (is, has))
      ]
      | inr is ↦ elim (linux_or_fault value.protocol facts.runs value.line (kernel_file value)) [
        | inl (setup, is_kernel) ↦ inl (linux setup, (is, is_kernel))
        | inr (r, has) ↦ inr (r, inr (is, has))
      ]
    ]

-- ---- the rest names none

row_refused : (facts : MachineFacts) (value : EntryValue) (reading : KernelReading) (fault : PlanFault)
    → IsKernelReading facts value reading → fault ≢ plan_fault.NoMemory
    → IsFirstPlaceFault facts [] (rows_of facts value reading) fault
    → (r : Refusal) × HasRowFault facts (rows_of facts value reading) r
row_refused facts value reading plan_fault.NotUsable is some has =
    (refusal.NotUsable, (plan_fault.NotUsable, has, refl))
row_refused facts value reading plan_fault.Overlap is some has =
    absurd (reading_no_overlap facts value reading is has)
row_refused facts value reading plan_fault.NoRoom is some has =
    (refusal.NoRoom, (plan_fault.NoRoom, has, refl))
row_refused facts value reading plan_fault.NoMemory is some has = absurd (some refl)

pub handover_or_refusal : (facts : MachineFacts) (value : EntryValue)
    → ((handover : Handover) × IsHandover facts value handover)
    ⊎ ((r : Refusal) × IsRefusal facts value r)
handover_or_refusal facts value =
    elim (some_or_none (lines_fault (lines_of value))) [
      | inl (r, faulty) ↦ inr (r, inl faulty)
      | inr lines ↦ elim (read_or_fault facts value) [
        | inr (r, has) ↦ inr (r, inr (lines, inl has))
        | inl (reading, read) ↦ elim (placed_or_fault facts [] (rows_of facts value reading)) [
          | inr (fault, some, has) ↦
              let refused =
              row_refused facts value reading fault read some has in
              inr (refused.0, inr (lines, inr (reading, read, refused.1)))
          | inl (places, placed) ↦
              inl (
                handover_of facts value reading places,
                record {
                  reading = reading;
                  places = places;
                  lines = lines;
                  read = read;
                  placed = placed;
                  is = refl;
                },
              )
        ]
      ]
    ]
