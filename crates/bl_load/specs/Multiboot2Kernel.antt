-- A Multiboot2 kernel's file: what is loaded of it, where it is entered, how it may be moved; or
-- its first fault.
use Rattle.std.specs.Prelude.{◌≡◌, ℕ, Bool, if◌then◌else◌, List, [], ◌∷◌, Option, Some, None, ◌⊎◌}
use Rattle.std.specs.Option.{option_or}
use Rattle.std.specs.List.{list_any}
use Rattle.bl_mem.specs.declared.segment.Segment.{Segment}
use Rattle.bl_elf.specs.Elf.{ElfFacts, IsElf}
use Rattle.bl_elf.specs.Elf as elf
use Rattle.bl_mem.specs.SegmentContents.{is_in_segment}
use Rattle.bl_elf.specs.declared.fault.ElfFault.{ElfFault}
use Rattle.bl_elf.specs.declared.fault.ElfFault.TheVariants as elf_fault
use Rattle.bl_mb2head.specs.Header.{IsHeader}
use Rattle.bl_mb2head.specs.Header as header
use Rattle.bl_mb2head.specs.declared.header.Header.{Header}
use Rattle.bl_mb2head.specs.declared.relocation.Relocation.{Relocation}
use Rattle.bl_mb2head.specs.declared.fault.HeadFault.{HeadFault}
use Rattle.bl_mb2head.specs.declared.fault.HeadFault.TheVariants as head_fault
use Rattle.bl_load.specs.declared.refusal.Refusal.{Refusal}
use Rattle.bl_load.specs.declared.refusal.Refusal.TheVariants as refusal

-- a kernel: its segments in their order, the address that it is entered at where they lie as
-- linked, how it may be moved
pub record Multiboot2KernelFacts : Type 0 where
  pub segments : List Segment
  pub entry : ℕ
  pub relocation : Option Relocation

-- what the file gives to load, and the entry that it names itself: one segment where the header has
-- an address tag (Multiboot2 3.1.5), and else that of an ELF executable
abbrev pub IsLoadedBy : List ℕ → Option Segment → ElfFacts → Type 0
IsLoadedBy file (Some segment) facts = facts ≡ record { segments = segment ∷ []; entry = None }
IsLoadedBy file None facts = IsElf file facts

-- the entry that counts must lie in a segment
abbrev pub entry_point_fault : List Segment → Option ℕ → Option Refusal
entry_point_fault segments None = Some refusal.NoEntry
entry_point_fault segments (Some entry) =
    if list_any (is_in_segment entry) segments then None else Some refusal.EntryOutside

-- the entry address tag (Multiboot2 3.1.6) counts where it stands, and else the file's own entry
abbrev pub effective_entry_point : Header → ElfFacts → Option ℕ
effective_entry_point header facts = option_or header.entry facts.entry

-- on a machine that has a screen or none, this is what is read of a kernel's file
pub record IsMultiboot2Kernel (has_screen : Bool) (file : List ℕ) (kernel : Multiboot2KernelFacts)
    : Type 0 where
  pub header : Header
  pub facts : ElfFacts
  pub is_header : IsHeader has_screen file header
  pub loaded : IsLoadedBy file header.segment facts
  pub sound : entry_point_fault facts.segments (effective_entry_point header facts) ≡ None
  pub entry : effective_entry_point header facts ≡ Some kernel.entry
  pub segments : kernel.segments ≡ facts.segments
  pub relocation : kernel.relocation ≡ header.relocation

-- a reader's fault as a refusal of the entry
abbrev pub head_refusal : HeadFault → Refusal
head_refusal head_fault.NoHeader = refusal.NoHeader
head_refusal head_fault.HeaderCut = refusal.HeaderCut
head_refusal head_fault.BadArchitecture = refusal.BadArchitecture
head_refusal (head_fault.BadTag offset) = refusal.BadTag offset
head_refusal (head_fault.UnsupportedTag type) = refusal.UnsupportedTag type
head_refusal (head_fault.UnsupportedRequest type) = refusal.UnsupportedRequest type
head_refusal head_fault.NoConsole = refusal.NoConsole

abbrev pub elf_refusal : ElfFault → Option Refusal
elf_refusal elf_fault.NotElf = Some refusal.NotElf
elf_refusal elf_fault.BadElf = Some refusal.BadElf
elf_refusal (elf_fault.SegmentCut i) = Some (refusal.SegmentCut i)
elf_refusal (elf_fault.AddressTooHigh i) = Some (refusal.AddressTooHigh i)
elf_refusal (elf_fault.SegmentsOverlap i j) = Some (refusal.SegmentsOverlap i j)
elf_refusal elf_fault.NoEntry = Some refusal.NoEntry
elf_refusal elf_fault.NoMemory = None

-- the fault of what a sound header leads to: that of the ELF file, and none where the header's
-- address tag says what is loaded
abbrev pub HasElfRefusal : List ℕ → Option Segment → Refusal → Type 0
HasElfRefusal file (Some segment) refused = ⊥
HasElfRefusal file None refused =
    (fault : ElfFault) × (elf_refusal fault ≡ Some refused) × elf.HasFirstElfFault file fault

-- the file's first fault: the header's, the ELF file's, the entry's
abbrev pub HasMultiboot2Fault : Bool → List ℕ → Refusal → Type 0
HasMultiboot2Fault has_screen file refused =
    ((fault : HeadFault) × header.HasFirstHeadFault has_screen file fault
    × (refused ≡ head_refusal fault))
    ⊎ ((head : Header) × IsHeader has_screen file head × HasElfRefusal file head.segment refused)
    ⊎ ((head : Header) × (facts : ElfFacts) × IsHeader has_screen file head
    × IsLoadedBy file head.segment facts
    × (entry_point_fault facts.segments (effective_entry_point head facts) ≡ Some refused))
