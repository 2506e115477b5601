-- An entry that is refused by 19 or 20 has a part that finds no place.
use Rattle.std.proofs.Common.{◌≡◌, ◌∙◌, ◌==◌, Bool, true, false, List, [], ◌∷◌, ℕ, length, Option}
use Rattle.std.proofs.Common.{Some, None, refl, sym, ap, inl, inr}
use Rattle.std.specs.Prelude.{if◌then◌else◌, not, nat_le, nat_lt, option_map}
use Rattle.std.specs.List.{list_any}
use Rattle.std.specs.Option.{option_or}
use Rattle.std.proofs.lemmas.Option.{same_Some}
use Rattle.bl_mem.specs.SegmentContents.{is_in_segment}
use Rattle.bl_mem.specs.declared.segment.Segment.{Segment}
use Rattle.bl_map.specs.MachineFacts.{MachineFacts}
use Rattle.bl_map.specs.declared.region.Region.{Region}
use Rattle.bl_mb2head.specs.declared.fault.HeadFault.{HeadFault}
use Rattle.bl_mb2head.specs.declared.fault.HeadFault.TheVariants as heads
use Rattle.bl_elf.specs.declared.fault.ElfFault.{ElfFault}
use Rattle.bl_elf.specs.declared.fault.ElfFault.TheVariants as elves
use Rattle.bl_bzimage.specs.Setup.{setup_fault, setup_of}
use Rattle.bl_bzimage.specs.declared.fault.SetupFault.{SetupFault}
use Rattle.bl_bzimage.specs.declared.fault.SetupFault.TheVariants as setups
use Rattle.bl_bzimage.specs.declared.setup.Setup.{Setup}
use Rattle.bl_params.specs.ParamsToWriteFacts.{max_e820_entries}
use Rattle.bl_plan.specs.MenuLimits.{max_line}
use Rattle.bl_plan.specs.declared.protocol.Protocol.{Protocol}
use Rattle.bl_plan.specs.declared.protocol.Protocol.TheVariants.{Multiboot2, Linux, Linux64}
use Rattle.bl_load.specs.Multiboot2Kernel.{HasMultiboot2Fault, HasElfRefusal, effective_entry_point}
use Rattle.bl_load.specs.Multiboot2Kernel.{elf_refusal}
use Rattle.bl_load.specs.Multiboot2Kernel.{entry_point_fault, head_refusal}
use Rattle.bl_load.specs.LinuxKernel.{entering_fault, entry_64, has_64_bit_entry, linux_fault}
use Rattle.bl_load.specs.LinuxKernel.{setup_refusal, telling_fault}
use Rattle.bl_load.specs.Parts.{IsRefusal, OrRefused, handover_of}
use Rattle.bl_load.specs.KernelReading.{HasKernelFileFault, has_screen}
use Rattle.bl_load.specs.Unplaced.{IsUnplaced, IsFaultBeforePlacing}
use Rattle.bl_load.specs.EntryValue.{EntryValue, kernel_file, line_fault, lines_fault, lines_of}
use Rattle.bl_load.specs.declared.refusal.PrepFault.TheVariants.{Refused}
use Rattle.bl_load.specs.declared.refusal.Refusal.{Refusal}
use Rattle.bl_load.specs.declared.refusal.Refusal.TheVariants as refusals
use Rattle.bl_load.proofs.HandoverLaws.{not_both, one_refusal}
use Rattle.program_boots.specs.explaining.AttemptedEntries.{HasNoPlace, is_placing}

-- ---- a first fault that is neither 19 nor 20

abbrev pub IsOther : Option Refusal → Type 0
IsOther fault = (r : Refusal) → fault ≡ Some r → is_placing r ≡ false

pub other_is : (a : Refusal) → is_placing a ≡ false → IsOther (Some a)
other_is a other = λ r same. ap is_placing (sym (same_Some a r same)) ∙ other

pub no_other : IsOther None
no_other = λ r same. let bad : None ≡ Some r = same in absurd cc

pub other_or : (first rest : Option Refusal) → IsOther first → IsOther rest
    → IsOther (option_or first rest)
other_or None rest a b = b
other_or (Some x) rest a b = a

pub other_if : (b : Bool) (x y : Option Refusal) → IsOther x → IsOther y
    → IsOther (if b then x else y)
other_if true x y a c = a
other_if false x y a c = c

-- ---- lines

other_line : (line : List ℕ) → IsOther (line_fault line)
unfolding line_fault
other_line line =
    other_if (list_any (λ b. b == 0) line) (Some refusals.LineHasNul)
    (if nat_lt max_line (length line) then Some refusals.LineTooLong else None)
    (other_is refusals.LineHasNul refl)
    (other_if (nat_lt max_line (length line)) (Some refusals.LineTooLong) None
    (other_is refusals.LineTooLong refl) no_other)

other_lines : (lines : List (List ℕ)) → IsOther (lines_fault lines)
other_lines [] = no_other
other_lines (line ∷ lines) =
    other_or (line_fault line) (lines_fault lines) (other_line line) (other_lines lines)

-- ---- a Multiboot2 kernel

other_head : (fault : HeadFault) → is_placing (head_refusal fault) ≡ false
other_head heads.NoHeader = refl
other_head heads.HeaderCut = refl
other_head heads.BadArchitecture = refl
other_head (heads.BadTag offset) = refl
other_head (heads.UnsupportedTag type) = refl
other_head (heads.UnsupportedRequest type) = refl
other_head heads.NoConsole = refl

other_elf : (fault : ElfFault) → IsOther (elf_refusal fault)
other_elf elves.NotElf = other_is refusals.NotElf refl
other_elf elves.BadElf = other_is refusals.BadElf refl
other_elf (elves.SegmentCut i) = other_is (refusals.SegmentCut i) refl
other_elf (elves.AddressTooHigh i) = other_is (refusals.AddressTooHigh i) refl
other_elf (elves.SegmentsOverlap i j) = other_is (refusals.SegmentsOverlap i j) refl
other_elf elves.NoEntry = other_is refusals.NoEntry refl
other_elf elves.NoMemory = no_other

other_entry : (segments : List Segment) (entry : Option ℕ) → IsOther (entry_point_fault segments entry)
other_entry segments None = other_is refusals.NoEntry refl
other_entry segments (Some entry) =
    other_if (list_any (is_in_segment entry) segments) None (Some refusals.EntryOutside) no_other
    (other_is refusals.EntryOutside refl)

other_load : (file : List ℕ) (segment : Option Segment) (r : Refusal)
    → HasElfRefusal file segment r → is_placing r ≡ false
other_load file (Some segment) r has = absurd has
other_load file None r (fault, same, has) = other_elf fault r same

other_kernel : (screen : Bool) (file : List ℕ) (r : Refusal) → HasMultiboot2Fault screen file r
    → is_placing r ≡ false
other_kernel screen file r (inl (fault, first, same)) = ap is_placing same ∙ other_head fault
other_kernel screen file r (inr (inl (h, is, load))) = other_load file h.segment r load
other_kernel screen file r (inr (inr (h, facts, is, loaded, same))) =
    other_entry facts.segments (effective_entry_point h facts) r same

-- ---- a Linux kernel

other_setup : (fault : Option SetupFault) → IsOther (option_map setup_refusal fault)
other_setup None = no_other
other_setup (Some setups.NotBzImage) = other_is refusals.NotBzImage refl
other_setup (Some setups.OldProtocol) = other_is refusals.OldProtocol refl
other_setup (Some setups.NotHigh) = other_is refusals.NotHigh refl
other_setup (Some setups.SetupCut) = other_is refusals.SetupCut refl
other_setup (Some setups.BadAlign) = other_is refusals.BadAlign refl
other_setup (Some setups.BadPreferred) = other_is refusals.BadPreferred refl

other_entering : (protocol : Protocol) (setup : Setup) → IsOther (entering_fault protocol setup)
other_entering Multiboot2 setup = no_other
other_entering Linux setup = no_other
other_entering Linux64 setup =
    other_if (not (has_64_bit_entry setup)) (Some refusals.No64Entry)
    (if nat_le setup.payload_size entry_64 then Some refusals.EntryOutside else None)
    (other_is refusals.No64Entry refl)
    (other_if (nat_le setup.payload_size entry_64) (Some refusals.EntryOutside) None
    (other_is refusals.EntryOutside refl) no_other)

other_telling : (runs : List Region) (line : List ℕ) (setup : Setup)
    → IsOther (telling_fault runs line setup)
other_telling runs line setup =
    other_if (nat_lt setup.cmdline_size (length line)) (Some refusals.LineTooLong)
    (if nat_lt max_e820_entries (length runs) then Some refusals.MapTooLong else None)
    (other_is refusals.LineTooLong refl)
    (other_if (nat_lt max_e820_entries (length runs)) (Some refusals.MapTooLong) None
    (other_is refusals.MapTooLong refl) no_other)

other_linux : (protocol : Protocol) (runs : List Region) (line file : List ℕ)
    → IsOther (linux_fault protocol runs line file)
other_linux protocol runs line file =
    other_or (option_map setup_refusal (setup_fault file))
    (option_or (entering_fault protocol (setup_of file)) (telling_fault runs line (setup_of file)))
    (other_setup (setup_fault file))
    (other_or (entering_fault protocol (setup_of file)) (telling_fault runs line (setup_of file))
    (other_entering protocol (setup_of file)) (other_telling runs line (setup_of file)))

-- ---- whatever refuses before a place is looked for

other_read : (facts : MachineFacts) (value : EntryValue) (r : Refusal)
    → HasKernelFileFault facts value r → is_placing r ≡ false
other_read facts value r (inl (is, fault)) =
    other_kernel (has_screen facts) (kernel_file value) r fault
other_read facts value r (inr (is, fault)) =
    other_linux value.protocol facts.runs value.line (kernel_file value) r fault

other_early : (facts : MachineFacts) (value : EntryValue) (r : Refusal)
    → OrRefused (lines_fault (lines_of value)) (HasKernelFileFault facts value) r → is_placing r ≡ false
other_early facts value r (inl lines) = other_lines (lines_of value) r lines
other_early facts value r (inr (none, read)) = other_read facts value r read

as_refusal : (facts : MachineFacts) (value : EntryValue) (r : Refusal)
    → OrRefused (lines_fault (lines_of value)) (HasKernelFileFault facts value) r
    → IsRefusal facts value r
as_refusal facts value r (inl lines) = inl lines
as_refusal facts value r (inr (none, read)) = inr (none, inl read)

not_early : (facts : MachineFacts) (value : EntryValue) (r s : Refusal) → is_placing r ≡ true
    → IsRefusal facts value r → IsFaultBeforePlacing facts value (Refused s) → ⊥
not_early facts value r s placing is fault =
    let same : r ≡ s = one_refusal facts value r s is (as_refusal facts value s fault) in
    let bad : true ≡ false =
    sym placing ∙ ap is_placing same ∙ other_early facts value s fault in absurd cc

not_placed : (facts : MachineFacts) (value : EntryValue) (r : Refusal)
    → IsRefusal facts value r → IsUnplaced facts value None → ⊥
not_placed facts value r is placed =
    not_both facts value (handover_of facts value placed.reading placed.is.0) r
    (record {
      reading = placed.reading;
      places = placed.is.0;
      lines = placed.lines;
      read = placed.read;
      placed = placed.is.1;
      is = refl;
    })
    is

-- ---- an entry that is refused by 19 or 20

-- is not refused earlier
pub no_place_read : (facts : MachineFacts) (value : EntryValue) (s : Refusal)
    → HasNoPlace facts value → IsFaultBeforePlacing facts value (Refused s) → ⊥
no_place_read facts value s (inl is) fault =
    not_early facts value refusals.NotUsable s refl is fault
no_place_read facts value s (inr is) fault = not_early facts value refusals.NoRoom s refl is fault

-- and not each of its parts has a place
pub no_place_placed : (facts : MachineFacts) (value : EntryValue) → HasNoPlace facts value
    → IsUnplaced facts value None → ⊥
no_place_placed facts value (inl is) placed = not_placed facts value refusals.NotUsable is placed
no_place_placed facts value (inr is) placed = not_placed facts value refusals.NoRoom is placed
