-- The image of a Multiboot2 entry's handover shows the entry.
use Rattle.std.proofs.Common.{◌≡◌, zero-add, ◌≤◌, ◌++◌, List, [], map, length, take, Some, None}
use Rattle.std.proofs.Common.{ℕ, refl, sym, ap, ◌∙◌, inl, arith, subst, AllPairs}
use Rattle.std.specs.Prelude.{codes}
use Rattle.std.proofs.Math.Seq.{take-length}
use Rattle.bl_map.specs.MachineFacts.{MachineFacts, IsWellFormedMachine}
use Rattle.bl_plan.specs.AddressOrder.{places_in_order}
use Rattle.bl_plan.specs.Placed.{ArePlaced}
use Rattle.bl_plan.specs.declared.part.Place.{Place}
use Rattle.bl_plan.specs.declared.protocol.Protocol.{Protocol}
use Rattle.bl_plan.specs.declared.protocol.Protocol.TheVariants.{Multiboot2}
use Rattle.bl_plan.specs.declared.part.Role.TheVariants.{Kernel, Module, Information}
use Rattle.bl_load.specs.Addresses.{address_of}
use Rattle.bl_load.specs.Handover.{end_of}
use Rattle.bl_load.specs.Multiboot2Kernel.{Multiboot2KernelFacts, IsMultiboot2Kernel}
use Rattle.bl_load.specs.WellFormedEntry.{IsWellFormedValue}
use Rattle.bl_load.specs.Parts.{handover_of, entered_at, kernel_entry_base}
use Rattle.bl_load.specs.KernelReading.{multiboot2, has_screen}
use Rattle.bl_load.specs.Registers.{entry_in, information_in}
use Rattle.bl_load.specs.Rows.{rows_of, kernel_rows, module_rows}
use Rattle.bl_load.specs.EntryValue.{EntryValue, kernel_file, module_file, lines_fault, lines_of}
use Rattle.bl_walk.specs.Seen.{HasTotalSize, IsInformation, HasInformation, InformationShows}
use Rattle.bl_walk.specs.Seen.{IsSeen, firmware_in_information}
use Rattle.bl_walk.specs.internal.Walking.{seen_without_files}
use Rattle.bl_walk.specs.SeenFacts.{SeenFacts}
use Rattle.bl_walk.specs.EntryShown.{ShowsSegments, ShowsKernel, ShowsModules, ShowsFiles}
use Rattle.bl_walk.specs.EntryShown.{ShowsEntry, told_firmware}
use Rattle.bl_walk.specs.State.{IsEntered}
use Rattle.bl_walk.specs.PartBytes.{bytes_in}
use Rattle.bl_walk.proofs.EnteredLemmas.{entered_place}
use Rattle.bl_walk.proofs.OneToldLemmas.{no_descriptors, not_wide}
use Rattle.bl_walk.proofs.RegisterLemmas.{as_entered, entered_from, entry_offset}
use Rattle.bl_walk.proofs.RegisterLemmas.{information_from}
use Rattle.bl_walk.proofs.KernelLemmas.{AreSplit, are_split, first_places, kernel_shown, seen_place}
use Rattle.bl_walk.proofs.SegmentLemmas.{kernel_rows_of_kernel, segments_shown}
use Rattle.bl_walk.proofs.EntryPartLemmas.{entered_in}
use Rattle.bl_walk.proofs.InformationLemmas.{first_word, shown_modules, modules_seen, lines_shown}
use Rattle.bl_walk.proofs.InformationLemmas.{files_shown}
use Rattle.bl_walk.proofs.TextLemmas.{name_is, modules_other}
use Rattle.bl_walk.proofs.InformationHeld.{content, parts, told, last, held, information_held}
use Rattle.bl_walk.proofs.InformationHeld.{module_held, fits, size_is, handover, text, long}

module _ (facts : MachineFacts) (value : EntryValue) (kernel : Multiboot2KernelFacts)
    (places : List Place)
    (machine : IsWellFormedMachine facts) (offered : IsWellFormedValue value)
    (lines : lines_fault (lines_of value) ≡ None)
    (is_kernel : IsMultiboot2Kernel (has_screen facts) (kernel_file value) kernel)
    (placed : ArePlaced facts [] (rows_of facts value (multiboot2 kernel)) places)
    (apart : AllPairs (λ p q. end_of p ≤ q.address)
    (handover_of facts value (multiboot2 kernel) places).parts) where
  module _ (protocol : value.protocol ≡ Multiboot2) where
    information_there : information_in (handover facts value kernel places).registers
        ≡ address_of Information 0 places
    information_there = information_from (multiboot2 kernel) places value.protocol protocol

    total : HasTotalSize (handover facts value kernel places)
        (length (text facts value kernel places))
    total = record {
      protocol = protocol;
      word = take 4 (text facts value kernel places);
      whole =
          let least =
          long facts value kernel places machine offered lines is_kernel placed apart in
          ap (λ (a : ℕ). bytes_in (parts facts value kernel places) a 4) information_there
          ∙ held facts value kernel places machine offered lines is_kernel placed apart
          Information 0 4
          (information_held facts value kernel places machine offered lines is_kernel
          placed apart) (omega arith);
      told =
          first_word (codes "bootcore") (told facts value kernel places)
          (size_is facts value kernel places machine offered lines is_kernel placed apart);
      small = size_is facts value kernel places machine offered lines is_kernel placed apart;
    }

    is_information : IsInformation (handover facts value kernel places)
        (text facts value kernel places)
    is_information = record {
      size = length (text facts value kernel places);
      total_size = total;
      least = long facts value kernel places machine offered lines is_kernel placed apart;
      whole =
          ap
          (λ (a : ℕ).
          bytes_in (parts facts value kernel places) a (length (text facts value kernel places)))
          information_there
          ∙ held facts value kernel places machine offered lines is_kernel placed apart Information
          0 (length (text facts value kernel places))
          (information_held facts value kernel places machine offered lines is_kernel placed
          apart) (omega arith)
          ∙ ap Some (take-length (text facts value kernel places));
    }

    says : HasInformation (handover facts value kernel places)
        record { name = codes "bootcore"; facts = told facts value kernel places }
    says = record {
      bytes = text facts value kernel places;
      information = is_information;
      spelling =
          record {
            short = size_is facts value kernel places machine offered lines is_kernel placed apart;
            exact = refl;
            name = name_is;
            facts =
                fits facts value kernel places machine offered lines is_kernel placed apart;
          };
    }

    abbrev pub seen : SeenFacts
    seen = record (seen_without_files (handover facts value kernel places) value.line facts.runs
        (firmware_in_information (told facts value kernel places))) {
          modules = shown_modules value.files places 0 value.module_lines;
          rsdp_old = value.rsdp_old;
          rsdp_new = value.rsdp_new;
        }

    shows : InformationShows (handover facts value kernel places) seen
    shows = record {
      info = record { name = codes "bootcore"; facts = told facts value kernel places };
      says = says;
      line = refl;
      modules =
          modules_seen (parts facts value kernel places) value.files places 0 value.module_lines
          (λ i from upto.
          held facts value kernel places machine offered lines is_kernel placed apart Module i
          (length (module_file value.files i))
          (module_held facts value kernel places machine offered lines is_kernel placed apart
          i (omega arith))
          (omega arith) ∙ ap Some (take-length (module_file value.files i)));
      initrd = refl;
      runs = refl;
      rsdp_old = refl;
      rsdp_new = refl;
      firmware = refl;
    }

    pub information_seen : IsSeen (handover facts value kernel places) seen
    information_seen = record { protocol = refl; entry = refl; kernel = refl; shown = inl shows }

    split : AreSplit facts [] (kernel_rows kernel.segments kernel.relocation)
        (module_rows value.files 0 value.module_lines ++ last facts value kernel places) places
    split =
        are_split facts [] (kernel_rows kernel.segments kernel.relocation)
        (module_rows value.files 0 value.module_lines ++ last facts value kernel places) places
        placed

    kernel_seen : seen.kernel ≡ map seen_place (places_in_order split.places_first)
    kernel_seen =
        kernel_shown facts value (multiboot2 kernel) places lines (protocol, is_kernel) placed
        ∙ ap (map seen_place)
        (first_places facts (kernel_rows kernel.segments kernel.relocation)
        (module_rows value.files 0 value.module_lines ++ last facts value kernel places) places
        split
        (kernel_rows_of_kernel kernel.segments kernel.relocation)
        (modules_other facts value kernel.relocation))

    entered : entry_in (handover facts value kernel places).registers
        ≡ kernel_entry_base (multiboot2 kernel) places
    entered =
        let from = entered_from (multiboot2 kernel) places value.protocol in
        let none = ap entry_offset protocol in
        omega (arith, from, none)

    segments : ShowsSegments kernel.segments kernel.entry kernel.relocation seen
    segments =
        segments_shown facts kernel.segments kernel.entry kernel.relocation split.places_first
        split.places_rest seen split.placed_first
        (entered
        ∙ ap
        (λ (ps : List Place).
        entered_at kernel.entry kernel.segments kernel.relocation (address_of Kernel 0 ps))
        split.both) kernel_seen

    modules : ShowsModules value seen
    modules = record {
      lines = lines_shown value.files places 0 value.module_lines;
      files =
          λ k within.
          files_shown value.files places 0 value.module_lines k within
          ∙ ap (module_file value.files) (zero-add k);
      initrd = refl;
      rsdp_old = refl;
      rsdp_new = refl;
    }

    pub information_shown : ShowsEntry facts value seen
    information_shown = record {
      protocol = refl;
      line = refl;
      kernel =
          subst (λ (p : Protocol). ShowsKernel facts value seen p) (sym protocol)
          (kernel, is_kernel, segments);
      files = subst (λ (p : Protocol). ShowsFiles value seen p) (sym protocol) modules;
      runs = refl;
      firmware =
          subst (λ (p : Protocol). seen.firmware ≡ told_firmware facts.firmware p)
          (sym protocol) refl;
    }

    pub information_entered : IsEntered (handover facts value kernel places)
    information_entered =
        let start = kernel_entry_base (multiboot2 kernel) places in
        let rest = module_rows value.files 0 value.module_lines ++ last facts value kernel places in
        record {
          registers = as_entered (multiboot2 kernel) places value.protocol;
          kernel =
              rw entered
              (entered_in places (content facts value kernel places) apart start
              (entered_place facts (kernel_file value) kernel rest is_kernel places placed));
          descriptors = λ gdt handed. absurd (no_descriptors value.protocol gdt protocol handed);
          paging = λ wide. absurd (not_wide value.protocol protocol wide);
        }
