-- The image of a Linux entry's handover shows the entry.
use Rattle.std.proofs.Common.{◌≡◌, ◌≤◌, ◌+◌, ◌∷◌, ℕ, List, [], map, Some, None, refl, sym, ap, ◌∙◌}
use Rattle.std.proofs.Common.{inr}
use Rattle.std.proofs.Common.{arith, length, take, true, AllPairs}
use Rattle.std.proofs.Math.Seq.{take-length}
use Rattle.bl_map.specs.MachineFacts.{MachineFacts, IsWellFormedMachine}
use Rattle.bl_bzimage.specs.declared.setup.Setup.{Setup}
use Rattle.bl_params.specs.Paging.{paging}
use Rattle.bl_params.proofs.PagingLaws.{below}
use Rattle.bl_params.proofs.PagingLemmas.{length-paging}
use Rattle.bl_plan.specs.Placed.{ArePlaced}
use Rattle.bl_plan.specs.declared.part.Place.{Place}
use Rattle.bl_plan.specs.declared.protocol.Protocol.{Protocol}
use Rattle.bl_plan.specs.declared.protocol.Protocol.TheVariants.{Multiboot2, Linux, Linux64}
use Rattle.bl_plan.specs.declared.part.Role.TheVariants.{Kernel, Gdt, PageTables}
use Rattle.bl_load.specs.Addresses.{address_of}
use Rattle.bl_load.specs.Handover.{end_of}
use Rattle.bl_load.specs.LinuxKernel.{IsLinuxKernel}
use Rattle.bl_load.specs.LinuxRows.{linux_kernel_row}
use Rattle.bl_load.specs.WellFormedEntry.{IsWellFormedValue}
use Rattle.bl_load.specs.Parts.{handover_of}
use Rattle.bl_load.specs.Protocols.{has_params}
use Rattle.bl_load.specs.KernelReading.{linux}
use Rattle.bl_load.specs.Rows.{rows_of}
use Rattle.bl_load.specs.EntryValue.{EntryValue, kernel_file, lines_fault, lines_of}
use Rattle.bl_load.proofs.LinuxKernelLemmas.{setup_is}
use Rattle.bl_load.proofs.PageTablesLemmas.{tables_fit}
use Rattle.bl_walk.specs.declared.seen.SeenPart.{SeenPart}
use Rattle.bl_walk.specs.internal.Walking.{seen_without_files}
use Rattle.bl_walk.specs.Seen.{ParametersShow, IsSeen, firmware_in_parameters}
use Rattle.bl_walk.specs.SeenFacts.{SeenFacts}
use Rattle.bl_walk.specs.EntryShown.{ShowsEntry, ShowsKernel, ShowsFiles, ShowsPayload}
use Rattle.bl_walk.specs.EntryShown.{ShowsRamdisk, told_firmware}
use Rattle.bl_walk.specs.State.{IsEntered}
use Rattle.bl_walk.proofs.KernelLemmas.{AreSplit, are_split, first_places, kernel_shown, seen_place}
use Rattle.bl_walk.proofs.EntryPartLemmas.{entered_in}
use Rattle.bl_walk.proofs.RegisterLemmas.{as_entered, entered_from, gdt_from}
use Rattle.bl_walk.proofs.RegisterLemmas.{entry_offset, tables_from}
use Rattle.bl_walk.proofs.ParametersLemmas.{params_rows, kernel_of_kernel, params_other, payload_at}
use Rattle.bl_walk.proofs.ParametersLemmas.{kernel_entered, tables_row}
use Rattle.bl_walk.proofs.ParametersHeld.{initrd, content, handover, params, held}
use Rattle.bl_walk.proofs.ParametersHeld.{placed_row, say, line_seen, ramdisk}

module _ (facts : MachineFacts) (value : EntryValue) (setup : Setup) (places : List Place)
    (machine : IsWellFormedMachine facts) (offered : IsWellFormedValue value)
    (lines : lines_fault (lines_of value) ≡ None) (handed : has_params value.protocol ≡ true)
    (is_kernel : IsLinuxKernel value.protocol facts.runs value.line (kernel_file value) setup)
    (placed : ArePlaced facts [] (rows_of facts value (linux setup)) places)
    (apart : AllPairs (λ p q. end_of p ≤ q.address)
    (handover_of facts value (linux setup) places).parts) where
  -- ---- all of it

  abbrev pub seen : SeenFacts
  seen = record (seen_without_files (handover facts value setup places) value.line facts.runs
      (firmware_in_parameters (params facts value setup places))) {
        initrd =
            (ramdisk facts value setup places machine offered lines handed is_kernel placed apart
            (initrd facts value setup places) refl).0;
      }

  shows : ParametersShow (handover facts value setup places) seen
  shows =
      record {
        params = params facts value setup places;
        say = say facts value setup places machine offered lines handed is_kernel placed apart;
        line =
            line_seen facts value setup places machine offered lines handed is_kernel placed apart;
        modules = refl;
        initrd =
            (ramdisk facts value setup places machine offered lines handed is_kernel placed apart
            (initrd facts value setup places) refl).1;
        runs = refl;
        rsdp_old = refl;
        rsdp_new = refl;
        firmware = refl;
      }

  pub linux_seen : IsSeen (handover facts value setup places) seen
  linux_seen = record { protocol = refl; entry = refl; kernel = refl; shown = inr shows }

  split : AreSplit facts [] (linux_kernel_row setup ∷ [])
      (params_rows value.protocol setup (initrd facts value setup places)) places
  unfolding params_rows
  split =
      are_split facts [] (linux_kernel_row setup ∷ [])
      (params_rows value.protocol setup (initrd facts value setup places)) places placed

  kernel_part : seen.kernel
      ≡ record {
        address = address_of Kernel 0 places;
        length = (linux_kernel_row setup).length;
      } ∷ []
  kernel_part =
      kernel_shown facts value (linux setup) places lines (handed, is_kernel) placed
      ∙ ap (map seen_place)
      (first_places facts (linux_kernel_row setup ∷ [])
      (params_rows value.protocol setup (initrd facts value setup places)) places split
      (kernel_of_kernel setup)
      (params_other value.protocol setup (initrd facts value setup places)))
      ∙ payload_at facts setup split.places_first split.places_rest split.placed_first
      ∙ ap
      (λ (ps : List Place).
      (let part : SeenPart =
      record {
        address = address_of Kernel 0 ps;
        length = (linux_kernel_row setup).length;
      } in part ∷ [])) (sym split.both)

  payload : ShowsPayload (entry_offset value.protocol) setup seen
  payload = record {
    base = address_of Kernel 0 places;
    entry = entered_from (linux setup) places value.protocol;
    kernel = kernel_part;
  }

  -- so a kernel is shown that is handed boot parameters, and its files
  kernel_by : (p : Protocol) → has_params p ≡ true → ShowsPayload (entry_offset p) setup seen
      → ShowsKernel facts value seen p
  kernel_by Multiboot2 is shown = absurd (cc)
  kernel_by Linux is shown = (setup, setup_is is_kernel, shown)
  kernel_by Linux64 is shown = (setup, setup_is is_kernel, shown)

  firmware_by : (p : Protocol) → has_params p ≡ true
      → seen.firmware ≡ told_firmware facts.firmware p
  firmware_by Multiboot2 is = absurd (cc)
  firmware_by Linux is = refl
  firmware_by Linux64 is = refl

  files_by : (p : Protocol) → has_params p ≡ true → ShowsRamdisk value seen
      → ShowsFiles value seen p
  files_by Multiboot2 is shown = absurd (cc)
  files_by Linux is shown = shown
  files_by Linux64 is shown = shown

  pub linux_shown : ShowsEntry facts value seen
  linux_shown = record {
    protocol = refl;
    line = refl;
    kernel = kernel_by value.protocol handed payload;
    files =
        files_by value.protocol handed
        (record {
          modules = refl;
          initrd =
              (ramdisk facts value setup places machine offered lines handed is_kernel placed
              apart (initrd facts value setup places) refl).2;
          rsdp_old = refl;
          rsdp_new = refl;
        });
    runs = refl;
    firmware = firmware_by value.protocol handed;
  }

  pub linux_entered : IsEntered (handover facts value setup places)
  unfolding params_rows
  linux_entered = record {
    registers = as_entered (linux setup) places value.protocol;
    kernel =
        rw (entered_from (linux setup) places value.protocol)
        (entered_in places (content facts value setup places) apart
        (address_of Kernel 0 places + entry_offset value.protocol)
        (kernel_entered facts value.protocol facts.runs value.line (kernel_file value) setup
        (initrd facts value setup places) places is_kernel placed));
    descriptors =
        λ gdt is.
        let own : content facts value setup places Gdt 0 ≡ gdt = rw is refl in
        let long = ap length own in
        let there =
        held facts value setup places machine offered lines handed is_kernel placed apart Gdt 0
        (length gdt)
        (placed_row facts value setup places machine offered lines handed is_kernel placed apart
        Gdt refl) (omega arith)
        ∙ ap Some (ap (take (length gdt)) own ∙ take-length gdt) in
        rw (gdt_from (linux setup) places value.protocol gdt is) there;
    paging =
        λ wide.
        let base = address_of PageTables 0 places in
        let long = length-paging base in
        let there =
        held facts value setup places machine offered lines handed is_kernel placed apart
        PageTables 0 0x6000
        (placed_row facts value setup places machine offered lines handed is_kernel placed apart
        PageTables (tables_row value.protocol setup (initrd facts value setup places) wide))
        (omega arith)
        ∙ ap Some (ap (λ (n : ℕ). take n (paging base)) (sym long) ∙ take-length (paging base)) in
        let low =
        (tables_fit facts value.protocol setup (initrd facts value setup places) places placed).1 in
        rw (tables_from (linux setup) places value.protocol wide)
        (paging base, there, λ a small. below base a low small);
  }
